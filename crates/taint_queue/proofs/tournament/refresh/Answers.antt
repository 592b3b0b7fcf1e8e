use Rattle.std.proofs.Common.{◌≡◌, ◌<◌, ◌-◌, ◌/◌, length, subst, arith}
use Rattle.taint_queue.specs.Tidy.{IsTidyBut}
use Rattle.taint_queue.proofs.Slots.{one_up, at_top}
use Rattle.taint_queue.proofs.tournament.refresh.Goals as goal

pub loop-slot-preserved : goal.loop-slot-preserved
loop-slot-preserved c =
    let slot = c.loop-slot.slot in
    let within : (slot - 1) / 2 < length c.args.waiting.now = omega (arith, c.loop-slot.invariant.within) in
    record {
      within = within;
      tidy = one_up c.args.waiting.now c.loop-slot.least slot c.best.result c.loop-slot.invariant.tidy (omega arith) (omega arith) c.best.ensures;
    }

pub returns : goal.returns
returns c =
    let top : c.loop-slot.slot ≡ 0 = omega arith in
    at_top c.args.waiting.now c.loop-slot.least c.best-2.result (subst (λ s. IsTidyBut c.args.waiting.now c.loop-slot.least s) top c.loop-slot.invariant.tidy) (omega arith) c.best-2.ensures
