use Rattle.std.proofs.Common.{◌/◌, ◌<◌, length, sym, ◌∙◌, arith}
use Rattle.std.proofs.lemmas.List.{length-set}
use Rattle.beat_tree.proofs.Slots.{at_other, found_is, none_up, one_up, slot_is}
use Rattle.beat_tree.proofs.tree.refresh.Goals as goal

pub returns-then-are_same-clause-tidy : goal.returns-then-are_same-clause-tidy
returns-then-are_same-clause-tidy c =
    let inv = c.loop-slot.invariant in
    let xs = c.loop-slot.slots in
    let s = c.loop-slot.slot / 2 in
    let found = found_is xs c.loop-slot.slot c.requires.even.0 c.earlier-beat.result inv.within (inv.long ∙ c.requires.even.1) c.earlier-beat.ensures in
    none_up xs s (sym (slot_is xs s (omega (arith, inv.within))) ∙ c.are_same.ensures.0 c.if-are_same.true ∙ found) inv.tidy

pub loop-slot-preserved : goal.loop-slot-preserved
loop-slot-preserved c =
    let inv = c.loop-slot.invariant in
    let xs = c.loop-slot.slots in
    let s = c.loop-slot.slot / 2 in
    let beat = c.earlier-beat.result in
    let within : s < length xs = omega (arith, inv.within) in
    let found = found_is xs c.loop-slot.slot c.requires.even.0 beat inv.within (inv.long ∙ c.requires.even.1) c.earlier-beat.ensures in
    record {
      some = omega (arith, c.loop-slot-test.true);
      within = (let long = length-set xs s beat in omega (arith, within, long));
      long = length-set xs s beat ∙ inv.long;
      tidy = one_up xs s beat (omega (arith, c.loop-slot-test.true)) within found inv.tidy;
      same = λ i low. at_other xs s i beat (λ e. omega (arith, e, low, inv.within, inv.long)) ∙ inv.same i low;
    }
