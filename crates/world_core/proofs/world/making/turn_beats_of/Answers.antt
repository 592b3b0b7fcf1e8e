use Rattle.std.proofs.Common.{Some, sym, ap, ◌∙◌, arith}
use Rattle.std.proofs.lemmas.Option.{slice_get-get_or}
use Rattle.world_core.proofs.Passing.{noted-all, noted-first, noted-more}
use Rattle.world_core.proofs.world.making.turn_beats_of.Goals as goal

pub loop-i-init : goal.loop-i-init
loop-i-init c = noted-first c.args.processes.now c.in_ok-turn_beats.turn_beats c.in_ok-turn_beats.ensures.room c.in_ok-turn_beats.ensures.empty

pub loop-i-preserved : goal.loop-i-preserved
loop-i-preserved c =
    let xs = c.args.processes.now in
    let i = c.loop-i.i in
    let x = c.index-processes-i.result in
    noted-more xs i x c.loop-i.turn_beats c.set.new.self c.kept_beat.result c.loop-i.invariant (slice_get-get_or xs i x c.loop-i-test.true ∙ ap (λ y. Some y) (sym c.index-processes-i.is)) c.kept_beat.ensures c.set.ensures.room c.set.ensures.leaves

pub returns : goal.returns
returns c = noted-all c.args.processes.now c.loop-i.i c.loop-i.turn_beats (omega (arith, c.loop-i-test.false, c.loop-i.auto.i-end)) c.loop-i.invariant
