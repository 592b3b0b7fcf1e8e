use Rattle.std.proofs.Common.{◌∙◌, arith}
use Rattle.world_gen.proofs.Fresh.{add-room, add-new, add-step}
use Rattle.world_gen.proofs.names.add_all.Goals as goal

pub add_new-requires-clause-few : goal.add_new-requires-clause-few
add_new-requires-clause-few c =
    add-room c.args.letter c.loop-i.i c.args.names.now c.loop-i.names c.args.count c.loop-i.invariant c.loop-i-test.true c.requires.few

pub add_new-requires-clause-fresh : goal.add_new-requires-clause-fresh
add_new-requires-clause-fresh c =
    add-new c.args.letter c.loop-i.i c.args.names.now c.loop-i.names c.as_str.result.now (omega arith)
    (c.requires.fresh c.loop-i.i c.loop-i-test.true) c.loop-i.invariant
    (c.as_str.ensures.value ∙ c.in_ok-text.ensures)

pub loop-i-preserved : goal.loop-i-preserved
loop-i-preserved c =
    add-step c.args.letter c.loop-i.i c.args.names.now c.loop-i.names c.add_new.new.names c.as_str.result.now c.loop-i.invariant
    (c.as_str.ensures.value ∙ c.in_ok-text.ensures) c.in_ok-add_new.ensures
