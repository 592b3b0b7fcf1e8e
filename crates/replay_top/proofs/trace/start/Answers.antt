use Rattle.std.proofs.Common.{arith}
use Rattle.script_reader.specs.Documents.{doc_of}
use Rattle.world_runs.proofs.Passed.{runs-first}
use Rattle.replay_top.proofs.trace.start.Goals as goal

pub returns-clause-first : goal.returns-clause-first
returns-clause-first c =
    let kept = c.in_ok-world.ensures.ready in
    (record { ready = kept.0; up_to = omega (arith, kept.1); within = omega (arith, kept.2) }, kept.1)

pub returns-clause-runs : goal.returns-clause-runs
returns-clause-runs c steps =
    let d = c.args.document in
    let made = c.in_ok-world.ensures in
    runs-first (doc_of d) steps c.in_ok-world.world d.names c.requires.lawful c.requires.named made.names made.ready.1 made.ready.2 made.stands
