use Rattle.std.proofs.Common.{◌≡◌, IfOk, refl, subst, arith}
use Rattle.script_reader.specs.Documents.{doc_of}
use Rattle.world_runs.proofs.Passed.{runs-first}
use Rattle.replay_top.specs.Generated.{document_of, whole_counts}
use Rattle.replay_top.proofs.Grown.{whole-counted}
use Rattle.replay_top.proofs.generating.counts_of.Goals as goal

pub count_beats-requires-clause-going : goal.count_beats-requires-clause-going
count_beats-requires-clause-going g c =
    let kept = c.in_ok-world.ensures.ready in
    record { ready = kept.0; up_to = omega (arith, kept.1); within = omega (arith, kept.2) }

pub count_beats-requires-clause-runs : goal.count_beats-requires-clause-runs
count_beats-requires-clause-runs g c =
    let d = c.in_ok-document.document in
    let given = c.in_ok-document.ensures in
    let made = c.in_ok-world.ensures in
    let steps = c.args.steps.now in
    (doc_of d, steps, runs-first (doc_of d) steps c.in_ok-world.world d.names given.lawful given.well_named made.names made.ready.1 made.ready.2 made.stands)

pub returns-clause-whole : goal.returns-clause-whole
returns-clause-whole g c =
    let d = c.in_ok-document.document in
    let given = c.in_ok-document.ensures in
    let made = c.in_ok-world.ensures in
    let steps = c.args.steps.now in
    subst (λ doc. IfOk c.count_beats.result (λ counts. counts ≡ whole_counts doc)) given.document
    (c.count_beats.ensures.whole (doc_of d) steps
    (runs-first (doc_of d) steps c.in_ok-world.world d.names given.lawful given.well_named made.names made.ready.1 made.ready.2 made.stands) refl)

pub returns-clause-counted : goal.returns-clause-counted
returns-clause-counted g c =
    let d = c.in_ok-document.document in
    let given = c.in_ok-document.ensures in
    let made = c.in_ok-world.ensures in
    let steps = c.args.steps.now in
    whole-counted (doc_of d) (document_of c.args.sizes) steps c.count_beats.new.steps given.document
    (c.count_beats.ensures.counted (doc_of d) steps
    (runs-first (doc_of d) steps c.in_ok-world.world d.names given.lawful given.well_named made.names made.ready.1 made.ready.2 made.stands))
