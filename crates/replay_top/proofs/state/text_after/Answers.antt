use Rattle.std.proofs.Common.{◌≡◌, ◌+◌, IfOk, sym, ap, ◌∙◌, subst, arith}
use Rattle.history.specs.History.{history}
use Rattle.kube_objects.specs.Stored.{stored}
use Rattle.manifest_json.specs.Written.{list_of}
use Rattle.object_store.specs.StoreAnswers.{object_of}
use Rattle.script_reader.specs.Documents.{doc_of}
use Rattle.script_reader.specs.Walk.{numbers_of}
use Rattle.world_core.specs.Worlds.{at_of}
use Rattle.world_runs.proofs.Passed.{runs-first}
use Rattle.kube_base.specs.Names.{AreNames}
use Rattle.replay_top.specs.State.{IsReadAgain, line_of, state, state_list, stored_after}
use Rattle.replay_top.proofs.States.{items-stored, moved, ok-both, state-readable}
use Rattle.replay_top.proofs.state.text_after.Goals as goal

pub run_up_to-requires-clause-going : goal.run_up_to-requires-clause-going
run_up_to-requires-clause-going g c =
    let kept = c.in_ok-world.ensures.ready in
    record { ready = kept.0; up_to = omega (arith, kept.1); within = omega (arith, c.requires.within, kept.2) }

pub run_up_to-requires-clause-runs : goal.run_up_to-requires-clause-runs
run_up_to-requires-clause-runs g c =
    let d = c.args.document in
    let made = c.in_ok-world.ensures in
    let steps = c.args.steps.now in
    (doc_of d, steps, runs-first (doc_of d) steps c.in_ok-world.world d.names c.requires.lawful c.requires.named made.names made.ready.1 made.ready.2 made.stands)

pub list_line-requires : goal.list_line-requires
list_line-requires g c =
    let d = c.args.document in
    let made = c.in_ok-world.ensures in
    let steps = c.args.steps.now in
    let first = runs-first (doc_of d) steps c.in_ok-world.world d.names c.requires.lawful c.requires.named made.names made.ready.1 made.ready.2 made.stands in
    let run = (c.in_ok-run_up_to.ensures.runs (doc_of d) steps first).0 in
    let going = c.in_ok-run_up_to.ensures.kept.0 in
    (c.in_ok-items.ensures.writable (doc_of d) (at_of c.run_up_to.new.world) run.own run.stands (omega (arith, going.up_to, going.within, run.end))).timely

pub returns-clause-text : goal.returns-clause-text
unfolding state_list state
returns-clause-text g c =
    let d = c.args.document in
    let doc = doc_of d in
    let last = c.args.last.0 in
    let w = c.run_up_to.new.world in
    let items = c.in_ok-items.items in
    let made = c.in_ok-world.ensures in
    let steps = c.args.steps.now in
    let first = runs-first doc steps c.in_ok-world.world d.names c.requires.lawful c.requires.named made.names made.ready.1 made.ready.2 made.stands in
    let run = c.in_ok-run_up_to.ensures.runs doc steps first in
    let named = c.names-names.ensures ∙ c.in_ok-run_up_to.ensures.kept.1 ∙ made.names in
    let known = c.as_slice-2.ensures ∙ c.in_ok-known.ensures ∙ ap (λ procs. numbers_of procs) c.as_slice.ensures in
    let all = items-stored (history doc (last + 1)) items c.in_ok-items.ensures.ascend
    (λ q. c.in_ok-items.ensures.stored doc (at_of w) (history doc (at_of w)) q run.0.stands ∙ ap (λ h. object_of (stored q h)) (sym run.1)) in
    let are : AreNames d.names = subst AreNames named c.len-held.ensures.names in
    ok-both _ c.list_line.result
    (λ (r : IsReadAgain d.names (numbers_of d.controllers) (stored_after (history doc (last + 1)))). record {
      text = r.text;
      list = λ scale few path. r.list scale (state-readable d.names doc (last + 1) are c.requires.lawful c.requires.named (omega (arith, c.requires.within)) scale few) path;
    })
    (moved (λ ns kn xs. IfOk c.list_line.result (λ text. text.items ≡ line_of (list_of ns kn xs))) named known all c.list_line.ensures.text)
    (moved (λ ns kn xs. IfOk c.list_line.result (λ text. IsReadAgain ns kn xs)) named known all c.list_line.ensures.reads_back)

pub returns-in_err-run_up_to-clause-counted : goal.returns-in_err-run_up_to-clause-counted
returns-in_err-run_up_to-clause-counted g c =
    let d = c.args.document in
    let made = c.in_ok-world.ensures in
    c.run_up_to.ensures.counted (doc_of d) c.args.steps.now
    (runs-first (doc_of d) c.args.steps.now c.in_ok-world.world d.names c.requires.lawful c.requires.named made.names made.ready.1 made.ready.2 made.stands)

pub returns-in_err-items-clause-counted : goal.returns-in_err-items-clause-counted
returns-in_err-items-clause-counted g c =
    let d = c.args.document in
    let made = c.in_ok-world.ensures in
    c.run_up_to.ensures.counted (doc_of d) c.args.steps.now
    (runs-first (doc_of d) c.args.steps.now c.in_ok-world.world d.names c.requires.lawful c.requires.named made.names made.ready.1 made.ready.2 made.stands)

pub returns-clause-counted : goal.returns-clause-counted
returns-clause-counted g c =
    let d = c.args.document in
    let made = c.in_ok-world.ensures in
    c.run_up_to.ensures.counted (doc_of d) c.args.steps.now
    (runs-first (doc_of d) c.args.steps.now c.in_ok-world.world d.names c.requires.lawful c.requires.named made.names made.ready.1 made.ready.2 made.stands)
