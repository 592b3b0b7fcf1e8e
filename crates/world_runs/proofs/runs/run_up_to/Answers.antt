use Rattle.std.proofs.Common.{◌∙◌, ap, arith, refl, subst, sym}
use Rattle.history.specs.History.{history}
use Rattle.world_core.specs.Worlds.{at_of}
use Rattle.world_runs.specs.Runs.{AreNext}
use Rattle.world_runs.proofs.runs.run_up_to.Goals as goal

pub beats-init : goal.beats-init
beats-init g c = record { going = c.requires.going; names = refl; runs = λ doc first runs. runs }

pub next_deeds-requires-clause-runs : goal.next_deeds-requires-clause-runs
next_deeds-requires-clause-runs g c = let r = c.requires.runs in (r.0, r.1, c.beats.invariant.runs r.0 r.1 r.2)

pub beats-preserved : goal.beats-preserved
beats-preserved g c =
    let done = c.in_ok-_deeds.ensures in
    record {
      going = done.going;
      names = done.kept.1 ∙ c.beats.invariant.names;
      runs = λ doc first runs. (done.next doc first (c.beats.invariant.runs doc first runs)).0;
    }

pub beats-smaller : goal.beats-smaller
beats-smaller g c =
    let r = c.requires.runs in
    let done = c.in_ok-_deeds.ensures in
    let next = subst (AreNext r.0 c.args.last.0 c.beats.world c.next_deeds.new.world) c.in-Some.is (done.next r.0 r.1 (c.beats.invariant.runs r.0 r.1 r.2)).1 in
    omega (arith, next.later, done.going.up_to)

pub returns-in_err-_deeds-clause-counted : goal.returns-in_err-_deeds-clause-counted
returns-in_err-_deeds-clause-counted g c doc first runs = c.next_deeds.ensures.counted doc first (c.beats.invariant.runs doc first runs)

pub returns-clause-runs : goal.returns-clause-runs
returns-clause-runs g c doc first runs =
    let done = c.in_ok-_deeds.ensures.next doc first (c.beats.invariant.runs doc first runs) in
    let next = subst (AreNext doc c.args.last.0 c.beats.world c.next_deeds.new.world) c.in_default.is done.1 in
    (done.0, next.0 ∙ ap (history doc) (sym next.1))

pub returns-clause-counted : goal.returns-clause-counted
returns-clause-counted g c doc first runs = c.next_deeds.ensures.counted doc first (c.beats.invariant.runs doc first runs)
