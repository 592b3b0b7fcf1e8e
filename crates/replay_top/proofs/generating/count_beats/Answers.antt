use Rattle.std.proofs.Common.{◌≡◌, ◌+◌, ◌*◌, ◌^◌, ◌≤◌, [], sym, subst, ◌∙◌, arith}
use Rattle.history.specs.History.{history}
use Rattle.history.specs.Printed.{printed}
use Rattle.world_core.specs.Worlds.{at_of}
use Rattle.world_runs.specs.Runs.{AreNext}
use Rattle.replay_top.specs.Counts.{counts_of}
use Rattle.replay_top.proofs.Counted.{AreMore, counts-first, counts-last, counts-next, none-most, most-later}
use Rattle.replay_top.proofs.generating.count_beats.Goals as goal

pub beats-init : goal.beats-init
beats-init g c =
    let none = c.none-counts.ensures in
    record {
      going = c.requires.going;
      small = none-most (at_of c.args.world.now) c.none-counts.result none;
      runs = λ doc first runs. (
        runs,
        none ∙ subst (λ k. counts_of [] ≡ counts_of (printed (history doc k))) (sym c.requires.first) (counts-first doc),
      );
    }

pub next_deeds-requires-clause-runs : goal.next_deeds-requires-clause-runs
next_deeds-requires-clause-runs g c = let r = c.requires.runs in (r.0, r.1, (c.beats.invariant.runs r.0 r.1 r.2).0)

pub and-counts-requires : goal.and-counts-requires
and-counts-requires g c =
    let k = at_of c.beats.world in
    let going = c.beats.invariant.going in
    let most : k * 2 ^ 64 ≤ 2 ^ 127 = omega (arith, going.up_to, going.within, going.ready.end) in
    most-later (k * 2 ^ 64) (2 ^ 127) c.beats.counts most c.beats.invariant.small

pub returns-in_err-deeds-clause-counted : goal.returns-in_err-deeds-clause-counted
returns-in_err-deeds-clause-counted g c doc first runs = c.next_deeds.ensures.counted doc first (c.beats.invariant.runs doc first runs).0

pub beats-preserved : goal.beats-preserved
beats-preserved g c =
    let k = at_of c.beats.world in
    let m = at_of c.next_deeds.new.world in
    let done = c.in_ok-deeds.ensures in
    let new = c.and-counts.result in
    let added = c.and-counts.ensures in
    let shown = c.as_slice.result.now in
    let more : AreMore c.beats.counts shown new = record { leads = added.leads; taints = added.taints; evictions = added.evictions } in
    let r = c.requires.runs in
    let own = subst (AreNext r.0 c.args.last.0 c.beats.world c.next_deeds.new.world) c.in-Some.is (done.next r.0 r.1 (c.beats.invariant.runs r.0 r.1 r.2).0).1 in
    record {
      going = done.going;
      small = most-later (k * 2 ^ 64 + 2 ^ 64) (m * 2 ^ 64) new (omega (arith, own.later)) (added.small (k * 2 ^ 64) c.beats.invariant.small);
      runs = λ doc first runs.
          let now = c.beats.invariant.runs doc first runs in
          let next = done.next doc first now.0 in
          let told = subst (AreNext doc c.args.last.0 c.beats.world c.next_deeds.new.world) c.in-Some.is next.1 in (
            next.0,
            counts-next (printed (history doc k)) c.in-Some.deeds shown (printed (history doc m)) c.beats.counts new told.printed c.as_slice.ensures now.1 more,
          );
    }

pub beats-smaller : goal.beats-smaller
beats-smaller g c =
    let r = c.requires.runs in
    let done = c.in_ok-deeds.ensures in
    let next = subst (AreNext r.0 c.args.last.0 c.beats.world c.next_deeds.new.world) c.in-Some.is (done.next r.0 r.1 (c.beats.invariant.runs r.0 r.1 r.2).0).1 in
    omega (arith, next.later, done.going.up_to)

pub returns-clause-whole : goal.returns-clause-whole
returns-clause-whole g c doc first runs last =
    let now = c.beats.invariant.runs doc first runs in
    let done = (c.in_ok-deeds.ensures.next doc first now.0).1 in
    let next = subst (AreNext doc c.args.last.0 c.beats.world c.next_deeds.new.world) c.in_default.is done in
    now.1 ∙ counts-last doc (at_of c.beats.world) c.args.last.0 last next.0

pub returns-clause-counted : goal.returns-clause-counted
returns-clause-counted g c doc first runs = c.next_deeds.ensures.counted doc first (c.beats.invariant.runs doc first runs).0
