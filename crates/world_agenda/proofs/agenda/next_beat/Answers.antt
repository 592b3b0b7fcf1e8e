use Rattle.std.proofs.Common.{◌≡◌, ◌≤◌, true, false, sym, ◌∙◌, subst, arith}
use Rattle.kube_objects.specs.Document.{processes, end_beat}
use Rattle.history.specs.History.{history}
use Rattle.agenda_laws.specs.Ahead.{IsNextBelow}
use Rattle.world_core.specs.Waits.{beat_of, starts_now}
use Rattle.world_core.specs.Worlds.{WorldStands, at_of}
use Rattle.world_agenda.specs.Woken.{IsWithTurn, OnlyTurns, goes_now}
use Rattle.world_agenda.proofs.Apart.{inside}
use Rattle.world_agenda.proofs.Looking.{at-once, idle-one, late-at, looked-each, looked-first, looked-next, there-now}
use Rattle.world_agenda.proofs.agenda.next_beat.Goals as goal

pub loop-i-init : goal.loop-i-init
loop-i-init c doc events stands end =
    let k = at_of c.args.world.now in
    looked-first doc k (history doc k) c.next_event.result c.next_wire.result c.sooner_beat-first.result c.next_beats_are_soonest.ensures.first
    (c.next_event.ensures doc k (history doc k) stands events) (c.next_wire.ensures doc k (history doc k) stands end) c.sooner_beat-first.ensures

pub returns-then-is_there : goal.returns-then-is_there
returns-then-is_there c doc events stands end =
    let k = at_of c.args.world.now in
    let start : k ≤ end_beat doc = omega (arith, c.requires.within, end) in
    there-now doc k c.next_event.result c.next_wire.result c.sooner_beat-first.result c.beats_wake_by_causes.ensures.next start
    (c.next_event.ensures doc k (history doc k) stands events) (c.next_wire.ensures doc k (history doc k) stands end) c.sooner_beat-first.ensures
    (late-at k c.at-at.result.0 (beat_of c.sooner_beat-first.result) c.is_there.result c.is_there.ensures c.if-is_there.true c.at-at.ensures)

pub returns-then-goes_at_once : goal.returns-then-goes_at_once
returns-then-goes_at_once c doc events stands end =
    let k = at_of c.args.world.now in
    let p = c.loop-i.i in
    let h = history doc k in
    let start : k ≤ end_beat doc = omega (arith, c.requires.within, end) in
    let here = inside doc k p h c.args.world.now stands (omega (arith, c.loop-i-test.true, c.asked_each-asked.ensures.few)) in
    let goes = sym (c.goes_at_once.ensures doc k h stands end) ∙ c.if-goes_at_once.true in
    at-once doc k p c.wakes-wakes.result c.at-at.result c.beats_wake_by_causes.ensures.next start here (c.wakes-wakes.ensures doc k h stands end)
    (subst (λ n. goes_now doc n p c.wakes-wakes.result ≡ true) c.at-at.ensures goes) c.at-at.ensures

pub loop-i-preserved : goal.loop-i-preserved
loop-i-preserved c doc events stands end =
    let w = c.args.world.now in
    let k = at_of w in
    let p = c.loop-i.i in
    let h = history doc k in
    let at = c.at-at.result.0 in
    let stands_at = subst (λ n. WorldStands doc n h w) (sym c.at-at.ensures) stands in
    let here = inside doc k p h w stands (omega (arith, c.loop-i-test.true, c.asked_each-asked.ensures.few)) in
    let wakes = c.wakes-wakes.ensures doc at h stands_at end in
    let calm = idle-one doc at p h c.wakes-wakes.result wakes (sym (c.goes_at_once.ensures doc k h stands end) ∙ c.if-goes_at_once.false) in
    let taken = c.with_turn-next.ensures doc h stands_at end wakes calm in
    looked-next doc k p h c.loop-i.next c.with_turn-next.result c.next_beats_are_soonest.ensures.more here (c.loop-i.invariant doc events stands end)
    (subst (λ n. starts_now doc n p ≡ false) c.at-at.ensures calm)
    (subst (λ n. IsWithTurn doc n p h (beat_of c.loop-i.next) (beat_of c.with_turn-next.result)) c.at-at.ensures taken)

pub returns : goal.returns
returns c doc events stands end =
    let w = c.args.world.now in
    let k = at_of w in
    let h = history doc k in
    let at = c.at-at.result.0 in
    let asked = c.asked_each-asked.result in
    let start : k ≤ end_beat doc = omega (arith, c.requires.within, end) in
    let others = c.asked_each-asked.ensures.others doc k h stands in
    let all : c.loop-i.i ≡ asked = omega (arith, c.loop-i-test.false, c.loop-i.auto.i-end) in
    let below = looked-each doc k asked c.loop-i.i h c.loop-i.next all (subst (λ n. OnlyTurns doc n asked) c.at-at.ensures others) (c.loop-i.invariant doc events stands end) in
    let below_at = subst (λ n. IsNextBelow doc n asked h (beat_of c.loop-i.next)) (sym c.at-at.ensures) below in
    let whole = c.with_others.ensures doc h (subst (λ n. WorldStands doc n h w) (sym c.at-at.ensures) stands) end others below_at in
    c.next_beats_are_soonest.ensures.next doc k (beat_of c.with_others.result) start (subst (λ n. IsNextBelow doc n (processes doc) h (beat_of c.with_others.result)) c.at-at.ensures whole)
