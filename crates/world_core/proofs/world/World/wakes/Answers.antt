use Rattle.std.proofs.Common.{◌≡◌, not, false, sym, ap, ◌∙◌, subst, arith}
use Rattle.kube_objects.specs.Clocks.{local}
use Rattle.kube_objects.specs.Identities.{identity}
use Rattle.agenda_laws.specs.Times.{is_early}
use Rattle.world_process.specs.OwnTerm.{IsUpAs}
use Rattle.world_process.specs.Processes.{leads_now, clock_of, incarnation_of}
use Rattle.world_process.proofs.Acting.{process-led}
use Rattle.world_core.specs.Waits.{WakesStand, starts_now}
use Rattle.world_core.proofs.Awake.{acting-stands, begun-is, down-is, idle-stands, its-clock, its-term, readings-alike, some-holds, starting-stands, starts-is, term-reading}
use Rattle.world_core.proofs.Moving.{read-at, within-end, within-processes}
use Rattle.world_core.proofs.Ticking.{term-is}
use Rattle.world_core.proofs.world.World.wakes.Goals.{else-self-eq0-via-then-self-eq0+else-is_up_first, else-self-eq0-via-else-self-eq0}
use Rattle.world_core.proofs.world.World.wakes.Goals as goal

pub returns-then-is_up_first : goal.returns-then-is_up_first
returns-then-is_up_first c doc k h s end =
    let p = c.args.who.0 in
    let x = c.index-process.result.now in
    let was = read-at c.args.self.now p x c.requires.process c.index-process.ensures in
    let starts = starts-is doc k p h x (sym s.within.rest.document.at ∙ c.if-self-eq0.true) (sym c.is_up_first.ensures ∙ c.if-is_up_first.true) (s.within.processes p x was) in
    starting-stands doc k p h c.at_once.result starts (ap (λ w. w.at_once) c.at_once.ensures)

pub leadership-requires : goal.leadership-requires
leadership-requires c =
    let x = c.index-process.result.now in
    within-end c.args.self.now c.args.who.0 x c.requires.ready c.requires.within (read-at c.args.self.now c.args.who.0 x c.requires.process c.index-process.ensures)

pub returns-then-is_none : goal.returns-then-is_none
returns-then-is_none c doc k h s end =
    let p = c.args.who.0 in
    let x = c.index-process.result.now in
    let was = read-at c.args.self.now p x c.requires.process c.index-process.ensures in
    let stands = s.within.processes p x was in
    let at = s.within.rest.document.at in
    let starts : starts_now doc k p ≡ false = elim c.else-self-eq0.branch [
      | else-self-eq0-via-then-self-eq0+else-is_up_first w ↦ down-is doc k p h x (sym w.is_up_first.ensures ∙ w.if-is_up_first.false) stands
      | else-self-eq0-via-else-self-eq0 w ↦ begun-is doc k p (λ zero. w.if-self-eq0.false (at ∙ zero))
    ] in
    let none : leads_now doc k p h ≡ false = sym (c.leadership.ensures.leads doc k p h stands at) ∙ c.is_none.ensures ∙ ap not c.if-is_none.true in
    subst (WakesStand doc k p h) (sym c.with.ensures) (idle-stands doc k p h (clock_of x) c.wake-wake.result (its-clock doc p h x stands) starts none (c.wake-wake.ensures doc p h stands))

pub returns : goal.returns
returns c doc k h s end =
    let w = c.args.self.now in
    let p = c.args.who.0 in
    let x = c.index-process.result.now in
    let i = incarnation_of x in
    let q = identity p i in
    let was = read-at w p x c.requires.process c.index-process.ensures in
    let stands = s.within.processes p x was in
    let d = s.within.rest.document in
    let starts : starts_now doc k p ≡ false = elim c.else-self-eq0.branch [
      | else-self-eq0-via-then-self-eq0+else-is_up_first w ↦ down-is doc k p h x (sym w.is_up_first.ensures ∙ w.if-is_up_first.false) stands
      | else-self-eq0-via-else-self-eq0 w ↦ begun-is doc k p (λ zero. w.if-self-eq0.false (d.at ∙ zero))
    ] in
    let some = c.is_none.ensures ∙ ap not c.if-is_none.false in
    let up = some-holds c.leadership.result _ some (c.leadership.ensures.up doc p h stands) in
    let acts = term-is doc k p i h up (sym (c.leadership.ensures.leads doc k p h stands d.at) ∙ some) in
    let it : IsUpAs doc q h = record { sort = acts.sort; up = up } in
    let watch = c.watch-watch.ensures doc h s.within.rest.in_force (within-processes doc k w p d c.requires.process) in
    let led = process-led doc k p h x stands acts.sort up acts.term in
    let term = term-reading doc q h c.sync_wake.result c.term_wake.result c.sooner-term.result c.sooner-term.ensures (c.sync_wake.ensures doc q h stands s.within.rest.store watch it led) (c.term_wake.ensures doc q h stands it) in
    subst (WakesStand doc k p h) (sym c.with-2.ensures)
    (acting-stands doc k p i h (clock_of x) c.wake-wake.result c.sooner-term.result (record { at_once = c.at_once-2.result; local = c.sooner.result; wall = c.least_due.result; room = c.delete_wake.result }) (its-clock doc p h x stands) starts (its-term doc k p i h up acts)
    (c.wake-wake.ensures doc p h stands) (c.at_once-2.ensures doc q h stands s.within.rest.store watch it) c.sooner.ensures
    term (λ now. c.least_due.ensures doc q h now stands it)
    (λ j from. ap (is_early (local doc p j)) (readings-alike c.delete_wake.result)
    ∙ c.delete_wake.ensures doc j q h stands it s.in_time.in_beats (λ e at. let most = s.in_time.upto e at in omega (arith, most, from))))
