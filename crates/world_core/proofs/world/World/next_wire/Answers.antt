use Rattle.std.proofs.Common.{◌<◌, ◌≤◌, sym, ap, subst, arith}
use Rattle.kube_objects.specs.Document.{end_beat, processes}
use Rattle.kube_objects.specs.InFlight.{requests_due, replies_due}
use Rattle.wire_calls.specs.WireStands.{NextIs}
use Rattle.agenda_laws.specs.Ahead.{IsNextMessage}
use Rattle.world_core.specs.Waits.{beat_of}
use Rattle.world_core.proofs.Skipping.{late-message, next-message, no-message}
use Rattle.world_core.proofs.world.World.next_wire.Goals as goal

pub returns-in_err-arrives : goal.returns-in_err-arrives
returns-in_err-arrives c doc k h s end =
    subst (IsNextMessage doc k h) (sym (ap beat_of c.from_residual.ensures))
    (no-message doc k h (subst (NextIs k (requests_due k h) (replies_due k h) h) c.in_err-arrives.was (c.next.ensures (processes doc) k (requests_due k h) (replies_due k h) h s.within.rest.wire)))

pub returns-then-arrives-self : goal.returns-then-arrives-self
returns-then-arrives-self c doc k h s end =
    let late : end_beat doc < c.in_ok-arrives.arrives.0 = (let past = c.if-arrives-self.true in omega (arith, past, end)) in
    late-message doc k h c.in_ok-arrives.arrives late
    (subst (NextIs k (requests_due k h) (replies_due k h) h) c.in_ok-arrives.was (c.next.ensures (processes doc) k (requests_due k h) (replies_due k h) h s.within.rest.wire))

pub returns : goal.returns
returns c doc k h s end =
    let within : c.in_ok-arrives.arrives.0 ≤ end_beat doc = (let most = c.if-arrives-self.false in omega (arith, most, end)) in
    next-message doc k h c.in_ok-arrives.arrives within
    (subst (NextIs k (requests_due k h) (replies_due k h) h) c.in_ok-arrives.was (c.next.ensures (processes doc) k (requests_due k h) (replies_due k h) h s.within.rest.wire))
