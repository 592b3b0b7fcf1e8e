-- Which entries the wire stands through, and from beat to beat.
use Rattle.std.proofs.Common.{◌≡◌, ℕ, ◌+◌, Bool, true, false, List, [], ◌∷◌, map, Option, Some, None, refl, sym, ap, ◌∙◌, subst, arith}
use Rattle.kube_objects.specs.declared.deed.Actor.{Actor}
use Rattle.kube_objects.specs.declared.script.What.{What}
use Rattle.kube_objects.specs.declared.script.What.TheVariants as what
use Rattle.kube_objects.specs.Entry.{Entry, Fact, Event, Sends, Answers}
use Rattle.kube_objects.specs.InFlight.{requests_due, replies_due, and_request, and_reply}
use Rattle.kube_objects.specs.Newest.{added, or_else}
use Rattle.kube_objects.specs.Wire.{Sent, Back, sent_of, back_of, of_event, in_force, request_delay, reply_delay, request_delay_of, reply_delay_of, request_loss_of, reply_loss_of}
use Rattle.wire_calls.specs.declared.wire.Wire.{Wire}
use Rattle.wire_calls.specs.InFlight.{pending}
use Rattle.wire_calls.specs.WireStands.{WireStands, IsDelay, as_sent, as_back, link_in, is_of_wire, wire_entries}
use Rattle.wire_calls.proofs.Orders.{in_order-next}

-- from the end of a beat to the next one
pub wire-next-beat : (processes k : ℕ) (h : List Entry) (w : Wire) → WireStands processes k [] [] h w → WireStands processes (k + 1) (requests_due (k + 1) h) (replies_due (k + 1) h) h w
wire-next-beat processes k h w s =
    record {
      count = s.count;
      links = s.links;
      requests = in_order-next as_sent k (λ j. requests_due j h) (pending w.requests) s.requests;
      replies = in_order-next as_back k (λ j. replies_due j h) (pending w.replies) s.replies;
      live_requests = s.live_requests;
      live_replies = s.live_replies;
      delays = s.delays;
    }

-- ---- an entry that the wire doesn't look at

record IsBeside (who : Actor) (d : Fact) : Type 0 where
  sent : sent_of who d ≡ None
  back : back_of who d ≡ None
  request_delays : (p : ℕ) → of_event (request_delay_of p) d ≡ None
  reply_delays : (p : ℕ) → of_event (reply_delay_of p) d ≡ None
  request_losses : (p : ℕ) → of_event (request_loss_of p) d ≡ None
  reply_losses : (p : ℕ) → of_event (reply_loss_of p) d ≡ None

is-beside : (who : Actor) (d : Fact) → is_of_wire d ≡ false → IsBeside who d
is-beside who (Event (what.Delay id requests replies) version) is = absurd (cc)
is-beside who (Event (what.Loss id requests replies) version) is = absurd (cc)
is-beside who (Sends call arrives) is = absurd (cc)
is-beside who (Answers call reply comes written) is = absurd (cc)
is-beside who _ is = record { sent = refl; back = refl; request_delays = λ p. refl; reply_delays = λ p. refl; request_losses = λ p. refl; reply_losses = λ p. refl }

in_force-beside : {A : Type 0} (f : What → Option A) (e : Entry) (h : List Entry) → of_event f e.fact ≡ None → in_force f h ≡ in_force f (e ∷ h)
in_force-beside f e h none = ap (λ o. elim o [ None ↦ in_force f h | Some x ↦ Some x ]) (sym none)

pub wire-beside : (processes k : ℕ) (arriving : List Sent) (coming : List Back) (h : List Entry) (e : Entry) (w : Wire) → is_of_wire e.fact ≡ false → WireStands processes k arriving coming h w → WireStands processes k arriving coming (e ∷ h) w
wire-beside processes k arriving coming h e w unseen s =
    record {
      count = s.count;
      links = λ p. s.links p ∙ link p;
      requests = record {
        before = s.requests.before;
        present = s.requests.present;
        after = λ j above. s.requests.after j above ∙ ap (λ o. map as_sent (and_request j o (requests_due j h))) (sym b.sent);
      };
      replies = record {
        before = s.replies.before;
        present = s.replies.present;
        after = λ j above. s.replies.after j above ∙ ap (λ o. map as_back (and_reply j o (replies_due j h))) (sym b.back);
      };
      live_requests = s.live_requests;
      live_replies = s.live_replies;
      delays = λ p. (
        subst IsDelay (ap (or_else 1) (in_force-beside (request_delay_of p) e h (b.request_delays p))) (s.delays p).0,
        subst IsDelay (ap (or_else 1) (in_force-beside (reply_delay_of p) e h (b.reply_delays p))) (s.delays p).1,
      );
    }
  where
    b : IsBeside e.actor e.fact
    b = is-beside e.actor e.fact unseen

    link : (p : ℕ) → link_in p h ≡ link_in p (e ∷ h)
    link p =
        ap (λ o. record (link_in p h) { request_delay = or_else 1 o }) (in_force-beside (request_delay_of p) e h (b.request_delays p))
        ∙ ap (λ o. record (record (link_in p h) { request_delay = request_delay p (e ∷ h) }) { reply_delay = or_else 1 o }) (in_force-beside (reply_delay_of p) e h (b.reply_delays p))
        ∙ ap (λ o. record (record (record (link_in p h) { request_delay = request_delay p (e ∷ h) }) { reply_delay = reply_delay p (e ∷ h) }) { loses_requests = or_else false o }) (in_force-beside (request_loss_of p) e h (b.request_losses p))
        ∙ ap (λ o. record (link_in p (e ∷ h)) { loses_replies = or_else false o }) (in_force-beside (reply_loss_of p) e h (b.reply_losses p))

-- a history without an entry that the wire looks at is as the empty one
pub wire-untouched : (processes k : ℕ) (h : List Entry) (w : Wire) → WireStands processes k [] [] [] w → wire_entries h ≡ 0 → WireStands processes k [] [] h w
wire-untouched processes k [] w s none = s
wire-untouched processes k (e ∷ h) w s none =
    wire-beside processes k [] [] h e w (unseen (is_of_wire e.fact) none) (wire-untouched processes k h w s (before (is_of_wire e.fact) none))
  where
    unseen : (b : Bool) → added b (wire_entries h) ≡ 0 → b ≡ false
    unseen true none = absurd (omega (arith, none))
    unseen false none = refl

    before : (b : Bool) → added b (wire_entries h) ≡ 0 → wire_entries h ≡ 0
    before true none = absurd (omega (arith, none))
    before false none = none
