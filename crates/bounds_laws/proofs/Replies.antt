-- Replies to a process that is awake come within the document's greatest delay, and so does the release of a stop.
use Rattle.std.proofs.Common.{◌≡◌, ◌<◌, ◌≤◌, ℕ, suc, ◌+◌, ◌==◌, Bool, true, false, List, ◌∷◌, Option, Some, None, IfSome, refl, sym, subst, inr, ⊎_elim, arith}
use Rattle.std.proofs.lemmas.Bool.{eqb-true}
use Rattle.kube_objects.specs.declared.call.Reply.TheVariants.{Done}
use Rattle.kube_objects.specs.declared.deed.Actor.{Actor}
use Rattle.kube_objects.specs.declared.deed.Actor.TheVariants as actors
use Rattle.kube_objects.specs.Document.{Doc, is_controller}
use Rattle.kube_objects.specs.Entry.{Entry, Identity, Fact, First, Event, Starts, Stops, Sends, Answers, Delivers, Expires, Leads, Ends, Crashes, Stalls, Ticks, entry, StepsDown, ReleaseBegins, ReleaseEnds, ReleaseStops}
use Rattle.kube_objects.specs.Identities.{of_process}
use Rattle.kube_objects.specs.Newest.{when, has, or_else}
use Rattle.kube_objects.specs.Own.{ReleasesByStop}
use Rattle.kube_objects.specs.Pauses.{pause_end, is_paused, resume, held_up}
use Rattle.kube_objects.specs.Wire.{back_of, arrival, request_arrival, reply_arrival, request_delay, reply_delay, loses_requests, loses_replies}
use Rattle.kube_objects.specs.Stalls.{is_stalled, awake, at_store}
use Rattle.kube_objects.proofs.Stalls.{awake_now, awake_later}
use Rattle.history.specs.History.{history}
use Rattle.history_laws.specs.Tails.{IsTail}
use Rattle.history_laws.proofs.Order.{entries_are_earlier}
use Rattle.history_laws.proofs.Plainly.{some_is, none_is, false_is, true_is}
use Rattle.history_laws.proofs.Tailed.{tail_all, tail_trans}
use Rattle.call_laws.proofs.Above.{Place, place_of}
use Rattle.call_laws.proofs.Making.{MadeAs, are_made}
use Rattle.call_laws.proofs.Placing.{messages_travel}
use Rattle.takeover_laws.proofs.Rounds.{sent_is}
use Rattle.silence_laws.specs.Silence.{IsReleased}
use Rattle.succession_laws.specs.Successions.{RepliesCome}
use Rattle.script_reader.specs.Lawful.{IsLawfulDoc}
use Rattle.bounds_laws.specs.Undisturbed.{far_of, GivesUp}
use Rattle.bounds_laws.proofs.Steady.{request_within, reply_within}

-- what comes to a process at a beat at which it is awake comes then
comes_then : (doc : Doc) (p k : ℕ) → is_paused doc p k ≡ false → resume doc p k ≡ k
comes_then doc p k awake = by_end (pause_end doc p k) awake
  where
    by_end : (o : Option ℕ) → has o ≡ false → or_else k o ≡ k
    by_end None awake = refl
    by_end (Some j) awake = absurd (true_is awake)

module _ (doc : Doc) (lawful : IsLawfulDoc doc) (rules : ReleasesByStop doc) (p : ℕ) (role : is_controller doc p ≡ true) (m last : ℕ) (upto : m ≤ suc last) (awake : (k : ℕ) → k ≤ last + far_of doc → is_paused doc p k ≡ false) where
  module _ (k : ℕ) (early : k < m) (h : List Entry) (at : IsTail h (history doc m)) where
    way : (1 ≤ reply_delay p h) × (reply_delay p h ≤ far_of doc)
    way = reply_within doc lawful p role rules m h at

    by_loss : (lost : Bool) → IfSome (held_up doc p (arrival lost k (reply_delay p h))) (λ n. n < m + far_of doc)
    by_loss true = tt
    by_loss false = subst (λ n. n < m + far_of doc) (sym (comes_then doc p (k + reply_delay p h) (awake (k + reply_delay p h) (omega (arith, way.1, early, upto))))) (omega (arith, way.1, early))

    of_own : (q : ℕ) → q ≡ p → IfSome (reply_arrival doc q k h) (λ n. n < m + far_of doc)
    of_own q same = subst (λ q. IfSome (reply_arrival doc q k h) (λ n. n < m + far_of doc)) (sym same) (by_loss (loses_replies p h))

    cases : (who : Actor) (d : Fact) → has (of_process p who) ≡ true → IfSome (back_of who d) (λ b. b.comes ≡ reply_arrival doc b.who.process k h) → IfSome (back_of who d) (λ b. IfSome b.comes (λ n. n < m + far_of doc))
    cases actors.Script d own travels = absurd (false_is own)
    cases (actors.Proc id i) (Answers call reply comes wrote) own travels = subst (λ o. IfSome o (λ n. n < m + far_of doc)) (sym travels) (by_test (id.0 == p) refl own)
      where
        by_test : (t : Bool) → (id.0 == p) ≡ t → has (when t i) ≡ true → IfSome (reply_arrival doc id.0 k h) (λ n. n < m + far_of doc)
        by_test true is own = of_own id.0 (eqb-true id.0 p is)
        by_test false is own = absurd (false_is own)
    cases (actors.Proc id i) (First key object) own travels = tt
    cases (actors.Proc id i) (Event w version) own travels = tt
    cases (actors.Proc id i) Starts own travels = tt
    cases (actors.Proc id i) Crashes own travels = tt
    cases (actors.Proc id i) Stops own travels = tt
    cases (actors.Proc id i) (Stalls beats) own travels = tt
    cases (actors.Proc id i) StepsDown own travels = tt
    cases (actors.Proc id i) (ReleaseBegins at_deadline) own travels = tt
    cases (actors.Proc id i) ReleaseEnds own travels = tt
    cases (actors.Proc id i) ReleaseStops own travels = tt
    cases (actors.Proc id i) Ends own travels = tt
    cases (actors.Proc id i) (Sends call arrives) own travels = tt
    cases (actors.Proc id i) (Delivers call reply counted) own travels = tt
    cases (actors.Proc id i) (Expires call) own travels = tt
    cases (actors.Proc id i) (Leads version) own travels = tt
    cases (actors.Proc id i) (Ticks t) own travels = tt

  -- an answer doesn't stand among the first objects
  no_answer : (who : Actor) (d : Fact) → (k step : ℕ) (h : List Entry) → MadeAs doc k step who d h → (k ≡ 0) × (step ≡ 0) → has (back_of who d) ≡ false
  no_answer actors.Script (Answers call reply comes wrote) k step h made first = refl
  no_answer (actors.Proc id i) (Answers call reply comes wrote) k step h made first = absurd (omega (arith, made.step_is, first.1))
  no_answer who (First key object) k step h made first = refl
  no_answer who (Event w version) k step h made first = refl
  no_answer who Starts k step h made first = refl
  no_answer who Crashes k step h made first = refl
  no_answer who Stops k step h made first = refl
  no_answer who (Stalls beats) k step h made first = refl
  no_answer who StepsDown k step h made first = absurd made
  no_answer who (ReleaseBegins at_deadline) k step h made first = absurd made
  no_answer who ReleaseEnds k step h made first = absurd made
  no_answer who ReleaseStops k step h made first = absurd made
  no_answer who Ends k step h made first = refl
  no_answer who (Sends call arrives) k step h made first = refl
  no_answer who (Delivers call reply counted) k step h made first = refl
  no_answer who (Expires call) k step h made first = refl
  no_answer who (Leads version) k step h made first = refl
  no_answer who (Ticks t) k step h made first = refl

  pub replies_come : RepliesCome doc (far_of doc) m p
  replies_come x stands own = ⊎_elim (λ early. cases x.beat early place.before low x.actor x.fact own travels) first (entries_are_earlier doc m x stands)
    where
      place : Place x (history doc m)
      place = place_of x (history doc m) stands

      low : IsTail place.before (history doc m)
      low = tail_trans place.before (x ∷ place.before) (history doc m) (inr (tail_all place.before)) place.position

      travels : IfSome (back_of x.actor x.fact) (λ b. b.comes ≡ reply_arrival doc b.who.process x.beat place.before)
      travels = (messages_travel doc rules m x place.before place.position).1

      none_at : {A : Type 0} (o : Option A) (P : A → Type 0) → has o ≡ false → IfSome o P
      none_at None P is = tt
      none_at (Some a) P is = absurd (true_is is)

      first : (x.beat ≡ 0) × (x.step ≡ 0) → IfSome (back_of x.actor x.fact) (λ b. IfSome b.comes (λ n. n < m + far_of doc))
      first is =
          none_at (back_of x.actor x.fact) (λ b. IfSome b.comes (λ n. n < m + far_of doc))
          (no_answer x.actor x.fact x.beat x.step place.before (are_made doc rules m x place.before place.position) is)

-- a release that arrives travels as the document's delays have it
pub released : (doc : Doc) → IsLawfulDoc doc → ReleasesByStop doc → (b e : ℕ) (q : Identity) → is_controller doc q.process ≡ true → ((k : ℕ) → k ≤ e → is_stalled doc k ≡ false) → GivesUp doc b e q
    → IsReleased doc 1 (far_of doc) b e q
released doc lawful rules b e q role goes g = record {
  call = g.call;
  at = g.at;
  kind = g.kind;
  send = g.send;
  least = (by_loss (loses_requests q.process place.before) arrives).0;
  most = (by_loss (loses_requests q.process place.before) arrives).1;
  version = g.version;
  comes = g.comes;
  object = g.object;
  accepted = g.accepted;
}
  where
    x : Entry
    x = entry b 1 q (Sends g.call (Some g.at))

    place : Place x (history doc (suc b))
    place = place_of x (history doc (suc b)) g.send

    low : IsTail place.before (history doc (suc b))
    low = tail_trans place.before (x ∷ place.before) (history doc (suc b)) (inr (tail_all place.before)) place.position

    way : (1 ≤ request_delay q.process place.before) × (request_delay q.process place.before ≤ far_of doc)
    way = request_within doc lawful q.process role rules (suc b) place.before low

    arrives : Some g.at ≡ at_store doc (arrival (loses_requests q.process place.before) b (request_delay q.process place.before))
    arrives =
        (subst (λ o. IfSome o (λ s. (s.call.sent ≡ b) × (s.arrives ≡ request_arrival doc s.who.process b place.before))) (sent_is x q g.call (Some g.at) refl refl)
        (messages_travel doc rules (suc b) x place.before place.position).0).1

    at_by : g.at ≤ e
    at_by =
        ⊎_elim (λ lt. omega (arith, lt)) (λ first. absurd (omega (arith, first.1)))
        (entries_are_earlier doc (suc e) (entry g.at 2 q (Answers g.call (Done g.version) g.comes (Some g.object))) g.accepted)

    by_loss : (lost : Bool) → Some g.at ≡ at_store doc (arrival lost b (request_delay q.process place.before)) → (b + 1 ≤ g.at) × (g.at ≤ b + far_of doc)
    by_loss true is = absurd (none_is g.at (sym is))
    by_loss false is = (omega (arith, woken, now, way.0), omega (arith, woken, now, way.1))
      where
        there : ℕ
        there = b + request_delay q.process place.before

        woken : g.at ≡ awake doc there
        woken = some_is g.at (awake doc there) is

        now : awake doc there ≡ there
        now = awake_now doc there (goes there (omega (arith, woken, awake_later doc there, at_by)))
