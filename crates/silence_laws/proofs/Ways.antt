-- How long a call of a controller was under way whose messages pass, and that it doesn't expire.
use Rattle.std.proofs.Common.{◌≡◌, ◌≤◌, ℕ, suc, ◌+◌, true, false, List, ◌∷◌, Option, Some, IfSome, sym, ap, ◌∙◌, subst, ⊎_elim, arith}
use Rattle.kube_objects.specs.declared.call.Reply.{Reply}
use Rattle.kube_objects.specs.Document.{Doc, is_controller}
use Rattle.kube_objects.specs.Entry.{Entry, Identity, Call, Sends, actor_of}
use Rattle.kube_objects.specs.Newest.{or_else}
use Rattle.kube_objects.specs.Pauses.{resume, held_up}
use Rattle.kube_objects.specs.Process.{open_as}
use Rattle.kube_objects.specs.Wire.{reply_delay_of, reply_loss_of, request_delay, reply_delay, arrival, request_arrival, reply_arrival}
use Rattle.kube_objects.specs.Own.{ReleasesByStop}
use Rattle.kube_objects.proofs.Pauses.{resume_later}
use Rattle.history.specs.History.{history}
use Rattle.history_laws.specs.Tails.{IsTail}
use Rattle.history_laws.proofs.Order.{entries_are_earlier}
use Rattle.history_laws.proofs.Plainly.{some_is}
use Rattle.history_laws.proofs.Tailed.{tail_trans}
use Rattle.kube_objects.specs.Stalls.{is_stalled, awake}
use Rattle.kube_objects.proofs.Stalls.{awake_now, awake_later}
use Rattle.call_laws.specs.Answering.{with_events}
use Rattle.call_laws.proofs.Above.{in_head}
use Rattle.call_laws.proofs.Placing.{forces_stand, messages_travel}
use Rattle.call_laws.proofs.Sending.{is_free}
use Rattle.takeover_laws.specs.Calm.{Passes, IsSteady}
use Rattle.takeover_laws.proofs.Rounds.{Forces, reply_passes, sent_is, request_awakes}
use Rattle.calm_laws.proofs.Origins.{Origin}

-- ---- beats

-- an entry of the history before a beat is of an earlier one
pub beat_before : (doc : Doc) (m : ℕ) (x : Entry) (T : List Entry) → IsTail (x ∷ T) (history doc (suc m)) → x.beat ≤ m
beat_before doc m x T at = ⊎_elim (λ lt. omega (arith, lt)) (λ first. omega (arith, first.0)) (entries_are_earlier doc (suc m) x (in_head x T (history doc (suc m)) at))

-- a call tells the beat at which it was sent
pub sent_at : (doc : Doc) → ReleasesByStop doc → (m : ℕ) (q : Identity) (x : Entry) (T : List Entry) (call : Call) (arrives : Option ℕ) → IsTail (x ∷ T) (history doc m) → x.actor ≡ actor_of q → x.fact ≡ Sends call arrives → call.sent ≡ x.beat
sent_at doc rules m q x T call arrives at actor fact = (subst (λ o. IfSome o (λ s. (s.call.sent ≡ x.beat) × (s.arrives ≡ request_arrival doc s.who.process x.beat T))) (sent_is x q call arrives actor fact) (messages_travel doc rules m x T at).0).0

-- ---- ways

replies_resume : (doc : Doc) (near far p k : ℕ) (h : List Entry) → Passes doc near far p k → Forces doc k h → reply_arrival doc p k h ≡ Some (resume doc p (k + reply_delay p (with_events doc k)))
replies_resume doc near far p k h passes force =
    ap (λ b. held_up doc p (arrival b k (reply_delay p h))) (ap (or_else false) (force.1 (reply_loss_of p)) ∙ passes.replies)
    ∙ ap (λ n. Some (resume doc p (k + n))) (ap (or_else 1) (force.0 (reply_delay_of p)))

-- a request that is sent at a beat arrives one way later
pub record IsWay (near far from to : ℕ) : Type 0 where
  pub least : from + near ≤ to
  pub most : to ≤ from + far

module _ (doc : Doc) (rules : ReleasesByStop doc) (near far e : ℕ) (q : Identity) (role : is_controller doc q.process ≡ true) (steady : IsSteady doc near far 0 e q.process) where
  pub request_way : (x : Entry) (T : List Entry) (call : Call) (k : ℕ) → IsTail (x ∷ T) (history doc (suc e)) → x.actor ≡ actor_of q → x.fact ≡ Sends call (Some k) → open_as call.kind call ≡ Some call
      → ((j : ℕ) → x.beat ≤ j → j ≤ k → j ≤ x.beat + far → is_stalled doc j ≡ false) → IsWay near far x.beat k
  request_way x T call k at actor fact opens goes = record { least = omega (arith, same, passes.request_least); most = omega (arith, same, passes.request_most) }
    where
      step : 3 ≤ x.step
      step = (is_free doc rules (suc e) q role x T call (Some k) at actor fact opens).step

      passes : Passes doc near far q.process x.beat
      passes = steady.passes x.beat (omega arith) (beat_before doc e x T at)

      same : k ≡ x.beat + request_delay q.process (with_events doc x.beat)
      same = omega (arith, woken, now)
        where
          there : ℕ
          there = x.beat + request_delay q.process (with_events doc x.beat)

          woken : k ≡ awake doc there
          woken =
              some_is k (awake doc there)
              ((subst (λ o. IfSome o (λ s. (s.call.sent ≡ x.beat) × (s.arrives ≡ request_arrival doc s.who.process x.beat T))) (sent_is x q call (Some k) actor fact) (messages_travel doc rules (suc e) x T at).0).1
              ∙ request_awakes doc rules near far q.process x.beat T passes (forces_stand doc rules (suc e) x T at (omega (arith, step))))

          now : awake doc there ≡ there
          now = awake_now doc there (goes there (omega arith) (omega (arith, woken, awake_later doc there)) (omega (arith, passes.request_most)))

  pub sent_beat : (x : Entry) (T : List Entry) (call : Call) (arrives : Option ℕ) → IsTail (x ∷ T) (history doc (suc e)) → x.actor ≡ actor_of q → x.fact ≡ Sends call arrives → call.sent ≡ x.beat
  sent_beat x T call arrives at actor fact = (subst (λ o. IfSome o (λ s. (s.call.sent ≡ x.beat) × (s.arrives ≡ request_arrival doc s.who.process x.beat T))) (sent_is x q call arrives actor fact) (messages_travel doc rules (suc e) x T at).0).0

  -- a reply that comes in the span comes one way after its giving
  pub reply_way : (x : Entry) (T : List Entry) → IsTail (x ∷ T) (history doc (suc e)) → x.step ≡ 2 → (y : ℕ) → y ≤ e → reply_arrival doc q.process x.beat T ≡ Some y → IsWay near far x.beat y
  reply_way x T at step y to comes = record { least = omega (arith, same, passes.reply_least); most = omega (arith, same, passes.reply_most) }
    where
      passes : Passes doc near far q.process x.beat
      passes = steady.passes x.beat (omega arith) (beat_before doc e x T at)

      m : ℕ
      m = x.beat + reply_delay q.process (with_events doc x.beat)

      force : Forces doc x.beat T
      force = forces_stand doc rules (suc e) x T at (omega (arith, step))

      resumed : resume doc q.process m ≡ y
      resumed = some_is (resume doc q.process m) y (sym (replies_resume doc near far q.process x.beat T passes force) ∙ comes)

      within : m ≤ e
      within = omega (arith, resumed, resume_later doc q.process m, to)

      same : m ≡ y
      same = some_is m y (sym (reply_passes doc near far q.process x.beat T passes force (steady.passes m (omega arith) within).awake) ∙ comes)

  -- a call whose reply counts in the span
  pub record Went (from at to : ℕ) : Type 0 where
    pub request : IsWay near far from at
    pub reply : IsWay near far at to

  pub went : (w : Call) (reply : Reply) (S : List Entry) (y : ℕ) → (o : Origin doc q w reply S y) → IsTail S (history doc (suc e)) → y ≤ e → Went o.begun.f.beat o.e.beat y
  went w reply S y o at to = record {
    request =
        request_way o.begun.f o.begun.before w o.e.beat (tail_trans (o.begun.f ∷ o.begun.before) S (history doc (suc e)) o.begun.position at) o.begun.actor (o.begun.fact ∙ ap (Sends w) o.arrives) o.begun.opens
        (λ j low high soon. (steady.passes j (omega arith) (omega (arith, high, beat_before doc e o.e o.low (tail_trans (o.e ∷ o.low) S (history doc (suc e)) o.answered at)))).goes);
    reply = reply_way o.e o.low (tail_trans (o.e ∷ o.low) S (history doc (suc e)) o.answered at) o.step y to o.comes_is;
  }
