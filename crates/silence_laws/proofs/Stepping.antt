-- From one look of a candidate at another's record to the next.
use Rattle.std.proofs.Common.{◌≡◌, ◌⊎◌, ◌≤◌, ℕ, nat_lt, true, false, List, ◌∷◌, length, Option, Some, None, refl, sym, ap, ◌∙◌, subst, inl, inr, arith}
use Rattle.std.proofs.lemmas.Bool.{ltb-false, eq-eqb}
use Rattle.kube_objects.specs.declared.call.Reply.{Reply}
use Rattle.kube_objects.specs.declared.call.Request.TheVariants.{Get}
use Rattle.kube_objects.specs.Clocks.{local}
use Rattle.kube_objects.specs.Document.{Doc, is_controller}
use Rattle.kube_objects.specs.Elector.{Follow, Fails, retry_at, shown, observed, leads, follow_on, timer_follow, timer_says}
use Rattle.kube_objects.specs.Entry.{Entry, Identity, Call, Stops, Sends, Delivers, actor_of, entry}
use Rattle.kube_objects.specs.Identities.{is_by, of_process}
use Rattle.kube_objects.specs.Newest.{newest, when, only_if, join, has, or_zero}
use Rattle.kube_objects.specs.Process.{alive, last_call, call_in}
use Rattle.kube_objects.specs.Stored.{election}
use Rattle.kube_objects.specs.Turns.{expired_in, is_fast_call}
use Rattle.kube_objects.specs.Own.{ReleasesByStop}
use Rattle.history.specs.History.{history}
use Rattle.history_laws.specs.Tails.{In, IsTail}
use Rattle.history_laws.proofs.Plainly.{upper, false_is, same_self}
use Rattle.history_laws.proofs.Tailed.{tail_all, tail_trans, in_tail, same_head}
use Rattle.call_laws.proofs.Above.{tail_length}
use Rattle.call_laws.proofs.Making.{MadeAs, MadeSend, HasStopped, IsOpen, Replied, are_made}
use Rattle.call_laws.proofs.Starting.{sends_are_due, actor_is}
use Rattle.call_laws.proofs.Turning.{IsDue, IsTurnSend}
use Rattle.takeover_laws.proofs.Unasked.{Quiet, attempt_gets}
use Rattle.takeover_laws.proofs.Asking.{call_or, reply_or}
use Rattle.silence_laws.proofs.Looking.{k}
use Rattle.lease_laws.proofs.Steps.{no_ask}

some_none : {A : Type 0} (x : A) → Some x ≡ None → ⊥
some_none x is = cc

-- ---- what it sends first after a failure

module _ (doc : Doc) (rules : ReleasesByStop doc) (m : ℕ) (q : Identity) (role : is_controller doc q.process ≡ true) (unled : (h : List Entry) → IsTail h (history doc m) → leads q h ≡ false)
    (unstopped : (x : Entry) → In x (history doc m) → x.fact ≡ Stops → has (of_process q.process x.actor) ≡ true → ⊥)
    (r : ℕ) (w : Call) (reply : Reply) (S : List Entry) (stands : IsTail (entry r 3 q (Delivers w reply true) ∷ S) (history doc m)) (failed : follow_on doc q r w.kind w.request reply (entry r 3 q (Delivers w reply true) ∷ S) ≡ Fails) where
  abbrev pub failure : Entry
  failure = entry r 3 q (Delivers w reply true)

  abbrev pub low : List Entry
  low = failure ∷ S

  abbrev pub due_at : ℕ
  due_at = retry_at false doc q failure S

  abbrev pub Still : List Entry → Type 0
  Still h = Quiet doc q low due_at (shown q low) (observed q low) h

  pub quiet_low : Still low
  quiet_low = record {
    call = ap (λ b. join (upper (when b None) (last_call q S))) (same_self q);
    timer_is =
        ap (λ b. or_zero (upper (only_if b (timer_follow doc q failure S (leads q S) (follow_on doc q r w.kind w.request reply low))) (newest (λ e T. timer_says doc q e T e.fact) S))) (same_self q)
        ∙ ap (λ f. or_zero (upper (timer_follow doc q failure S (leads q S) f) (newest (λ e T. timer_says doc q e T e.fact) S))) failed
        ∙ ap (λ b. retry_at b doc q failure S) (unled S (tail_trans S low (history doc m) (inr (tail_all S)) stands));
    shown_is = refl;
    seen_is = refl;
    expiry = λ k. ap (λ b. join (upper (when b None) (newest (λ e T. when (is_by q e.actor) (expired_in k e.beat e.fact)) S))) (same_self q);
    undelivered = λ z Z at below w reply fact mine. longer z Z (tail_length (z ∷ Z) low at) (tail_length low Z below);
  }
    where
      longer : (z : Entry) (Z : List Entry) → length (z ∷ Z) ≤ length low → length low ≤ length Z → ⊥
      longer z Z a b = omega (arith, a, b)

  -- it is a Get, at a beat at which the timer is reached
  pub record IsReached (x : Entry) (call : Call) : Type 0 where
    pub get : call.request ≡ Get election
    pub reached : due_at ≤ local doc q.process x.beat

  pub first_gets : (x : Entry) (before : List Entry) (call : Call) (arrives : Option ℕ) → IsTail (x ∷ before) (history doc m) → IsTail low before → Still before → x.fact ≡ Sends call arrives → x.actor ≡ actor_of q → IsReached x call
  first_gets x before call arrives position since still fact actor = by_step made.step_is
    where
      made : MadeSend doc x.beat x.step x.actor call arrives before
      made = subst (λ d. MadeAs doc x.beat x.step x.actor d before) fact (are_made doc rules m x before position)

      mine : made.q ≡ q
      mine = actor_is made.q q (sym made.by ∙ actor)

      role_made : is_controller doc made.q.process ≡ true
      role_made = ap (λ (p : Identity). is_controller doc p.process) mine ∙ role

      turned : IsDue doc x.beat q call before → IsReached x call
      turned (inl fast) = absurd (false_is (sym (ap is_fast_call (still.expiry x.beat)) ∙ fast))
      turned (inr due) = record {
        get = due.1 ∙ attempt_gets doc q x.beat before (unled before (tail_trans before (x ∷ before) (history doc m) (inr (tail_all before)) position));
        reached = ltb-false (local doc q.process x.beat) due_at (ap (λ at. nat_lt (local doc q.process x.beat) at) (sym still.timer_is) ∙ due.0);
      }

      follows : Replied doc x.beat made.q made.request before → ⊥
      follows f = cases (subst (IsTail low) f.is since)
        where
          cases : IsTail low (entry x.beat 3 made.q (Delivers f.waiting f.reply true) ∷ f.before) → ⊥
          cases (inl same) = no_ask made.request (sym fails_too ∙ ap (λ g. asks made.q x.beat f.waiting f.reply g) (same ∙ sym f.is) ∙ f.follows)
            where
              asks : Identity → ℕ → Call → Reply → List Entry → Follow
              asks p k c reply g = follow_on doc p k c.kind c.request reply g

              one : failure ≡ entry x.beat 3 made.q (Delivers f.waiting f.reply true)
              one = same_head failure (entry x.beat 3 made.q (Delivers f.waiting f.reply true)) S f.before same

              fails_too : asks made.q x.beat f.waiting f.reply low ≡ Fails
              fails_too =
                  ap (λ p. asks p x.beat f.waiting f.reply low) mine
                  ∙ ap (λ k. asks q k f.waiting f.reply low) (sym (ap (λ (e : Entry). e.beat) one))
                  ∙ ap (λ c. asks q r c f.reply low) (sym (ap (λ (e : Entry). call_or w e.fact) one))
                  ∙ ap (λ reply. asks q r w reply low) (sym (ap (λ (e : Entry). reply_or reply e.fact) one))
                  ∙ failed
          cases (inr below) =
              still.undelivered (entry x.beat 3 made.q (Delivers f.waiting f.reply true)) f.before (subst (IsTail (entry x.beat 3 made.q (Delivers f.waiting f.reply true) ∷ f.before)) (sym f.is) (tail_all (entry x.beat 3 made.q (Delivers f.waiting f.reply true) ∷ f.before)))
              below f.waiting f.reply refl (ap actor_of mine)

      by_step : (x.step ≡ 1) ⊎ ((x.step ≡ 3) ⊎ (x.step ≡ 4)) → IsReached x call
      by_step (inr (inr four)) = turned (subst (λ d. IsTurnSend doc x.beat q d before) fact (sends_are_due doc rules m x before position four q actor) role)
      by_step (inr (inl three)) = absurd (follows (made.replied role_made three))
      by_step (inl one) = absurd (stopped_or (made.free role_made))
        where
          stopped_or : HasStopped x.beat made.q made.kind before ⊎ ((alive made.q.process before ≡ Some made.q.incarnation) × (call_in made.q before ≡ None) × (3 ≤ x.step) × IsOpen made.kind) → ⊥
          stopped_or (inr free) = omega (arith, free.2, one)
          stopped_or (inl stopped) =
              let stop = entry x.beat 1 made.q Stops in
              unstopped stop (in_tail stop (x ∷ before) (history doc m) position (inr (subst (In stop) (sym stopped.is) (inl refl)))) refl
              (ap (λ b. has (when b made.q.incarnation)) (eq-eqb made.q.process q.process (ap (λ (p : Identity). p.process) mine)))
