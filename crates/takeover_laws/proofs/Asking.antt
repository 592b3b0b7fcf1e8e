-- A candidate whose attempt failed sends a Get as soon as its timer says so, and no sooner.
use Rattle.std.proofs.Common.{◌≡◌, ◌⊎◌, ◌<◌, ◌≤◌, ℕ, suc, ◌+◌, nat_lt, Bool, true, false, List, [], ◌∷◌, length, Option, Some, None, refl, sym, ap, ◌∙◌, subst, inl, inr, ⊎_elim, arith}
use Rattle.std.proofs.lemmas.Bool.{ltb-true, ltb-false, eq-eqb}
use Rattle.kube_base.specs.declared.numbers.Version.{Version}
use Rattle.kube_objects.specs.declared.call.Reply.{Reply}
use Rattle.kube_objects.specs.declared.call.Request.TheVariants.{Get}
use Rattle.kube_objects.specs.declared.deed.Actor.{Actor}
use Rattle.kube_objects.specs.Clocks.{local}
use Rattle.kube_objects.specs.Document.{Doc, is_controller, renew_deadline}
use Rattle.kube_objects.specs.Elector.{Follow, retry_at, timer_says, Fails, shown, observed, leads, lead_says, follow_on, timer_follow, deadline_says, deadline, attempt}
use Rattle.kube_objects.specs.Entry.{Entry, Identity, Call, Fact, Stops, Sends, Delivers, Leads, entry}
use Rattle.kube_objects.specs.Identities.{is_by}
use Rattle.kube_objects.specs.Newest.{newest, when, only_if, join, has, or_zero}
use Rattle.kube_objects.specs.Pauses.{is_paused}
use Rattle.kube_objects.specs.Process.{alive, last_call, call_in}
use Rattle.kube_objects.specs.Stored.{election}
use Rattle.kube_objects.specs.Turns.{expired_in, is_fast_call}
use Rattle.kube_objects.specs.Wire.{send, next_call, request_arrival}
use Rattle.kube_objects.specs.Own.{ReleasesByStop}
use Rattle.history.specs.History.{history, at_turn}
use Rattle.history.specs.Safe.{Acts}
use Rattle.history.specs.Steps.{turn}
use Rattle.history_laws.specs.Tails.{In, IsTail}
use Rattle.history_laws.proofs.Plainly.{upper, true_is, false_is, same_self}
use Rattle.history_laws.proofs.Tailed.{tail_all, tail_trans, in_tail, later_tail, turn_tail, before_turn, same_head}
use Rattle.call_laws.specs.Answering.{with_events}
use Rattle.call_laws.proofs.Above.{tail_length, next_above}
use Rattle.call_laws.proofs.Making.{HasStopped, IsOpen, Replied}
use Rattle.call_laws.proofs.Sending.{MadeFor, made_for}
use Rattle.call_laws.proofs.Starting.{sends_are_due}
use Rattle.call_laws.proofs.Placing.{in_own_beat}
use Rattle.call_laws.proofs.Turning.{IsDue, IsTurnSend}
use Rattle.takeover_laws.specs.Asking.{HasAsked, CandidatesAsk}
use Rattle.takeover_laws.specs.Calm.{IsSteady}
use Rattle.takeover_laws.proofs.Unasked.{Quiet, Asked, quiet_or_asked, turn_tries, attempt_gets}
use Rattle.takeover_laws.proofs.Fresh.{turn_leads}
use Rattle.takeover_laws.proofs.Standing.{controllers_first, IsSince, since_events, unled, persists}
use Rattle.takeover_laws.proofs.Waits.{retry_least, retry_most}
use Rattle.lease_laws.proofs.Steps.{no_ask}

-- ---- who leads has a deadline, and leads on

pub leads_set : (doc : Doc) (q : Identity) (h : List Entry) → leads q h ≡ true → has (deadline doc q h) ≡ true
leads_set doc q [] is = absurd (false_is is)
leads_set doc q (x ∷ h) is = cases x.actor x.fact (leads_set doc q h) is
  where
    older : (o : Option ℕ) → has (deadline doc q h) ≡ true → has (upper o (deadline doc q h)) ≡ true
    older None is = is
    older (Some at) is = refl

    cases : (who : Actor) (d : Fact) → (leads q h ≡ true → has (deadline doc q h) ≡ true) → has (upper (lead_says q who d) (newest (λ e T. lead_says q e.actor e.fact) h)) ≡ true → has (upper (deadline_says doc q x.beat who (leads q h) d) (deadline doc q h)) ≡ true
    cases who (Leads version) below is = by_test (is_by q who) is
      where
        by_test : (b : Bool) → has (upper (when b version) (newest (λ e T. lead_says q e.actor e.fact) h)) ≡ true → has (upper (when b (local doc q.process x.beat + renew_deadline doc q.process)) (deadline doc q h)) ≡ true
        by_test true is = refl
        by_test false is = below is
    cases who (Delivers call reply counted) below is = older (deadline_says doc q x.beat who (leads q h) (Delivers call reply counted)) (below is)
    cases who d below is = below is

pub leads_on : (q : Identity) (g h : List Entry) → IsTail g h → leads q g ≡ true → leads q h ≡ true
leads_on q g [] at is = subst (λ g. leads q g ≡ true) at is
leads_on q g (x ∷ h) (inl same) is = subst (λ g. leads q g ≡ true) same is
leads_on q g (x ∷ h) (inr at) is = older (lead_says q x.actor x.fact) (leads_on q g h at is)
  where
    older : (o : Option Version) → leads q h ≡ true → has (upper o (newest (λ e T. lead_says q e.actor e.fact) h)) ≡ true
    older None is = is
    older (Some v) is = refl

-- ---- what was asked

abbrev pub call_or : Call → Fact → Call
call_or c (Delivers d reply counted) = d
call_or c _ = c

abbrev pub reply_or : Reply → Fact → Reply
reply_or x (Delivers d reply counted) = reply
reply_or x _ = x

module _ (doc : Doc) (rules : ReleasesByStop doc) (near far a e n r : ℕ) (q : Identity) (role : is_controller doc q.process ≡ true) (lasts : 1 ≤ renew_deadline doc q.process) (steady : IsSteady doc near far a e q.process)
    (within : n ≤ e) (none : (k : ℕ) → a ≤ k → k ≤ n → Acts doc q k → ⊥) (from : a ≤ r)
    (w : Call) (reply : Reply) (T : List Entry) (after : IsTail (with_events doc a) T) (stands : IsTail (entry r 3 q (Delivers w reply true) ∷ T) (history doc (suc n))) (alive_at : alive q.process T ≡ Some q.incarnation)
    (failed : follow_on doc q r w.kind w.request reply (entry r 3 q (Delivers w reply true) ∷ T) ≡ Fails) (last : r ≤ n) where
  abbrev failure : Entry
  failure = entry r 3 q (Delivers w reply true)

  abbrev low : List Entry
  low = failure ∷ T

  abbrev due_at : ℕ
  due_at = retry_at false doc q failure T

  up : (h : List Entry) → IsTail low h → IsTail h (history doc (suc n)) → alive q.process h ≡ Some q.incarnation
  up h below high = persists doc rules near far a e n q role lasts steady within none (omega (arith, from, last)) T h after (tail_trans T low h (inr (tail_all T)) below) high alive_at

  last_unled : leads q (history doc (suc n)) ≡ false
  last_unled = by_test (leads q (history doc (suc n))) refl
    where
      no_set : has (deadline doc q (history doc (suc n))) ≡ true → ⊥
      no_set set = true_is (sym set ∙ ap has (unled doc rules near far a e n q role lasts steady within none n (omega (arith, from, last)) (omega arith) (up (history doc (suc n)) stands (tail_all (history doc (suc n))))))

      by_test : (b : Bool) → leads q (history doc (suc n)) ≡ b → leads q (history doc (suc n)) ≡ false
      by_test false is = is
      by_test true is = absurd (no_set (leads_set doc q (history doc (suc n)) is))

  never_led : (h : List Entry) → IsTail h (history doc (suc n)) → leads q h ≡ false
  never_led h high = by_test (leads q h) refl
    where
      by_test : (b : Bool) → leads q h ≡ b → leads q h ≡ false
      by_test false is = is
      by_test true is = absurd (true_is (sym (leads_on q h (history doc (suc n)) high is) ∙ last_unled))

  quiet_low : Quiet doc q low due_at (shown q low) (observed q low) low
  quiet_low = record {
    call = ap (λ b. join (upper (when b None) (last_call q T))) (same_self q);
    timer_is =
        ap (λ b. or_zero (upper (only_if b (timer_follow doc q failure T (leads q T) (follow_on doc q r w.kind w.request reply low))) (newest (λ e T. timer_says doc q e T e.fact) T))) (same_self q)
        ∙ ap (λ f. or_zero (upper (timer_follow doc q failure T (leads q T) f) (newest (λ e T. timer_says doc q e T e.fact) T))) failed
        ∙ ap (λ b. retry_at b doc q failure T) (never_led T (tail_trans T low (history doc (suc n)) (inr (tail_all T)) stands));
    shown_is = refl;
    seen_is = refl;
    expiry = λ k. ap (λ b. join (upper (when b None) (newest (λ e T. when (is_by q e.actor) (expired_in k e.beat e.fact)) T))) (same_self q);
    undelivered = λ z Z at below w reply fact mine. longer z Z (tail_length (z ∷ Z) low at) (tail_length low Z below);
  }
    where
      longer : (z : Entry) (Z : List Entry) → length (z ∷ Z) ≤ length low → length low ≤ length Z → ⊥
      longer z Z a b = omega (arith, a, b)

  -- what was asked is a Get, at a beat whose reading has reached the timer
  get_of : (h : List Entry) → IsTail h (history doc (suc n)) → Asked doc q low due_at (shown q low) (observed q low) h → HasAsked doc q due_at low h
  get_of h high s = by_step made.step_is
    where
      position : IsTail (s.x ∷ s.before) (history doc (suc n))
      position = tail_trans (s.x ∷ s.before) h (history doc (suc n)) s.position high

      made : MadeFor doc q s.x.beat s.x.step s.call s.arrives s.before
      made = made_for doc rules (suc n) q s.x s.before s.call s.arrives position s.actor s.fact

      asked_as : s.call.request ≡ Get election → nat_lt (local doc q.process s.x.beat) due_at ≡ false → HasAsked doc q due_at low h
      asked_as get due = record {
        x = s.x;
        before = s.before;
        position = s.position;
        since = s.since;
        call = s.call;
        arrives = s.arrives;
        fact = s.fact;
        actor = s.actor;
        get = get;
        reached = ltb-false (local doc q.process s.x.beat) due_at due;
        shown_is = s.quiet.shown_is;
        seen_is = s.quiet.seen_is;
      }

      turned : IsDue doc s.x.beat q s.call s.before → HasAsked doc q due_at low h
      turned (inl fast) = absurd (false_is (sym (ap is_fast_call (s.quiet.expiry s.x.beat)) ∙ fast))
      turned (inr due) =
          asked_as (due.1 ∙ attempt_gets doc q s.x.beat s.before (never_led s.before (tail_trans s.before (s.x ∷ s.before) (history doc (suc n)) (inr (tail_all s.before)) position)))
          (ap (λ at. nat_lt (local doc q.process s.x.beat) at) (sym s.quiet.timer_is) ∙ due.0)

      follows : Replied doc s.x.beat q s.call.request s.before → ⊥
      follows f = cases (subst (IsTail low) f.is s.since)
        where
          cases : IsTail low (entry s.x.beat 3 q (Delivers f.waiting f.reply true) ∷ f.before) → ⊥
          cases (inl same) = no_ask s.call.request (sym fails_too ∙ ap (λ g. asks q s.x.beat f.waiting f.reply g) (same ∙ sym f.is) ∙ f.follows)
            where
              asks : Identity → ℕ → Call → Reply → List Entry → Follow
              asks p k c reply g = follow_on doc p k c.kind c.request reply g

              one : failure ≡ entry s.x.beat 3 q (Delivers f.waiting f.reply true)
              one = same_head failure (entry s.x.beat 3 q (Delivers f.waiting f.reply true)) T f.before same

              fails_too : asks q s.x.beat f.waiting f.reply low ≡ Fails
              fails_too =
                  ap (λ k. asks q k f.waiting f.reply low) (sym (ap (λ (e : Entry). e.beat) one))
                  ∙ ap (λ c. asks q r c f.reply low) (sym (ap (λ (e : Entry). call_or w e.fact) one))
                  ∙ ap (λ reply. asks q r w reply low) (sym (ap (λ (e : Entry). reply_or reply e.fact) one))
                  ∙ failed
          cases (inr below) =
              s.quiet.undelivered (entry s.x.beat 3 q (Delivers f.waiting f.reply true)) f.before (subst (IsTail (entry s.x.beat 3 q (Delivers f.waiting f.reply true) ∷ f.before)) (sym f.is) (tail_all (entry s.x.beat 3 q (Delivers f.waiting f.reply true) ∷ f.before)))
              below f.waiting f.reply refl refl

      by_step : (s.x.step ≡ 1) ⊎ ((s.x.step ≡ 3) ⊎ (s.x.step ≡ 4)) → HasAsked doc q due_at low h
      by_step (inr (inr four)) = turned (subst (λ d. IsTurnSend doc s.x.beat q d s.before) s.fact (sends_are_due doc rules (suc n) s.x s.before position four q s.actor) role)
      by_step (inr (inl three)) = absurd (follows (made.replied role three))
      by_step (inl one) = absurd (stopped_or (made.free role))
        where
          stopped_or : HasStopped s.x.beat q s.call.kind s.before ⊎ ((alive q.process s.before ≡ Some q.incarnation) × (call_in q s.before ≡ None) × (3 ≤ s.x.step) × IsOpen s.call.kind) → ⊥
          stopped_or (inr free) = omega (arith, free.2, one)
          stopped_or (inl stopped) =
              let stop = entry s.x.beat 1 q Stops in
              let there = in_tail stop (history doc (suc n)) (history doc (suc e)) (later_tail doc (suc n) (suc e) (omega (arith, within)))
              (in_tail stop (s.x ∷ s.before) (history doc (suc n)) position (inr (subst (In stop) (sym stopped.is) (inl refl)))) in
              let before = steady.stops stop there refl (ap (λ b. has (when b q.incarnation)) (eq-eqb q.process q.process refl)) in
              let below = tail_trans (with_events doc a) T s.before after (tail_trans T low s.before (inr (tail_all T)) s.since) in
              let since = (next_above (IsSince a) (with_events doc a) s.before (history doc (suc n)) s.x (since_events doc a n (omega (arith, from, last))) below position).0 in
              let late : a ≤ s.x.beat = ⊎_elim (λ lt. omega (arith, lt)) (λ here. omega (arith, here.0)) since in
              omega (arith, before, late)

  -- at a beat whose reading has reached the timer it has asked
  pub asks_by : (k : ℕ) → r < k → k ≤ n → due_at ≤ local doc q.process k → HasAsked doc q due_at low (history doc (suc k))
  asks_by k later to reached =
      get_of (history doc (suc k)) upto (by_turn (quiet_or_asked doc q low due_at (shown q low) (observed q low) rules (suc n) role never_led up g quiet_low below (tail_trans g (history doc (suc k)) (history doc (suc n)) high upto)))
    where
      g : List Entry
      g = at_turn doc q.process k

      upto : IsTail (history doc (suc k)) (history doc (suc n))
      upto = later_tail doc (suc k) (suc n) (omega (arith, to))

      high : IsTail g (history doc (suc k))
      high = turn_tail doc q.process k (omega (arith, controllers_first doc q.process role))

      below : IsTail low g
      below =
          tail_trans low (history doc (suc r)) g (in_own_beat doc (suc n) failure T stands)
          (tail_trans (history doc (suc r)) (history doc k) g (later_tail doc (suc r) k (omega (arith, later))) (before_turn doc q.process k))

      awake : is_paused doc q.process k ≡ false
      awake = (steady.passes k (omega (arith, from, later)) (omega (arith, to, within))).awake

      not_led : leads q g ≡ false
      not_led = never_led g (tail_trans g (history doc (suc k)) (history doc (suc n)) high upto)

      unset : deadline doc q g ≡ None
      unset = by_set (deadline doc q g) refl
        where
          by_set : (o : Option ℕ) → deadline doc q g ≡ o → deadline doc q g ≡ None
          by_set None is = is
          by_set (Some at) is = absurd (true_is (sym (turn_leads doc q q.process k (ap has is)) ∙ not_led))

      late : nat_lt (local doc q.process k) due_at ≡ false
      late = by_test (nat_lt (local doc q.process k) due_at) refl
        where
          by_test : (b : Bool) → nat_lt (local doc q.process k) due_at ≡ b → nat_lt (local doc q.process k) due_at ≡ false
          by_test false is = is
          by_test true is = absurd (omega (arith, ltb-true (local doc q.process k) due_at is, reached))

      tried : Quiet doc q low due_at (shown q low) (observed q low) g → IsTail (send doc k 4 q (attempt doc q k g).0 (attempt doc q k g).1 g) (history doc (suc k))
      tried s =
          tail_trans (send doc k 4 q (attempt doc q k g).0 (attempt doc q k g).1 g) (turn doc k q.process g) (history doc (suc k))
          (turn_tries doc k q g role awake (up g below (tail_trans g (history doc (suc k)) (history doc (suc n)) high upto)) s.call unset (s.expiry k) (ap (λ at. nat_lt (local doc q.process k) at) s.timer_is ∙ late))
          (turn_tail doc (suc q.process) k (omega (arith, controllers_first doc q.process role)))

      by_turn : Quiet doc q low due_at (shown q low) (observed q low) g ⊎ Asked doc q low due_at (shown q low) (observed q low) g → Asked doc q low due_at (shown q low) (observed q low) (history doc (suc k))
      by_turn (inl s) = record {
        x = entry k 4 q (Sends (next_call q k (attempt doc q k g).0 (attempt doc q k g).1 g) (request_arrival doc q.process k g));
        before = g;
        position = tried s;
        since = below;
        quiet = s;
        call = next_call q k (attempt doc q k g).0 (attempt doc q k g).1 g;
        arrives = request_arrival doc q.process k g;
        fact = refl;
        actor = refl;
      }
      by_turn (inr s) = record {
        x = s.x;
        before = s.before;
        position = tail_trans (s.x ∷ s.before) g (history doc (suc k)) s.position high;
        since = s.since;
        quiet = s.quiet;
        call = s.call;
        arrives = s.arrives;
        fact = s.fact;
        actor = s.actor;
      }

pub candidates_ask : CandidatesAsk
candidates_ask doc rules near far a e n r k q role lasts steady within none from w reply T after stands up failed later to reached =
    record {
      x = h.x;
      before = h.before;
      position = h.position;
      since = h.since;
      call = h.call;
      arrives = h.arrives;
      fact = h.fact;
      actor = h.actor;
      get = h.get;
      reached = omega (arith, h.reached, retry_least doc false refl q failed_at T);
      shown_is = h.shown_is;
      seen_is = h.seen_is;
    }
  where
    failed_at : Entry
    failed_at = entry r 3 q (Delivers w reply true)

    h : HasAsked doc q (retry_at false doc q failed_at T) (failed_at ∷ T) (history doc (suc k))
    h =
        asks_by doc rules near far a e n r q role lasts steady within none from w reply T after stands up failed (omega (arith, later, to)) k later to
        (omega (arith, reached, retry_most doc false refl q failed_at T))
