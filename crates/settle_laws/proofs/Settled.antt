-- In a calm whose leaders renew in time, it isn't so that no steady controller has a success by the bound.
use Rattle.std.specs.Int.{div_ceil}
use Rattle.std.proofs.Common.{◌≡◌, ◌<◌, ◌≤◌, ℕ, suc, ◌+◌, ◌-◌, ◌*◌, max, true, false, List, ◌∷◌, Option, Some, None, refl, sym, ap, ◌∙◌, subst, ⊎_elim, arith}
use Rattle.std.proofs.lemmas.Bool.{eq-eqb, cases_lt}
use Rattle.kube_objects.specs.Document.{Doc, processes, end_beat, is_controller, retry_period, renew_deadline}
use Rattle.kube_objects.specs.Elector.{leads}
use Rattle.kube_objects.specs.Entry.{Entry, Identity, Fact, Answers, actor_of}
use Rattle.kube_objects.specs.Identities.{identity, of_process}
use Rattle.kube_objects.specs.Newest.{when, has}
use Rattle.kube_objects.specs.Clocks.{local}
use Rattle.kube_objects.specs.Own.{ReleasesByStop}
use Rattle.kube_objects.specs.Pauses.{is_paused}
use Rattle.kube_objects.specs.Process.{alive}
use Rattle.kube_objects.specs.Stored.{election, stored}
use Rattle.history.specs.History.{history, at_turn}
use Rattle.history.specs.Safe.{Acts}
use Rattle.history.specs.Sound.{IsSound}
use Rattle.history_laws.specs.Tails.{IsTail}
use Rattle.history_laws.proofs.Plainly.{true_is}
use Rattle.history_laws.proofs.Tailed.{tail_all, tail_trans, in_tail, later_tail, turn_tail, before_turn}
use Rattle.span_laws.specs.Looks.{IsGreatest}
use Rattle.span_laws.specs.Quotients.{most_beats}
use Rattle.span_laws.specs.Spans.{IsEnough}
use Rattle.span_laws.proofs.Quotients.{rounded_is, bounds_are_exact}
use Rattle.call_laws.specs.Answering.{with_events}
use Rattle.call_laws.proofs.Above.{in_head}
use Rattle.call_laws.proofs.Answering.{events_position}
use Rattle.takeover_laws.specs.Acting.{AreInTime}
use Rattle.takeover_laws.specs.Calm.{IsSteady, IsQuiet, IsCalm, IsInTime, WritesElection}
use Rattle.takeover_laws.proofs.Standing.{controllers_first, persists}
use Rattle.takeover_laws.proofs.Writers.{writer_acts}
use Rattle.calm_laws.specs.Bounds.{early_record, LastsFor, IsCandidate, AreBeats}
use Rattle.calm_laws.proofs.Bounded.{events_low, no_candidate, lost_in, wait_in, needed_in, in_beats}
use Rattle.takeover_laws.proofs.Taking.{IsKept}
use Rattle.calm_laws.proofs.Looks.{object_of}
use Rattle.stay_laws.specs.Stays.{Stays}
use Rattle.stay_laws.proofs.Staying.{leaders_stay}
use Rattle.settle_laws.specs.Settles.{AreRenewed, EndsBy, AllEndBy, AllLastFor, IsSettled, settle_bound, CalmSpansSettle, EndsInBeats, SettlingIsTold}
use Rattle.settle_laws.proofs.Deciding.{SomebodySucceeds, NobodySucceeds, somebody_or_nobody}
use Rattle.settle_laws.proofs.Early as early
use Rattle.settle_laws.proofs.Terms.{SucceedsBy, none_acts, never_leads, never_acts}
use Rattle.settle_laws.proofs.Writing.{kept, lasts}

-- a write by a call that was sent at a beat or later is one by a call since an earlier beat
writes_since : (a b : ℕ) (d : Fact) → a ≤ b → WritesElection b d → WritesElection a d
writes_since a b (Answers call reply comes wrote) le writes = let from = writes.0 in (omega (arith, le, from), writes.1)
writes_since a b d le writes = absurd writes

-- who stays from a beat on stays from a later one on
stays_later : (doc : Doc) (q : Identity) (j n e : ℕ) → j ≤ n → Stays doc q j e → Stays doc q n e
stays_later doc q j n e le s = record {
  acts = λ k from to. s.acts k (omega (arith, le, from)) to;
  alone = λ x before at from writes. s.alone x before at (omega (arith, le, from)) writes;
}

-- ---- while nobody succeeds

module _ (doc : Doc) (near far a e n : ℕ) (sound : IsSound doc) (rules : ReleasesByStop doc) (calm : IsCalm doc near far a e) (time : AreInTime doc near far a e) (one : 1 ≤ near) (ways : near ≤ far) (end : e ≤ end_beat doc) (within : n ≤ e)
    (old : ℕ) (ends : AllEndBy doc near far a e old) (room : a + old ≤ n) (renewed : AreRenewed doc near far a e) (nobody : NobodySucceeds doc near far a e n) where
  some_far : 1 ≤ far
  some_far = omega (arith, one, ways)

  abbrev settled : ℕ
  settled = a + old

  module _ (q : Identity) (role : is_controller doc q.process ≡ true) (steady : IsSteady doc near far a e q.process) where
    t : IsInTime doc far a e q.process
    t = time q.process role steady

    ends_by : EndsBy doc far a e old q.process
    ends_by = ends q.process role steady

    awake : (k : ℕ) → a ≤ k → k ≤ e → is_paused doc q.process k ≡ false
    awake k low high = (steady.passes k low high).awake

    soon : a + (2 * far - 1) < settled
    soon = early.soon doc near far a e n sound rules calm time one ways end within old room q.process role steady t.deadline ends_by

    reached : local doc q.process (a + (2 * far - 1)) + (retry_period doc q.process + renew_deadline doc q.process) ≤ local doc q.process settled
    reached = early.reached doc near far a e n sound rules calm time one ways end within old room q.process role steady t.deadline ends_by

    success_by : SucceedsBy doc n q (a + (2 * far - 1))
    success_by = early.success_by doc near far a e n sound rules calm time one ways end within old room q.process role steady t.deadline ends_by q refl (renewed q role steady) (nobody q role steady)

    none_later : (k : ℕ) → settled ≤ k → k ≤ n → Acts doc q k → ⊥
    none_later = none_acts doc rules a e n end within q role awake (a + (2 * far - 1)) settled (omega arith) soon room reached success_by

    -- its messages pass from that beat on, too, and none of its terms ends at it
    steady_later : IsSteady doc near far settled e q.process
    steady_later = record {
      passes = λ k low high. steady.passes k (omega (arith, low)) high;
      crashes = λ x at fact mine. let le = steady.crashes x at fact mine in omega (arith, le);
      stops = λ x at fact mine. let lt = steady.stops x at fact mine in omega (arith, lt);
      ends =
          early.none_ends doc near far a e n sound rules calm time one ways end within old room q.process role steady t.deadline ends_by
          (λ r mine. renewed r (ap (is_controller doc) mine ∙ role) (subst (IsSteady doc near far a e) (sym mine) steady))
          (λ r mine. nobody r (ap (is_controller doc) mine ∙ role) (subst (IsSteady doc near far a e) (sym mine) steady));
    }

    in_time_later : IsInTime doc far settled e q.process
    in_time_later = record { fast = t.fast; runs = λ j low lt. t.runs j (omega (arith, low)) lt; timeout = t.timeout; deadline = t.deadline }

    -- who is up after its turn at that beat never led
    module _ (h : List Entry) (low : IsTail (at_turn doc (suc q.process) settled) h) (high : IsTail h (history doc (suc n))) (up : alive q.process h ≡ Some q.incarnation) where
      led : (g : List Entry) → IsTail g (history doc (suc n)) → leads q g ≡ false
      led = never_leads doc rules a e n end within q role awake (a + (2 * far - 1)) settled (omega arith) soon room reached success_by h low high up

      idle : (k : ℕ) → a ≤ k → k ≤ n → Acts doc q k → ⊥
      idle = never_acts doc rules a e n end within q role awake (a + (2 * far - 1)) settled (omega arith) soon room reached success_by h low high up

      -- and stays up
      stays_up : IsTail (with_events doc a) h → (g : List Entry) → IsTail h g → IsTail g (history doc (suc n)) → alive q.process g ≡ Some q.incarnation
      stays_up after g below above = persists doc rules near far a e n q role t.deadline steady within idle (omega (arith, room)) h g after below above up

  -- no election write by a call of that beat or later is accepted
  no_write : (x : Entry) (T : List Entry) (q : Identity) → IsTail (x ∷ T) (history doc (suc n)) → x.actor ≡ actor_of q → is_controller doc q.process ≡ true → WritesElection settled x.fact → x.beat + far ≤ n → ⊥
  no_write x T q at by role writes late = ⊎_elim steady quiet (calm.each q.process role)
    where
      steady : IsSteady doc near far a e q.process → ⊥
      steady s = writer_acts doc rules near far settled e n q role (steady_later q role s) (in_time_later q role s) within one (none_later q role s) x T at by writes late

      quiet : IsQuiet doc a e q.process → ⊥
      quiet s =
          s x (in_tail x (history doc (suc n)) (history doc (suc e)) (later_tail doc (suc n) (suc e) (omega (arith, within))) (in_head x T (history doc (suc n)) at))
          (ap (λ who. has (of_process q.process who)) by ∙ ap (λ b. has (when b q.incarnation)) (eq-eqb q.process q.process refl)) (writes_since a settled x.fact (omega arith) writes)

  is_kept : IsKept doc far settled n
  is_kept = kept doc near far a e n sound rules calm time one ways end within settled (omega arith) no_write

  module _ (most_lasts : ℕ) (all : AllLastFor doc near far a e most_lasts) (p later slow fast lost wait needed : ℕ) (first_lasts : LastsFor doc p most_lasts (early_record a (history doc (a + far))))
      (c : IsCandidate doc near far a e p later slow fast) (b : AreBeats doc p slow fast lost wait needed) (after : old ≤ later)
      (first : ℕ) (up_by : later ≤ first) (lost_by : lost + wait ≤ first) (ways_by : (old + 4 * far - 1) + wait ≤ first)
      (enough most : ℕ) (enough_is : IsEnough slow most_lasts enough) (most_is : IsGreatest (needed + 2 * near) (wait + 2 * far) enough most) (time_left : a + first + most + 4 * far ≤ n) where
    abbrev S : List Entry
    S = at_turn doc (suc p) (a + later)

    below : p < processes doc
    below = controllers_first doc p c.role

    record_lasts : LastsFor doc p most_lasts (object_of (stored election (history doc (settled + far))))
    record_lasts = lasts doc near far a e n sound rules calm time one ways end within settled (omega arith) no_write most_lasts all p (all p c.role c.steady) first_lasts (omega (arith, ways_by, time_left, some_far))

    turn_high : (k : ℕ) → k ≤ n → IsTail (at_turn doc (suc p) k) (history doc (suc n))
    turn_high k le = tail_trans (at_turn doc (suc p) k) (history doc (suc k)) (history doc (suc n)) (turn_tail doc (suc p) k (omega (arith, below))) (later_tail doc (suc k) (suc n) (omega (arith, le)))

    -- its turn at that beat comes before those of later beats
    turn_before : (j : ℕ) → settled < j → (m : ℕ) → IsTail (at_turn doc (suc p) settled) (at_turn doc m j)
    turn_before j lt m =
        tail_trans (at_turn doc (suc p) settled) (history doc j) (at_turn doc m j)
        (tail_trans (at_turn doc (suc p) settled) (history doc (suc settled)) (history doc j) (turn_tail doc (suc p) settled (omega (arith, below))) (later_tail doc (suc settled) j (omega (arith, lt)))) (before_turn doc m j)

    s_low : IsTail (at_turn doc (suc p) settled) S
    s_low = ⊎_elim (λ lt. turn_before (a + later) lt (suc p)) (λ le. same (omega (arith, le, after))) (cases_lt settled (a + later))
      where
        same : settled ≡ a + later → IsTail (at_turn doc (suc p) settled) S
        same is = subst (λ k. IsTail (at_turn doc (suc p) settled) (at_turn doc (suc p) k)) is (tail_all (at_turn doc (suc p) settled))

    s_high : IsTail S (history doc (suc n))
    s_high = turn_high (a + later) (omega (arith, up_by, time_left))

    -- the events of the span's first beat come before
    after_events : (h : List Entry) → IsTail (at_turn doc (suc p) settled) h → IsTail (with_events doc a) h
    after_events h low = tail_trans (with_events doc a) (at_turn doc (suc p) settled) h (⊎_elim later_beat (λ le. same (omega (arith, le))) (cases_lt a settled)) low
      where
        same : a ≡ settled → IsTail (with_events doc a) (at_turn doc (suc p) settled)
        same is = subst (λ k. IsTail (with_events doc a) (at_turn doc (suc p) k)) is (events_low doc (suc p) a)

        later_beat : a < settled → IsTail (with_events doc a) (at_turn doc (suc p) settled)
        later_beat lt =
            tail_trans (with_events doc a) (history doc settled) (at_turn doc (suc p) settled)
            (tail_trans (with_events doc a) (history doc (suc a)) (history doc settled) (events_position doc a) (later_tail doc (suc a) settled (omega (arith, lt)))) (before_turn doc (suc p) settled)

    with_identity : (i : ℕ) → alive p S ≡ Some i → ⊥
    with_identity i up =
        no_candidate doc rules near far a settled e n calm one ways (omega arith) within is_kept most_lasts p later slow fast lost wait needed record_lasts c b (time p c.role c.steady) first up_by lost_by (omega (arith, ways_by, some_far))
        enough most enough_is most_is time_left i (idle (identity p i) c.role c.steady S s_low s_high up) (led (identity p i) c.role c.steady S s_low s_high up)
        (λ h low high. stays_up (identity p i) c.role c.steady S s_low s_high up (after_events S s_low) h low high) stays
      where
        stays : (j : ℕ) (g : List Entry) → IsTail (at_turn doc p (a + first)) g → IsTail g (at_turn doc (suc p) (a + first)) → alive p g ≡ Some j → alive p (at_turn doc (suc p) (a + first)) ≡ Some j
        stays j g low high there =
            let g_low = tail_trans (at_turn doc (suc p) settled) (at_turn doc p (a + first)) g (turn_before (a + first) (omega (arith, ways_by, some_far)) p) low in
            let first_high = turn_high (a + first) (omega (arith, time_left)) in
            stays_up (identity p j) c.role c.steady g g_low (tail_trans g (at_turn doc (suc p) (a + first)) (history doc (suc n)) high first_high) there (after_events g g_low) (at_turn doc (suc p) (a + first)) high first_high

    pub never : ⊥
    never = by_up (alive p S) refl
      where
        by_up : (o : Option ℕ) → alive p S ≡ o → ⊥
        by_up None is = true_is (sym c.up ∙ ap has is)
        by_up (Some i) is = with_identity i is

-- ---- the law

pub calm_spans_settle : CalmSpansSettle
calm_spans_settle doc near far a e sound rules calm time one ways end renewed old ends p later slow fast lost wait needed c b after first up_by lost_by ways_by most_lasts enough most early all enough_is most_is within =
    ⊎_elim found (λ nobody. absurd (nobody_never nobody)) (somebody_or_nobody doc rules near far a e n)
  where
    n : ℕ
    n = a + first + most + 4 * far

    found : SomebodySucceeds doc near far a e n → IsSettled doc near far a e n
    found s = record {
      q = s.q;
      role = s.role;
      steady = s.is_steady;
      stays = stays_later doc s.q s.j n e s.to (leaders_stay doc near far a e sound rules calm time one ways end s.q s.role s.is_steady (renewed s.q s.role s.is_steady) s.j s.success);
    }

    nobody_never : NobodySucceeds doc near far a e n → ⊥
    nobody_never nobody =
        never doc near far a e n sound rules calm time one ways end within old ends (omega (arith, after, up_by)) renewed nobody most_lasts all p later slow fast lost wait needed early c b after
        first up_by lost_by ways_by enough most enough_is most_is (omega arith)

pub settling_is_told : SettlingIsTold
settling_is_told doc near far a e sound rules calm time one ways end renewed old ends p later slow fast c some_slow some_fast after most_lasts early all within =
    subst (IsSettled doc near far a e) sum
    (calm_spans_settle doc near far a e sound rules calm time one ways end renewed old old_in_beats p later slow fast (lost_in doc p slow) (wait_in doc p slow) (needed_in doc p fast) c
    (in_beats doc p slow fast some_slow some_fast)
    after first (omega arith) (omega arith) (omega arith) most_lasts enough most early all (rounded_is slow most_lasts some_slow).0 ((bounds_are_exact (needed_in doc p fast + 2 * near) (wait_in doc p slow + 2 * far) enough).0 some_step).1 (omega (arith, sum, within)))
  where
    old_in_beats : AllEndBy doc near far a e old
    old_in_beats q role s =
        let b : EndsInBeats doc far a e old q = ends q role s in
        record { slow = b.slow; beats = div_ceil (retry_period doc q + renew_deadline doc q) b.slow; runs = b.runs; beats_is = (rounded_is b.slow (retry_period doc q + renew_deadline doc q) b.some).0; in_old = b.in_old }

    enough : ℕ
    enough = div_ceil most_lasts slow

    first : ℕ
    first = max later (max (lost_in doc p slow) (old + 4 * far - 1) + wait_in doc p slow)

    most : ℕ
    most = most_beats (needed_in doc p fast + 2 * near) (wait_in doc p slow + 2 * far) enough

    some_step : 1 ≤ needed_in doc p fast + 2 * near
    some_step = omega (arith, one)

    sum : a + first + most + 4 * far ≡ a + settle_bound doc near far p later slow fast old most_lasts
    sum = omega arith
