-- Where a steady controller has no success by a call of the span, each of its terms is over by a beat.
use Rattle.std.proofs.Common.{◌≡◌, ◌⊎◌, ◌<◌, ◌≤◌, ℕ, suc, ◌+◌, ◌&&◌, nat_lt, Bool, true, false, List, [], ◌∷◌, Option, Some, None, refl, sym, ap, ◌∙◌, subst, inl, inr, arith}
use Rattle.std.proofs.lemmas.Bool.{ltb-true}
use Rattle.kube_objects.specs.declared.call.Reply.{Reply}
use Rattle.kube_objects.specs.declared.deed.Actor.{Actor}
use Rattle.kube_objects.specs.Clocks.{local}
use Rattle.kube_objects.specs.Document.{Doc, processes, end_beat, is_controller, retry_period, renew_deadline}
use Rattle.kube_objects.specs.Elector.{succeeds, leads, deadline_says, deadline, is_before}
use Rattle.kube_objects.specs.Entry.{Entry, Identity, Call, Fact, Delivers, Leads, actor_of, entry, StepsDown, ReleaseBegins, ReleaseEnds, ReleaseStops}
use Rattle.kube_objects.specs.Identities.{is_by}
use Rattle.kube_objects.specs.Newest.{has}
use Rattle.kube_objects.specs.Pauses.{is_paused, can_at}
use Rattle.kube_objects.specs.Process.{alive, starts, is_present}
use Rattle.kube_objects.specs.Own.{ReleasesByStop}
use Rattle.lease_laws.proofs.Claims.{term_of}
use Rattle.kube_objects.proofs.Clocks.{local_up}
use Rattle.history.specs.History.{history, at_turn}
use Rattle.history.specs.Safe.{Acts}
use Rattle.history_laws.specs.Tails.{IsTail}
use Rattle.history_laws.proofs.Counting.{when_test, when_value}
use Rattle.history_laws.proofs.Plainly.{upper, some_is, none_is, true_is, false_is, and_left, and_right}
use Rattle.history_laws.proofs.Tailed.{tail_all, tail_trans, tails_meet, later_tail, turn_tail, before_turn}
use Rattle.call_laws.proofs.Above.{next_above}
use Rattle.call_laws.proofs.Making.{MadeAs, are_made}
use Rattle.call_laws.proofs.Placing.{from_beat}
use Rattle.call_laws.proofs.Starting.{actor_is}
use Rattle.takeover_laws.proofs.Asking.{leads_set, leads_on}
use Rattle.takeover_laws.proofs.Fresh.{turn_counted, turn_leads, past_ends, over_stays, still_up}
use Rattle.takeover_laws.proofs.Standing.{controllers_first}
use Rattle.calm_laws.proofs.Begun.{by_is}
use Rattle.calm_laws.proofs.Restarts.{turn_adds}
use Rattle.calm_laws.proofs.Added.{AddedAs, added}
use Rattle.settle_laws.proofs.Pausing.{can_most}
use Rattle.settle_laws.proofs.Successes.{follow_succeeds}

-- each success of a controller comes by a beat
abbrev pub SucceedsBy : Doc → ℕ → Identity → ℕ → Type 0
SucceedsBy doc n q last =
    (x : Entry) (T : List Entry) (w : Call) (reply : Reply) → IsTail (x ∷ T) (history doc (suc n)) → x.step ≡ 3 → x.actor ≡ actor_of q → x.fact ≡ Delivers w reply true → succeeds w.request reply ≡ true → x.beat ≤ last

-- last is the beat by which they come, and by beat settled the clock has gone a retry period and a renew deadline since
module _ (doc : Doc) (rules : ReleasesByStop doc) (a e n : ℕ) (end : e ≤ end_beat doc) (within : n ≤ e) (q : Identity) (role : is_controller doc q.process ≡ true) (awake : (k : ℕ) → a ≤ k → k ≤ e → is_paused doc q.process k ≡ false)
    (last settled : ℕ) (from : a ≤ last) (early : last < settled) (room : settled ≤ n)
    (reached : local doc q.process last + (retry_period doc q.process + renew_deadline doc q.process) ≤ local doc q.process settled) (success_by : SucceedsBy doc n q last) where
  abbrev bound : ℕ
  bound = local doc q.process last + (retry_period doc q.process + renew_deadline doc q.process)

  -- ---- each deadline is early

  abbrev IsEarly : ℕ → ℕ → Type 0
  IsEarly beat t = (beat ≤ last) × (t ≤ bound)

  set_by : (x : Entry) (T : List Entry) → IsTail (x ∷ T) (history doc (suc n)) → (who : Actor) (d : Fact) → x.actor ≡ who → x.fact ≡ d → MadeAs doc x.beat x.step who d T → AddedAs doc x d T → (led : Bool) (t : ℕ) → deadline_says doc q x.beat who led d ≡ Some t → IsEarly x.beat t
  set_by x T at who (Leads version) actor fact made comes led t is = (by, omega (arith, t_is, local_up doc q.process x.beat last by))
    where
      t_is : local doc q.process x.beat + renew_deadline doc q.process ≡ t
      t_is = when_value (is_by q who) (local doc q.process x.beat + renew_deadline doc q.process) t is

      mine : comes.q ≡ q
      mine = actor_is comes.q q (sym comes.by ∙ actor ∙ by_is q who (when_test (is_by q who) (local doc q.process x.beat + renew_deadline doc q.process) t is))

      by : x.beat ≤ last
      by =
          success_by (entry x.beat 3 comes.q (Delivers comes.call comes.reply true)) comes.before comes.call comes.reply
          (subst (λ g. IsTail g (history doc (suc n))) comes.is (tail_trans T (x ∷ T) (history doc (suc n)) (inr (tail_all T)) at))
          refl (ap actor_of mine) refl (follow_succeeds comes.q _ _ comes.call.kind comes.call.request comes.reply version comes.follows)
  set_by x T at who (Delivers w reply true) actor fact made comes led t is = (by, omega (arith, t_is, can))
    where
      test : (is_by q who && (led && succeeds w.request reply)) ≡ true
      test = when_test (is_by q who && (led && succeeds w.request reply)) (can_at doc q.process (local doc q.process x.beat + retry_period doc q.process) + renew_deadline doc q.process) t is

      t_is : can_at doc q.process (local doc q.process x.beat + retry_period doc q.process) + renew_deadline doc q.process ≡ t
      t_is = when_value (is_by q who && (led && succeeds w.request reply)) (can_at doc q.process (local doc q.process x.beat + retry_period doc q.process) + renew_deadline doc q.process) t is

      by : x.beat ≤ last
      by =
          success_by x T w reply at made.step_is (actor ∙ by_is q who (and_left (is_by q who) (led && succeeds w.request reply) test)) fact
          (and_right led (succeeds w.request reply) (and_right (is_by q who) (led && succeeds w.request reply) test))

      can : can_at doc q.process (local doc q.process x.beat + retry_period doc q.process) ≤ local doc q.process last + retry_period doc q.process
      can =
          can_most doc q.process a e (omega (arith, from, early, room, within)) end (local doc q.process x.beat + retry_period doc q.process)
          (omega (arith, reached, local_up doc q.process x.beat last by, local_up doc q.process settled e (omega (arith, room, within))))
          awake (local doc q.process last + retry_period doc q.process)
          (omega (arith, local_up doc q.process x.beat last by)) (omega (arith, local_up doc q.process a last from))
  set_by x T at who StepsDown actor fact made comes led t is = absurd made
  set_by x T at who (ReleaseBegins at_deadline) actor fact made comes led t is = absurd made
  set_by x T at who ReleaseEnds actor fact made comes led t is = absurd made
  set_by x T at who ReleaseStops actor fact made comes led t is = absurd made
  set_by x T at who d actor fact made comes led t is = absurd (none_is t is)

  says_by : (x : Entry) (T : List Entry) → IsTail (x ∷ T) (history doc (suc n)) → (t : ℕ) → deadline_says doc q x.beat x.actor (leads q T) x.fact ≡ Some t → IsEarly x.beat t
  says_by x T at t is = set_by x T at x.actor x.fact refl refl (are_made doc rules (suc n) x T at) (added doc rules (suc n) x T at) (leads q T) t is

  pub deadline_by : (h : List Entry) → IsTail h (history doc (suc n)) → (t : ℕ) → deadline doc q h ≡ Some t → t ≤ bound
  deadline_by [] at t is = absurd (none_is t is)
  deadline_by (x ∷ T) at t is = by_says (deadline_says doc q x.beat x.actor (leads q T) x.fact) refl (deadline_by T (tail_trans T (x ∷ T) (history doc (suc n)) (inr (tail_all T)) at) t) is
    where
      by_says : (o : Option ℕ) → deadline_says doc q x.beat x.actor (leads q T) x.fact ≡ o → (deadline doc q T ≡ Some t → t ≤ bound) → upper o (deadline doc q T) ≡ Some t → t ≤ bound
      by_says None says below is = below is
      by_says (Some s) says below is = let same : s ≡ t = some_is s t is in let le : s ≤ bound = (says_by x T at s says).1 in omega (arith, same, le)

  -- the deadline that stands after the last success stays
  deadline_same : (h : List Entry) → IsTail (history doc (suc last)) h → IsTail h (history doc (suc n)) → deadline doc q h ≡ deadline doc q (history doc (suc last))
  deadline_same [] low at = ap (deadline doc q) (sym low)
  deadline_same (x ∷ T) (inl is) at = ap (deadline doc q) (sym is)
  deadline_same (x ∷ T) (inr low) at = by_says (deadline_says doc q x.beat x.actor (leads q T) x.fact) refl (deadline_same T low (tail_trans T (x ∷ T) (history doc (suc n)) (inr (tail_all T)) at))
    where
      later : suc last ≤ x.beat
      later = (next_above (λ y. suc last ≤ y.beat) (history doc (suc last)) T (history doc (suc n)) x (from_beat doc (suc last) (suc n) (omega (arith, early, room))) low at).0

      by_says : (o : Option ℕ) → deadline_says doc q x.beat x.actor (leads q T) x.fact ≡ o → deadline doc q T ≡ deadline doc q (history doc (suc last)) → upper o (deadline doc q T) ≡ deadline doc q (history doc (suc last))
      by_says None says below = below
      by_says (Some t) says below = let le : x.beat ≤ last = (says_by x T at t says).0 in absurd (omega (arith, le, later))

  -- ---- it acts no more

  pub none_acts : (k : ℕ) → settled ≤ k → k ≤ n → Acts doc q k → ⊥
  none_acts k low to acting = by_deadline (deadline doc q g) refl before
    where
      g : List Entry
      g = at_turn doc q.process k

      high : IsTail g (history doc (suc n))
      high = tail_trans g (history doc (suc k)) (history doc (suc n)) (turn_tail doc q.process k (omega (arith, controllers_first doc q.process role))) (later_tail doc (suc k) (suc n) (omega (arith, to)))

      before : is_before (local doc q.process k) (deadline doc q g) ≡ true
      before = and_right (is_present (alive q.process g) q.incarnation) (is_before (local doc q.process k) (deadline doc q g)) (term_of doc rules q k g acting.1)

      by_deadline : (o : Option ℕ) → deadline doc q g ≡ o → is_before (local doc q.process k) o ≡ true → ⊥
      by_deadline None is before = false_is before
      by_deadline (Some t) is before = omega (arith, ltb-true (local doc q.process k) t before, deadline_by g high t is, reached, local_up doc q.process settled k low)

  -- ---- who is up after its turn at that beat never led

  turn_high : IsTail (at_turn doc (suc q.process) settled) (history doc (suc n))
  turn_high =
      tail_trans (at_turn doc (suc q.process) settled) (history doc (suc settled)) (history doc (suc n)) (turn_tail doc (suc q.process) settled (omega (arith, controllers_first doc q.process role))) (later_tail doc (suc settled) (suc n) (omega (arith, room)))

  pub no_deadline : (h : List Entry) → IsTail (at_turn doc (suc q.process) settled) h → IsTail h (history doc (suc n)) → alive q.process h ≡ Some q.incarnation → deadline doc q h ≡ None
  no_deadline h low high up = by_deadline (deadline doc q h) refl
    where
      g : List Entry
      g = at_turn doc q.process settled

      first : q.process < processes doc
      first = controllers_first doc q.process role

      last_low : IsTail (history doc (suc last)) g
      last_low = tail_trans (history doc (suc last)) (history doc settled) g (later_tail doc (suc last) settled (omega (arith, early))) (before_turn doc q.process settled)

      g_high : IsTail g (history doc (suc n))
      g_high = tail_trans g (history doc (suc settled)) (history doc (suc n)) (turn_tail doc q.process settled (omega (arith, first))) (later_tail doc (suc settled) (suc n) (omega (arith, room)))

      h_low : IsTail (history doc (suc last)) h
      h_low =
          tail_trans (history doc (suc last)) (at_turn doc (suc q.process) settled) h
          (tail_trans (history doc (suc last)) (history doc settled) (at_turn doc (suc q.process) settled) (later_tail doc (suc last) settled (omega (arith, early))) (before_turn doc (suc q.process) settled)) low

      meets : IsTail g h ⊎ IsTail h g
      meets = tails_meet g h (history doc (suc n)) g_high high

      clash : (t : ℕ) → deadline doc q h ≡ Some t → ⊥
      clash t is = (over_stays doc rules (suc n) q (at_turn doc (suc q.process) settled) h high low (past_ends doc rules settled q g t role up_g set counted late (awake settled (omega (arith, from, early)) (omega (arith, room, within))))).1 up
        where
          set : deadline doc q g ≡ Some t
          set = deadline_same g last_low g_high ∙ sym (deadline_same h h_low high) ∙ is

          counted : q.incarnation ≤ starts q.process g
          counted = turn_counted doc q q.process settled t set

          g_low : IsTail g (at_turn doc (suc q.process) settled)
          g_low = turn_adds doc settled q.process g

          up_g : alive q.process g ≡ Some q.incarnation
          up_g = still_up q g counted (λ over. (over_stays doc rules (suc n) q g h high (tail_trans g (at_turn doc (suc q.process) settled) h g_low low) over).1 up)

          late : nat_lt (local doc q.process settled) t ≡ false
          late = by_test (nat_lt (local doc q.process settled) t) refl
            where
              by_test : (b : Bool) → nat_lt (local doc q.process settled) t ≡ b → nat_lt (local doc q.process settled) t ≡ false
              by_test false is = is
              by_test true is = absurd (omega (arith, ltb-true (local doc q.process settled) t is, deadline_by g g_high t set, reached))

      by_deadline : (o : Option ℕ) → deadline doc q h ≡ o → deadline doc q h ≡ None
      by_deadline None is = is
      by_deadline (Some t) is = absurd (clash t is)

  module _ (h : List Entry) (low : IsTail (at_turn doc (suc q.process) settled) h) (high : IsTail h (history doc (suc n))) (up : alive q.process h ≡ Some q.incarnation) where
    pub never_leads : (g : List Entry) → IsTail g (history doc (suc n)) → leads q g ≡ false
    never_leads g at = by_led (leads q g) refl (tails_meet g h (history doc (suc n)) at high)
      where
        none_set : (f : List Entry) → deadline doc q f ≡ None → leads q f ≡ true → ⊥
        none_set f none led = true_is (sym (leads_set doc q f led) ∙ ap has none)

        h_low : IsTail (history doc (suc last)) h
        h_low =
            tail_trans (history doc (suc last)) (at_turn doc (suc q.process) settled) h
            (tail_trans (history doc (suc last)) (history doc settled) (at_turn doc (suc q.process) settled) (later_tail doc (suc last) settled (omega (arith, early))) (before_turn doc (suc q.process) settled)) low

        by_led : (b : Bool) → leads q g ≡ b → IsTail g h ⊎ IsTail h g → leads q g ≡ false
        by_led false is place = is
        by_led true is (inl below) = absurd (none_set h (no_deadline h low high up) (leads_on q g h below is))
        by_led true is (inr above) =
            absurd (none_set g (deadline_same g (tail_trans (history doc (suc last)) h g h_low above) at ∙ sym (deadline_same h h_low high) ∙ no_deadline h low high up) is)

    pub never_acts : (k : ℕ) → a ≤ k → k ≤ n → Acts doc q k → ⊥
    never_acts k low_k to acting = by_deadline (deadline doc q g) refl before
      where
        g : List Entry
        g = at_turn doc q.process k

        g_high : IsTail g (history doc (suc n))
        g_high = tail_trans g (history doc (suc k)) (history doc (suc n)) (turn_tail doc q.process k (omega (arith, controllers_first doc q.process role))) (later_tail doc (suc k) (suc n) (omega (arith, to)))

        before : is_before (local doc q.process k) (deadline doc q g) ≡ true
        before = and_right (is_present (alive q.process g) q.incarnation) (is_before (local doc q.process k) (deadline doc q g)) (term_of doc rules q k g acting.1)

        by_deadline : (o : Option ℕ) → deadline doc q g ≡ o → is_before (local doc q.process k) o ≡ true → ⊥
        by_deadline None is before = false_is before
        by_deadline (Some t) is before = true_is (sym (turn_leads doc q q.process k (ap has is)) ∙ never_leads g g_high)
