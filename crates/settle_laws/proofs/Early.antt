-- Where a steady controller has no success by a call of the span, its last one comes early, and its terms are over by a beat.
use Rattle.std.proofs.Common.{◌≡◌, ◌⊎◌, ◌<◌, ◌≤◌, ℕ, zero, suc, ◌+◌, ◌-◌, ◌*◌, ◌==◌, Bool, true, false, List, ◌∷◌, Some, None, refl, sym, ap, ◌∙◌, subst, inl, inr, ⊎_elim, arith}
use Rattle.std.proofs.lemmas.Bool.{eqb-true, cases_lt}
use Rattle.kube_base.specs.declared.numbers.Version.{Version}
use Rattle.kube_objects.specs.declared.call.Reply.{Reply}
use Rattle.kube_objects.specs.declared.call.Reply.TheVariants.{Done}
use Rattle.kube_objects.specs.Clocks.{local}
use Rattle.kube_objects.specs.Document.{Doc, end_beat, is_controller, retry_period, renew_deadline}
use Rattle.kube_objects.specs.Elector.{succeeds, deadline}
use Rattle.kube_objects.specs.Entry.{Entry, Identity, Call, Ends, Delivers, actor_of, entry}
use Rattle.kube_objects.specs.Identities.{of_process}
use Rattle.kube_objects.specs.Newest.{when, has}
use Rattle.kube_objects.specs.Own.{ReleasesByStop}
use Rattle.kube_objects.specs.Process.{alive}
use Rattle.history.specs.History.{history, at_turn}
use Rattle.history.specs.Safe.{Acts}
use Rattle.history.specs.Sound.{IsSound}
use Rattle.history_laws.specs.Tails.{IsTail}
use Rattle.history_laws.proofs.Order.{entries_are_earlier}
use Rattle.history_laws.proofs.Plainly.{none_is, true_is}
use Rattle.history_laws.proofs.Tailed.{tail_all, tail_trans, later_tail, turn_tail}
use Rattle.span_laws.proofs.Spans.{readings_grow}
use Rattle.call_laws.proofs.Above.{in_head, place_of}
use Rattle.call_laws.proofs.Making.{MadeAs, MadeEnd, are_made}
use Rattle.call_laws.proofs.Placing.{in_own_beat, not_before}
use Rattle.takeover_laws.specs.Acting.{AreInTime}
use Rattle.takeover_laws.specs.Calm.{AllBeats, IsSteady, IsCalm}
use Rattle.takeover_laws.proofs.Standing.{controllers_first}
use Rattle.calm_laws.proofs.First.{entry_is}
use Rattle.calm_laws.proofs.Origins.{Origin}
use Rattle.stay_laws.specs.Stays.{HasSuccess, RenewsInTime}
use Rattle.stay_laws.proofs.Given.{IsGiven}
use Rattle.stay_laws.proofs.Staying.{given_stays}
use Rattle.settle_laws.specs.Settles.{EndsBy}
use Rattle.settle_laws.proofs.Successes as early
use Rattle.settle_laws.proofs.Successes.{done_of}
use Rattle.settle_laws.proofs.Terms.{SucceedsBy, none_acts, no_deadline}

module _ (doc : Doc) (near far a e n : ℕ) (sound : IsSound doc) (rules : ReleasesByStop doc) (calm : IsCalm doc near far a e) (time : AreInTime doc near far a e) (one : 1 ≤ near) (ways : near ≤ far) (end : e ≤ end_beat doc) (within : n ≤ e)
    (old : ℕ) (room : a + old ≤ n) (p : ℕ) (role : is_controller doc p ≡ true) (steady : IsSteady doc near far a e p) (lasts : 1 ≤ renew_deadline doc p) (ends : EndsBy doc far a e old p) where
  some_far : 1 ≤ far
  some_far = omega (arith, one, ways)

  -- two ways less a beat after the calm began
  abbrev pub last : ℕ
  last = a + (2 * far - 1)

  some_beats : 1 ≤ ends.beats
  some_beats = by_beats ends.beats ends.beats_is
    where
      by_beats : (k : ℕ) → retry_period doc p + renew_deadline doc p ≤ k * ends.slow → 1 ≤ k
      by_beats zero le = absurd (omega (arith, le, lasts))
      by_beats (suc k) le = omega arith

  pub soon : last < a + old
  soon = omega (arith, some_beats, ends.in_old)

  -- the clock has gone a retry period and a renew deadline by so many beats later
  grows : (j k : ℕ) → a ≤ j → j + ends.beats ≤ k → k ≤ e → local doc p j + (retry_period doc p + renew_deadline doc p) ≤ local doc p k
  grows = readings_grow doc p a e ends.slow (retry_period doc p + renew_deadline doc p) ends.beats ends.runs ends.beats_is

  pub reached : local doc p last + (retry_period doc p + renew_deadline doc p) ≤ local doc p (a + old)
  reached = grows last (a + old) (omega arith) (omega (arith, ends.in_old)) (omega (arith, room, within))

  module _ (q : Identity) (mine : q.process ≡ p) (renews : RenewsInTime doc near far a e q) (none : (j : ℕ) → j ≤ n → HasSuccess doc q a j → ⊥) where
    q_role : is_controller doc q.process ≡ true
    q_role = ap (is_controller doc) mine ∙ role

    q_steady : IsSteady doc near far a e q.process
    q_steady = subst (IsSteady doc near far a e) (sym mine) steady

    beat_by : (x : Entry) (T : List Entry) → IsTail (x ∷ T) (history doc (suc n)) → x.beat ≤ n
    beat_by x T at = ⊎_elim (λ lt. omega (arith, lt)) (λ first. omega (arith, first.0)) (entries_are_earlier doc (suc n) x (in_head x T (history doc (suc n)) at))

    -- ---- each success was early

    module _ (x : Entry) (T : List Entry) (w : Call) (reply : Reply) (at : IsTail (x ∷ T) (history doc (suc n))) (step : x.step ≡ 3) (actor : x.actor ≡ actor_of q) (fact : x.fact ≡ Delivers w reply true) (so : succeeds w.request reply ≡ true) where
      done : (version : Version) × (reply ≡ Done version)
      done = done_of w.request reply so

      whole : x ≡ entry x.beat 3 q (Delivers w (Done done.0) true)
      whole = entry_is x 3 q (Delivers w (Done done.0) true) step actor (fact ∙ ap (λ r. Delivers w r true) done.1)

      here : IsTail (entry x.beat 3 q (Delivers w (Done done.0) true) ∷ T) (history doc (suc x.beat))
      here = subst (λ z. IsTail (z ∷ T) (history doc (suc x.beat))) whole (in_own_beat doc (suc n) x T at)

      so_done : succeeds w.request (Done done.0) ≡ true
      so_done = ap (succeeds w.request) (sym done.1) ∙ so

      by_sent : (w.sent < a) ⊎ (a ≤ w.sent) → w.sent < a
      by_sent (inl lt) = lt
      by_sent (inr le) = absurd (none x.beat (beat_by x T at) (record { call = w; version = done.0; before = T; position = here; since = le; success = so_done }))

      sent_before : w.sent < a
      sent_before = by_sent (cases_lt w.sent a)

      span : a + 2 * far ≤ e
      span = omega (arith, soon, room, within)

      fact_done : x.fact ≡ Delivers w (Done done.0) true
      fact_done = fact ∙ ap (λ r. Delivers w r true) done.1

      pub by_last : x.beat ≤ last
      by_last = omega (arith, some_far, early.comes_early doc near far a e n sound rules calm some_far (omega (arith, within, end)) span q q_role q_steady x T w reply at actor fact sent_before)

      -- one at the last of these beats
      abbrev o : Origin doc q w (Done done.0) T x.beat
      o = early.o doc near far a e n sound rules calm some_far (omega (arith, within, end)) span q q_role q_steady x T w (Done done.0) at actor fact_done sent_before

      given : x.beat ≡ last → IsGiven doc near far a q x.beat
      given is = record {
        call = w;
        version = done.0;
        before = T;
        position = here;
        success = so_done;
        o = o;
        from = in_span;
        sent = omega (arith, asked, sent_before, in_span);
        least = after.0;
        most = after.1;
      }
        where
          asked : w.sent ≡ o.begun.f.beat
          asked = early.sent doc near far a e n sound rules calm some_far (omega (arith, within, end)) span q q_role q_steady x T w (Done done.0) at actor fact_done sent_before

          in_span : a ≤ o.e.beat
          in_span = early.answered_in doc near far a e n sound rules calm some_far (omega (arith, within, end)) span q q_role q_steady x T w (Done done.0) at actor fact_done sent_before (omega (arith, is, some_far))

          after : (o.e.beat + near ≤ x.beat) × (x.beat ≤ o.e.beat + far)
          after = early.comes_after doc near far a e n sound rules calm some_far (omega (arith, within, end)) span q q_role q_steady x T w (Done done.0) at actor fact_done sent_before in_span

    pub success_by : SucceedsBy doc n q last
    success_by = by_last

    -- it acts no more from the later beat on
    idle : (k : ℕ) → a + old ≤ k → k ≤ n → Acts doc q k → ⊥
    idle =
        none_acts doc rules a e n end within q q_role (λ k low high. (q_steady.passes k low high).awake) last (a + old) (omega arith) soon room
        (subst (λ p. local doc p last + (retry_period doc p + renew_deadline doc p) ≤ local doc p (a + old)) (sym mine) reached) success_by

    -- so there is none at that last beat
    success_before : SucceedsBy doc n q (a + (2 * far - 2))
    success_before x T w reply at step actor fact so = ⊎_elim (λ lt. omega (arith, lt)) (λ le. absurd (at_last (omega (arith, le, by_last x T w reply at step actor fact so)))) (cases_lt x.beat last)
      where
        at_last : x.beat ≡ last → ⊥
        at_last is =
            idle (a + old) (omega arith) room
            ((given_stays doc near far a e sound rules calm time one end q q_role q_steady renews x.beat (omega (arith, is, soon, room, within)) (given x T w reply at step actor fact so is)).acts (a + old) (omega (arith, is, soon)) (omega (arith, room, within)))

    -- who is up after the beat before has no term
    no_term : (h : List Entry) → IsTail (at_turn doc (suc q.process) (a + old - 1)) h → IsTail h (history doc (suc n)) → alive q.process h ≡ Some q.incarnation → deadline doc q h ≡ None
    no_term =
        no_deadline doc rules a e n end within q q_role (λ k low high. (q_steady.passes k low high).awake) (a + (2 * far - 2)) (a + old - 1) (omega arith) (omega (arith, soon, some_far)) (omega (arith, room))
        (subst (λ p. local doc p (a + (2 * far - 2)) + (retry_period doc p + renew_deadline doc p) ≤ local doc p (a + old - 1)) (sym mine)
        (grows (a + (2 * far - 2)) (a + old - 1) (omega arith) (omega (arith, ends.in_old, some_far)) (omega (arith, room, within)))) success_before

    -- so none ends at that beat
    pub no_end : (x : Entry) (T : List Entry) → IsTail (x ∷ T) (history doc (suc n)) → x.beat ≡ a + old → 1 ≤ x.step → alive q.process T ≡ Some q.incarnation → (t : ℕ) → deadline doc q T ≡ Some t → ⊥
    no_end x T at is step up t set = none_is t (sym (no_term T low (tail_trans T (x ∷ T) (history doc (suc n)) (inr (tail_all T)) at) up) ∙ set)
      where
        low : IsTail (at_turn doc (suc q.process) (a + old - 1)) T
        low =
            tail_trans (at_turn doc (suc q.process) (a + old - 1)) (history doc (suc (a + old - 1))) T (turn_tail doc (suc q.process) (a + old - 1) (omega (arith, controllers_first doc q.process q_role)))
            (not_before doc (suc (a + old - 1)) (suc n) x T (omega (arith, room, soon)) at (omega (arith, is, soon)) step)

  -- ---- no term of the controller ends at that beat

  module _ (renewed : (q : Identity) → q.process ≡ p → RenewsInTime doc near far a e q) (none : (q : Identity) → q.process ≡ p → (j : ℕ) → j ≤ n → HasSuccess doc q a j → ⊥) where
    pub none_ends : AllBeats doc e p Ends (λ k. k ≡ a + old → ⊥)
    none_ends x stands fact by is = by_made (subst (λ d. MadeAs doc x.beat x.step x.actor d T) fact (are_made doc rules (suc e) x T at_e))
      where
        T : List Entry
        T = (place_of x (history doc (suc e)) stands).before

        at_e : IsTail (x ∷ T) (history doc (suc e))
        at_e = (place_of x (history doc (suc e)) stands).position

        at_n : IsTail (x ∷ T) (history doc (suc n))
        at_n = tail_trans (x ∷ T) (history doc (suc x.beat)) (history doc (suc n)) (in_own_beat doc (suc e) x T at_e) (later_tail doc (suc x.beat) (suc n) (omega (arith, is, room)))

        by_made : MadeEnd doc x.beat x.step x.actor T → ⊥
        by_made made = no_end made.q mine (renewed made.q mine) (none made.q mine) x T at_n is (omega (arith, made.step_is)) made.up made.at made.deadline_is
          where
            mine : made.q.process ≡ p
            mine = by_test (made.q.process == p) refl
              where
                by_test : (b : Bool) → (made.q.process == p) ≡ b → made.q.process ≡ p
                by_test true is = eqb-true made.q.process p is
                by_test false is = absurd (true_is (sym by ∙ ap (λ who. has (of_process p who)) made.by ∙ ap (λ b. has (when b made.q.incarnation)) is))
