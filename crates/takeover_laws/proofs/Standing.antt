-- While it doesn't act, a controller whose messages pass is taken down by nothing.
use Rattle.std.proofs.Common.{◌≡◌, ◌⊎◌, ◌<◌, ◌≤◌, ℕ, zero, suc, ◌+◌, ◌==◌, nat_lt, Bool, true, false, List, [], ◌∷◌, length, length-append, Option, Some, None, refl, sym, ap, ◌∙◌, subst, inl, inr, ⊎_elim, arith}
use Rattle.std.proofs.lemmas.Bool.{ltb-true, ltb-false, eqb-true, cases_eq}
use Rattle.kube_objects.specs.Clocks.{local}
use Rattle.kube_objects.specs.Document.{Doc, processes, is_controller, renew_deadline}
use Rattle.kube_objects.specs.Elector.{deadline}
use Rattle.kube_objects.specs.Entry.{Entry, Identity, Fact, Starts, Stops, Ends, Crashes, StepsDown, ReleaseBegins, ReleaseEnds, ReleaseStops}
use Rattle.kube_objects.specs.Identities.{identity, of_process}
use Rattle.kube_objects.specs.Newest.{when, join, has}
use Rattle.kube_objects.specs.Pauses.{is_paused}
use Rattle.kube_objects.specs.Process.{born, gone, life_says, life, alive, starts}
use Rattle.kube_objects.specs.Own.{ReleasesByStop}
use Rattle.history.specs.History.{three_steps, history, at_turn}
use Rattle.history.specs.Safe.{Acts}
use Rattle.history_laws.specs.Tails.{In, IsTail}
use Rattle.history_laws.proofs.Lives.{Over}
use Rattle.history_laws.proofs.Order.{entries_are_earlier}
use Rattle.history_laws.proofs.Plainly.{upper, some_is, none_is, identity_eq}
use Rattle.history_laws.proofs.Tailed.{tail_all, tail_trans, in_tail, turn_tail, later_tail}
use Rattle.lease_laws.proofs.Turns.{deadline_turns}
use Rattle.call_laws.specs.Answering.{with_events}
use Rattle.call_laws.proofs.Above.{Above, above_trans, above_more, next_above, in_head}
use Rattle.call_laws.proofs.Making.{MadeAs, MadeEnd, are_made}
use Rattle.call_laws.proofs.Placing.{IsLate, after_events, from_beat, not_before}
use Rattle.call_laws.proofs.Starting.{starts_are_down}
use Rattle.takeover_laws.specs.Calm.{IsSteady}
use Rattle.takeover_laws.proofs.Fresh.{same_or_fresh, set_counted, turn_counted, past_ends, over_stays, still_up, acts_before}

pub controllers_first : (doc : Doc) (p : ℕ) → is_controller doc p ≡ true → p < processes doc
controllers_first doc p role = let e : processes doc ≡ length doc.controllers + length doc.kubelets = length-append doc.controllers doc.kubelets in omega (arith, ltb-true p (length doc.controllers) role, e)

-- an entry after the events of beat a
abbrev pub IsSince : ℕ → Entry → Type 0
IsSince a x = (a < x.beat) ⊎ ((x.beat ≡ a) × (2 ≤ x.step))

pub since_events : (doc : Doc) (a n : ℕ) → a ≤ n → Above (IsSince a) (with_events doc a) (history doc (suc n))
since_events doc a n le =
    above_trans (IsSince a) (with_events doc a) (history doc (suc a)) (history doc (suc n))
    (above_more (IsLate a 2) (IsSince a) (λ e s. inr s) (with_events doc a) (history doc (suc a)) (after_events doc a))
    (above_more (λ e. suc a ≤ e.beat) (IsSince a) (λ e s. inl s) (history doc (suc a)) (history doc (suc n)) (from_beat doc (suc a) (suc n) (omega (arith, le))))

-- who is up stays up, where the entry is no crash, stop or end of its own
pub lives_on : (doc : Doc) → ReleasesByStop doc → (m : ℕ) (q : Identity) (x : Entry) (T : List Entry) → IsTail (x ∷ T) (history doc m)
    → (x.fact ≡ Crashes → x.step ≡ 1 → has (of_process q.process x.actor) ≡ true → ⊥) → (x.fact ≡ Stops → has (of_process q.process x.actor) ≡ true → ⊥)
    → (x.fact ≡ Ends → (made : MadeEnd doc x.beat x.step x.actor T) → has (of_process q.process x.actor) ≡ true → made.q ≡ q → ⊥)
    → alive q.process T ≡ Some q.incarnation → alive q.process (x ∷ T) ≡ Some q.incarnation
lives_on doc rules m q x T stands no_crash no_stop no_end up = cases x.fact refl (are_made doc rules m x T stands)
  where
    after : Fact → Option ℕ
    after d = join (upper (life_says q.process x.actor d) (life q.process T))

    gone_none : (o : Option ℕ) → of_process q.process x.actor ≡ o → (has (of_process q.process x.actor) ≡ true → ⊥) → join (upper (gone o) (life q.process T)) ≡ Some q.incarnation
    gone_none None is not_own = up
    gone_none (Some j) is not_own = absurd (not_own (ap has is))

    cases : (d : Fact) → x.fact ≡ d → MadeAs doc x.beat x.step x.actor d T → after d ≡ Some q.incarnation
    cases Starts fact made = by_test (made.0 == q.process) refl
      where
        by_test : (b : Bool) → (made.0 == q.process) ≡ b → after Starts ≡ Some q.incarnation
        by_test false other = ap (λ o. join (upper (born o) (life q.process T))) (ap (of_process q.process) made.1 ∙ ap (λ b. when b (starts made.0 T + 1)) other) ∙ up
        by_test true is =
            let p : made.0 ≡ q.process = eqb-true made.0 q.process is in
            absurd (none_is q.incarnation (sym (starts_are_down doc rules m x T stands fact (identity made.0 (starts made.0 T + 1)) made.1) ∙ ap (λ p. alive p T) p ∙ up))
    cases Crashes fact made = gone_none (of_process q.process x.actor) refl (no_crash fact made)
    cases Stops fact made = gone_none (of_process q.process x.actor) refl (no_stop fact)
    cases Ends fact made = by_test (made.q.process == q.process) refl
      where
        by_test : (b : Bool) → (made.q.process == q.process) ≡ b → after Ends ≡ Some q.incarnation
        by_test false other = ap (λ o. join (upper (gone o) (life q.process T))) (ap (of_process q.process) made.by ∙ ap (λ b. when b made.q.incarnation) other) ∙ up
        by_test true is =
            let p : made.q.process ≡ q.process = eqb-true made.q.process q.process is in
            absurd (no_end fact made (ap (λ who. has (of_process q.process who)) made.by ∙ ap (λ b. has (when b made.q.incarnation)) is)
            (identity_eq made.q q p (some_is made.q.incarnation q.incarnation (sym made.up ∙ ap (λ p. alive p T) p ∙ up))))
    cases StepsDown fact made = absurd made
    cases (ReleaseBegins at_deadline) fact made = absurd made
    cases ReleaseEnds fact made = absurd made
    cases ReleaseStops fact made = absurd made
    cases d fact made = up

module _ (doc : Doc) (rules : ReleasesByStop doc) (near far a e n : ℕ) (q : Identity) (role : is_controller doc q.process ≡ true) (lasts : 1 ≤ renew_deadline doc q.process)
    (steady : IsSteady doc near far a e q.process) (within : n ≤ e) (none : (k : ℕ) → a ≤ k → k ≤ n → Acts doc q k → ⊥) where
  -- who is up after a beat and didn't act in it has no term
  pub unled : (k : ℕ) → a ≤ k → k ≤ n → alive q.process (history doc (suc k)) ≡ Some q.incarnation → deadline doc q (history doc (suc k)) ≡ None
  unled k from to up = by_deadline (deadline doc q (history doc (suc k))) refl
    where
      g : List Entry
      g = at_turn doc q.process k

      below : q.process < processes doc
      below = controllers_first doc q.process role

      awake : is_paused doc q.process k ≡ false
      awake = (steady.passes k from (omega (arith, to, within))).awake

      not_over : (p : ℕ) → p ≤ processes doc → Over q (at_turn doc p k) → ⊥
      not_over p le over = (over_stays doc rules (suc k) q (at_turn doc p k) (history doc (suc k)) (tail_all (history doc (suc k))) (turn_tail doc p k le) over).1 up

      clash : (at : ℕ) → deadline doc q g ≡ Some at → ⊥
      clash at set = by_time (nat_lt (local doc q.process k) at) refl
        where
          counted : q.incarnation ≤ starts q.process g
          counted = turn_counted doc q q.process k at set

          there : alive q.process g ≡ Some q.incarnation
          there = still_up q g counted (not_over q.process (omega (arith, below)))

          by_time : (b : Bool) → nat_lt (local doc q.process k) at ≡ b → ⊥
          by_time true before =
              none k from to (role, acts_before doc rules q k at g awake there set before)
          by_time false late = not_over (suc q.process) (omega (arith, below)) (past_ends doc rules k q g at role there set counted late awake)

      by_deadline : (o : Option ℕ) → deadline doc q (history doc (suc k)) ≡ o → deadline doc q (history doc (suc k)) ≡ None
      by_deadline None is = is
      by_deadline (Some at) is =
          let three = three_steps doc k (history doc k) in
          absurd (clash at (deadline_turns doc q k q.process three ∙ sym (deadline_turns doc q k (processes doc) three) ∙ is))

  placed : (x : Entry) (T : List Entry) → IsTail (x ∷ T) (history doc (suc n)) → In x (history doc (suc e))
  placed x T at = in_tail x (history doc (suc n)) (history doc (suc e)) (later_tail doc (suc n) (suc e) (omega (arith, within))) (in_head x T (history doc (suc n)) at)

  -- its term doesn't end
  no_ends : (x : Entry) (T : List Entry) → IsTail (x ∷ T) (history doc (suc n)) → a ≤ x.beat → x.fact ≡ Ends → has (of_process q.process x.actor) ≡ true
      → x.step ≡ 4 → (at : ℕ) → alive q.process T ≡ Some q.incarnation → deadline doc q T ≡ Some at → nat_lt (local doc q.process x.beat) at ≡ false → ⊥
  no_ends x T stands from fact mine step at up set late = ⊎_elim (λ is. steady.ends x (placed x T stands) fact mine is) later (cases_eq x.beat a)
    where
      to : x.beat < suc n
      to = ⊎_elim (λ lt. lt) (λ first. absurd (omega (arith, first.1, step))) (entries_are_earlier doc (suc n) x (in_head x T (history doc (suc n)) stands))

      low : Above (λ y. x.beat ≤ y.beat) (history doc x.beat) T
      low =
          (next_above (λ y. x.beat ≤ y.beat) (history doc x.beat) T (history doc (suc n)) x (from_beat doc x.beat (suc n) (omega (arith, to)))
          (not_before doc x.beat (suc n) x T (omega (arith, to)) stands (omega arith) (omega (arith, step))) stands).1

      before : (k : ℕ) → a ≤ k → k ≤ n → suc k ≡ x.beat → deadline doc q (history doc x.beat) ≡ Some at → ⊥
      before k from to is was =
          unset (still_up q (history doc x.beat) (set_counted doc q x.beat at was) over)
        where
          over : Over q (history doc x.beat) → ⊥
          over o =
              (over_stays doc rules (suc n) q (history doc x.beat) T (tail_trans T (x ∷ T) (history doc (suc n)) (inr (tail_all T)) stands)
              (not_before doc x.beat (suc n) x T (omega (arith, is, to)) stands (omega arith) (omega (arith, step))) o).1 up

          unset : alive q.process (history doc x.beat) ≡ Some q.incarnation → ⊥
          unset there = none_is at (sym (unled k from to (ap (λ k. alive q.process (history doc k)) is ∙ there)) ∙ ap (λ k. deadline doc q (history doc k)) is ∙ was)

      later : (x.beat ≡ a → ⊥) → ⊥
      later differs = by_beat x.beat refl
        where
          by_beat : (k : ℕ) → k ≡ x.beat → ⊥
          by_beat zero is = differs (omega (arith, is, from))
          by_beat (suc k) is =
              ⊎_elim
              (λ same. before k (⊎_elim (λ eq. absurd (differs eq)) (λ other. omega (arith, is, from, other)) (cases_eq x.beat a)) (omega (arith, is, to)) is (sym same ∙ set))
              (λ fresh. let e = some_is fresh.at at (sym fresh.is ∙ set) in let less = fresh.later in absurd (omega (arith, e, less, ltb-false (local doc q.process x.beat) at late)))
              (same_or_fresh doc q x.beat (history doc x.beat) T lasts low)

  -- ---- it stays up

  stays_up : (x : Entry) (T : List Entry) → IsTail (x ∷ T) (history doc (suc n)) → IsSince a x → alive q.process T ≡ Some q.incarnation → alive q.process (x ∷ T) ≡ Some q.incarnation
  stays_up x T stands since up =
      lives_on doc rules (suc n) q x T stands
      (λ fact first own. let before = steady.crashes x (placed x T stands) fact own in ⊎_elim (λ lt. omega (arith, lt, before)) (λ here. omega (arith, here.1, first)) since)
      (λ fact own. let before = steady.stops x (placed x T stands) fact own in omega (arith, before, from))
      (λ fact made own same. no_ends x T stands from fact own made.step_is made.at up (ap (λ q. deadline doc q T) (sym same) ∙ made.deadline_is) (ap (λ (q : Identity). nat_lt (local doc q.process x.beat) made.at) (sym same) ∙ made.late)) up
    where
      from : a ≤ x.beat
      from = ⊎_elim (λ lt. omega (arith, lt)) (λ here. omega (arith, here.0)) since

  -- from a position after the events of beat a on
  pub persists : a ≤ n → (g h : List Entry) → IsTail (with_events doc a) g → IsTail g h → IsTail h (history doc (suc n)) → alive q.process g ≡ Some q.incarnation → alive q.process h ≡ Some q.incarnation
  persists le g [] low at high up = subst (λ g. alive q.process g ≡ Some q.incarnation) at up
  persists le g (x ∷ T) low (inl is) high up = subst (λ g. alive q.process g ≡ Some q.incarnation) is up
  persists le g (x ∷ T) low (inr at) high up =
      let below = tail_trans (with_events doc a) g T low at in
      let since = (next_above (IsSince a) (with_events doc a) T (history doc (suc n)) x (since_events doc a n le) below high).0 in
      stays_up x T high since (persists le g T low at (tail_trans T (x ∷ T) (history doc (suc n)) (inr (tail_all T)) high) up)
