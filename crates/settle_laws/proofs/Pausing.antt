-- Where a reading is reached in a span without pauses, what is due at it can be done then, or could as the span began.
use Rattle.std.proofs.Common.{◌≡◌, ◌<◌, ◌≤◌, ℕ, zero, suc, ◌+◌, ◌&&◌, not, nat_lt, min, true, false, List, [], ◌∷◌, Option, Some, None, refl, sym, ap, ◌∙◌, ⊎_elim, arith}
use Rattle.std.proofs.lemmas.Bool.{ltb-true, lt-ltb, le-leb, cases_lt}
use Rattle.kube_objects.specs.declared.script.Event.{Event}
use Rattle.kube_objects.specs.Clocks.{local}
use Rattle.kube_objects.specs.Document.{Doc, end_beat}
use Rattle.kube_objects.specs.Newest.{when, has}
use Rattle.kube_objects.specs.Pauses.{pause_of, end_of, last_pause, is_paused, is_ahead, wait_of, last_wait, reading_of, can_at}
use Rattle.kube_objects.proofs.Clocks.{local_up}
use Rattle.history_laws.proofs.Counting.{when_test, when_value}
use Rattle.history_laws.proofs.Plainly.{upper, none_is, true_is, and_left, and_right, not_true}

none_of : {A : Type 0} (o : Option A) → has o ≡ false → o ≡ None
none_of None is = refl
none_of (Some x) is = absurd (true_is is)

none_both : {A : Type 0} (o p : Option A) → upper o p ≡ None → (o ≡ None) × (p ≡ None)
none_both None p is = (refl, is)
none_both (Some x) p is = absurd (none_is x (sym is))

module _ (doc : Doc) (p a e : ℕ) (ordered : a ≤ e) (end : e ≤ end_beat doc) (at : ℕ) (reached : at ≤ local doc p e) where
  -- no beat of the span lies in a pause
  abbrev IsOutside : ℕ → Option ℕ → Type 0
  IsOutside from o = (k : ℕ) → a ≤ k → k ≤ e → end_of k from o ≡ None

  inside : (from beats k : ℕ) → IsOutside from (Some beats) → a ≤ k → k ≤ e → from ≤ k → k < from + beats → ⊥
  inside from beats k outside low high le lt =
      none_is (from + beats) (sym (outside k low high) ∙ ap (λ b. when (b && nat_lt k (from + beats)) (from + beats)) (le-leb from k le) ∙ ap (λ b. when b (from + beats)) (lt-ltb k (from + beats) lt))

  -- a pause that begins after the span begins after the reading was reached
  begins_by : (from : ℕ) → is_ahead doc p at from ≡ true → from ≤ e
  begins_by zero ahead = omega arith
  begins_by (suc k) ahead = ⊎_elim (λ lt. lt) (λ le. absurd (omega (arith, ltb-true (local doc p k) at ahead, reached, local_up doc p e k le))) (cases_lt k e)

  -- a pause without beats
  no_beats : (from k : ℕ) → k ≡ from → (is_ahead doc p at from && not (is_ahead doc p at k)) ≡ true → ⊥
  no_beats from k same test =
      true_is (sym (and_left (is_ahead doc p at from) (not (is_ahead doc p at k)) test) ∙ ap (is_ahead doc p at) (sym same) ∙ not_true (is_ahead doc p at k) (and_right (is_ahead doc p at from) (not (is_ahead doc p at k)) test))

  waited : (from : ℕ) (o : Option ℕ) (k : ℕ) → IsOutside from o → wait_of doc p at from o ≡ Some k → k ≤ a
  waited from None k outside is = absurd (none_is k is)
  waited from (Some beats) k outside is = ⊎_elim over (λ le. omega (arith, le, stop_is)) (cases_lt a (from + beats))
    where
      stop : ℕ
      stop = min (from + beats) (end_beat doc)

      test : (is_ahead doc p at from && not (is_ahead doc p at stop)) ≡ true
      test = when_test (is_ahead doc p at from && not (is_ahead doc p at stop)) stop k is

      stop_is : min (from + beats) (end_beat doc) ≡ k
      stop_is = when_value (is_ahead doc p at from && not (is_ahead doc p at stop)) stop k is

      by : from ≤ e
      by = begins_by from (and_left (is_ahead doc p at from) (not (is_ahead doc p at stop)) test)

      some : (m : ℕ) → beats ≡ m → a < from → k ≤ a
      some zero none later = absurd (no_beats from stop (omega (arith, none, by, end)) test)
      some (suc m) more later = absurd (inside from beats from outside (omega (arith, later)) by (omega arith) (omega (arith, more)))

      over : a < from + beats → k ≤ a
      over lt = ⊎_elim (λ later. some beats refl later) (λ le. absurd (inside from beats a outside (omega arith) ordered le lt)) (cases_lt a from)

  each_waited : (es : List Event) (k : ℕ) → ((j : ℕ) → a ≤ j → j ≤ e → last_pause p j es ≡ None) → last_wait doc p at es ≡ Some k → k ≤ a
  each_waited [] k outside is = absurd (none_is k is)
  each_waited (x ∷ es) k outside is = cases (last_wait doc p at es) (each_waited es k (λ j low high. (parts j low high).0)) is
    where
      parts : (j : ℕ) → a ≤ j → j ≤ e → (last_pause p j es ≡ None) × (end_of j x.beat.0 (pause_of p x.what) ≡ None)
      parts j low high = none_both (last_pause p j es) (end_of j x.beat.0 (pause_of p x.what)) (outside j low high)

      cases : (o : Option ℕ) → (o ≡ Some k → k ≤ a) → upper o (wait_of doc p at x.beat.0 (pause_of p x.what)) ≡ Some k → k ≤ a
      cases None below is = waited x.beat.0 (pause_of p x.what) k (λ j low high. (parts j low high).1) is
      cases (Some j) below is = below is

  -- so a bound on the reading and on that of the span's first beat is one on when it can be done
  pub can_most : ((k : ℕ) → a ≤ k → k ≤ e → is_paused doc p k ≡ false) → (bound : ℕ) → at ≤ bound → local doc p a ≤ bound → can_at doc p at ≤ bound
  can_most awake bound least first = by_wait (last_wait doc p at doc.events) refl
    where
      by_wait : (o : Option ℕ) → last_wait doc p at doc.events ≡ o → reading_of doc p at o ≤ bound
      by_wait None is = least
      by_wait (Some k) is = omega (arith, first, local_up doc p k a (each_waited doc.events k (λ j low high. none_of (last_pause p j doc.events) (awake j low high)) is))
