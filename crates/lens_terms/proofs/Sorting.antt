-- A stable sort by beats puts stretches in the order of their beats.
use Rattle.std.proofs.Common.{◌≡◌, ℕ, zero, suc, ◌<◌, ◌≤◌, ◌==◌, if◌then◌else◌, Bool, true, false, nat_lt, List, [], ◌∷◌, ◌++◌, length, get_or, map, filter, All, nat_cmp, is_lt, Bor, refl, sym, ap, ap₂, ◌∙◌, arith, inl, inr, suc-le-suc, zero-le}
use Rattle.std.proofs.lemmas.Bool.{cond-true, cond-false, cases_Bool}
use Rattle.std.proofs.lemmas.Bool.Decides.{leb_tells, eqb_tells, nat_tests}
use Rattle.std.proofs.lemmas.List.{map-append}
use Rattle.std.specs.List.Sorted.{ties, IsNonDecreasingBy, IsStableByKey}
use Rattle.lens_terms.specs.declared.stretch.Stretch.{Stretch}
use Rattle.lens_terms.specs.Acting.{by_beat, shown}

abbrev pub beat_of : {T : Type 0} → Stretch T → ℕ
beat_of s = s.from

lt-true : (a b : ℕ) → a < b → nat_lt a b ≡ true
lt-true a b h = grind (arith, nat_tests)

lt-false : (a b : ℕ) → b ≤ a → nat_lt a b ≡ false
lt-false a b h = grind (arith, nat_tests)

abbrev tied : ℕ → ℕ → Bool
tied = ties (λ x y. is_lt (nat_cmp x y))

tied-is : (m n : ℕ) → tied m n ≡ (n == m)
tied-is m n = grind (arith, nat_tests)

module _ {T : Type 0} where
  abbrev is_before : ℕ → Stretch T → Bool
  is_before n s = nat_lt s.from n

  abbrev is_at : ℕ → Stretch T → Bool
  is_at n s = s.from == n

  kept : (p : Stretch T → Bool) (y : Stretch T) (ys : List (Stretch T)) → p y ≡ true → filter p (y ∷ ys) ≡ y ∷ filter p ys
  kept p y ys h = cond-true _ _ _ h

  dropped : (p : Stretch T → Bool) (y : Stretch T) (ys : List (Stretch T)) → p y ≡ false → filter p (y ∷ ys) ≡ filter p ys
  dropped p y ys h = cond-false _ _ _ h

  -- ---- lists whose beats rise

  abbrev AreFrom : ℕ → List (Stretch T) → Type 0
  AreFrom n [] = Unit {0}
  AreFrom n (y ∷ ys) = (n ≤ y.from) × AreFrom n ys

  abbrev Rises : List (Stretch T) → Type 0
  Rises [] = Unit {0}
  Rises (y ∷ ys) = AreFrom y.from ys × Rises ys

  AreFrom-le : (n m : ℕ) (ys : List (Stretch T)) → n ≤ m → AreFrom m ys → AreFrom n ys
  AreFrom-le n m [] le h = tt
  AreFrom-le n m (y ∷ ys) le h = let first = h.0 in (omega arith, AreFrom-le n m ys le h.1)

  AreFrom-at : (n : ℕ) (ys : List (Stretch T)) → ((j : ℕ) (d : Stretch T) → j < length ys → n ≤ (get_or ys j d).from) → AreFrom n ys
  AreFrom-at n [] h = tt
  AreFrom-at n (y ∷ ys) h = (h zero y (suc-le-suc zero-le), AreFrom-at n ys (λ j d lt. h (suc j) d (suc-le-suc lt)))

  AreFrom-zero : (ys : List (Stretch T)) → AreFrom 0 ys
  AreFrom-zero [] = tt
  AreFrom-zero (y ∷ ys) = (zero-le, AreFrom-zero ys)

  Rises-from : (ys : List (Stretch T)) → IsNonDecreasingBy beat_of ys → Rises ys
  Rises-from [] h = tt
  Rises-from (y ∷ ys) h = (
    AreFrom-at y.from ys (λ j d lt. h zero (suc j) d zero-le (suc-le-suc lt)),
    Rises-from ys (λ i j d le lt. h (suc i) (suc j) d (suc-le-suc le) (suc-le-suc lt)),
  )

  none-before : (n : ℕ) (ys : List (Stretch T)) → AreFrom n ys → filter (is_before n) ys ≡ []
  none-before n [] h = refl
  none-before n (y ∷ ys) h = dropped (is_before n) y ys (lt-false y.from n h.0) ∙ none-before n ys h.1

  all-before : (n : ℕ) (ys : List (Stretch T)) → ((j : ℕ) (d : Stretch T) → j < length ys → (get_or ys j d).from < n) → filter (is_before n) ys ≡ ys
  all-before n [] h = refl
  all-before n (y ∷ ys) h =
      kept (is_before n) y ys (lt-true y.from n (h zero y (suc-le-suc zero-le)))
      ∙ ap (λ zs. y ∷ zs) (all-before n ys (λ j d lt. h (suc j) d (suc-le-suc lt)))

  -- those before the next beat are those before this one and then those at it
  more-before : (n : ℕ) (ys : List (Stretch T)) → Rises ys → filter (is_before (suc n)) ys ≡ filter (is_before n) ys ++ filter (is_at n) ys
  more-before n [] up = refl
  more-before n (y ∷ ys) up =
      let more = more-before n ys up.1 in
      elim (leb_tells y.from n) [
        | inr above ↦
            dropped (is_before (suc n)) y ys (lt-false y.from (suc n) (omega (arith, above.1))) ∙ more
            ∙ sym (ap₂ (λ xs zs. xs ++ zs) (dropped (is_before n) y ys (lt-false y.from n (omega (arith, above.1))))
            (dropped (is_at n) y ys (grind (arith, nat_tests, above.1))))
        | inl below ↦
            elim (eqb_tells y.from n) [
              | inl same ↦
                  let none : filter (is_before n) ys ≡ [] = none-before n ys (AreFrom-le n y.from ys (omega (arith, same.1)) up.0) in
                  kept (is_before (suc n)) y ys (lt-true y.from (suc n) (omega (arith, below.1)))
                  ∙ ap (λ zs. y ∷ zs) (more ∙ ap (λ xs. xs ++ filter (is_at n) ys) none)
                  ∙ sym (ap₂ (λ xs zs. xs ++ zs) (dropped (is_before n) y ys (lt-false y.from n (omega (arith, same.1))) ∙ none)
                  (kept (is_at n) y ys same.0))
              | inr other ↦
                  kept (is_before (suc n)) y ys (lt-true y.from (suc n) (omega (arith, below.1)))
                  ∙ ap (λ zs. y ∷ zs) more
                  ∙ sym (ap₂ (λ xs zs. xs ++ zs) (kept (is_before n) y ys (lt-true y.from n (grind (arith, below.1, other.1))))
                  (dropped (is_at n) y ys other.0))
            ]
      ]

  by_beat-is : (n : ℕ) (ys : List (Stretch T)) → Rises ys → by_beat n ys ≡ filter (is_before n) ys
  unfolding by_beat
  by_beat-is zero ys up = sym (none-before 0 ys (AreFrom-zero ys))
  by_beat-is (suc n) ys up = ap (λ xs. xs ++ filter (is_at n) ys) (by_beat-is n ys up) ∙ sym (more-before n ys up)

  by_beat-same : (n : ℕ) (xs ys : List (Stretch T)) → ((k : ℕ) → filter (is_at k) ys ≡ filter (is_at k) xs) → by_beat n ys ≡ by_beat n xs
  unfolding by_beat
  by_beat-same zero xs ys h = refl
  by_beat-same (suc n) xs ys h = ap₂ (λ us vs. us ++ vs) (by_beat-same n xs ys h) (h n)

  filter-like : (p q : Stretch T → Bool) → ((x : Stretch T) → p x ≡ q x) → (ys : List (Stretch T)) → filter p ys ≡ filter q ys
  filter-like p q h [] = refl
  filter-like p q h (y ∷ ys) = elim (cases_Bool (q y)) [
    | inl passes ↦ kept p y ys (h y ∙ passes) ∙ ap (λ zs. y ∷ zs) (filter-like p q h ys) ∙ sym (kept q y ys passes)
    | inr fails ↦ dropped p y ys (h y ∙ fails) ∙ filter-like p q h ys ∙ sym (dropped q y ys fails)
  ]

  tie : (k : ℕ) (zs : List (Stretch T)) → filter (λ y. tied k y.from) zs ≡ filter (is_at k) zs
  tie k zs = filter-like (λ y. tied k y.from) (is_at k) (λ y. tied-is k y.from) zs

  sorted-by : (stop : ℕ) (at : ℕ → Stretch T) → ((k : ℕ) → (at k).from ≡ k) → (xs ys : List (Stretch T)) → IsNonDecreasingBy beat_of ys
      → IsStableByKey beat_of nat_cmp xs ys
      → All (λ s. s.from < stop) ys → ys ≡ by_beat stop xs
  sorted-by stop at is xs ys up stable within =
      sym (all-before stop ys (λ k d lt. within k d lt)) ∙ sym (by_beat-is stop ys (Rises-from ys up))
      ∙ by_beat-same stop xs ys same
    where
      at_key : (k : ℕ) (zs : List (Stretch T)) → filter (λ y. tied (at k).from y.from) zs ≡ filter (is_at k) zs
      at_key k zs = ap (λ n. filter (λ y. tied n y.from) zs) (is k) ∙ tie k zs

      same : (k : ℕ) → filter (is_at k) ys ≡ filter (is_at k) xs
      same k = sym (at_key k ys) ∙ stable (at k) ∙ at_key k xs

  none-by-beat : (n : ℕ) → by_beat {T = T} n [] ≡ []
  unfolding by_beat
  none-by-beat zero = refl
  none-by-beat (suc n) = ap (λ us. us ++ []) (none-by-beat n)

  pub sorted-is : (stop : ℕ) (xs ys : List (Stretch T)) → length ys ≡ length xs → IsNonDecreasingBy beat_of ys → IsStableByKey beat_of nat_cmp xs ys
      → All (λ s. s.from < stop) ys → ys ≡ by_beat stop xs
  sorted-is stop [] [] long up stable within = sym (none-by-beat stop)
  sorted-is stop (x ∷ xs) [] long up stable within = absurd (omega (arith, long))
  sorted-is stop xs (y ∷ ys) long up stable within =
      sorted-by stop (λ k. record { line = y.line; actor = y.actor; from = k; until = y.until }) (λ k. refl) xs (y ∷ ys) up stable within

-- ---- with the texts themselves in the place of references to them

map-filter : (n : ℕ) (ys : List (Stretch (Bor (List ℕ)))) → map shown (filter (λ s. s.from == n) ys) ≡ filter (λ s. s.from == n) (map shown ys)
map-filter n [] = refl
map-filter n (y ∷ ys) = by (y.from == n) (map-filter n ys)
  where
    by : (b : Bool) → map shown (filter (λ s. s.from == n) ys) ≡ filter (λ s. s.from == n) (map shown ys)
        → map shown (if b then y ∷ filter (λ s. s.from == n) ys else filter (λ s. s.from == n) ys)
        ≡ (if b then shown y ∷ filter (λ s. s.from == n) (map shown ys) else filter (λ s. s.from == n) (map shown ys))
    by true h = ap (λ zs. shown y ∷ zs) h
    by false h = h

pub by_beat-shown : (n : ℕ) (ys : List (Stretch (Bor (List ℕ)))) → map shown (by_beat n ys) ≡ by_beat n (map shown ys)
unfolding by_beat
by_beat-shown zero ys = refl
by_beat-shown (suc n) ys = map-append shown (by_beat n ys) (filter (λ s. s.from == n) ys) ∙ ap₂ (λ us vs. us ++ vs) (by_beat-shown n ys) (map-filter n ys)
