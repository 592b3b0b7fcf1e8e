-- A stable sort by beats puts crashes in the order of their beats.
use Rattle.std.proofs.Common.{◌≡◌, ℕ, zero, suc, ◌+◌, ◌<◌, ◌≤◌, ◌==◌, Bool, true, false, nat_lt, List, [], ◌∷◌, ◌++◌, length, get_or, filter, All, nat_cmp, is_lt, refl, sym, ap, ap₂, ◌∙◌, arith, inl, inr, suc-le-suc, zero-le}
use Rattle.std.proofs.lemmas.Bool.{cond-true, cond-false, cases_Bool}
use Rattle.std.proofs.lemmas.Bool.Decides.{leb_tells, eqb_tells, nat_tests}
use Rattle.std.specs.List.Sorted.{ties, IsNonDecreasingBy, IsStableByKey}
use Rattle.world_gen.specs.declared.crash.Crash.{Crash}
use Rattle.world_gen.specs.Generated.{by_beat}

abbrev is_before : ℕ → Crash → Bool
is_before n crash = nat_lt crash.beat n

abbrev is_at : ℕ → Crash → Bool
is_at n crash = crash.beat == n

kept : (p : Crash → Bool) (y : Crash) (ys : List Crash) → p y ≡ true → filter p (y ∷ ys) ≡ y ∷ filter p ys
kept p y ys h = cond-true _ _ _ h

dropped : (p : Crash → Bool) (y : Crash) (ys : List Crash) → p y ≡ false → filter p (y ∷ ys) ≡ filter p ys
dropped p y ys h = cond-false _ _ _ h

lt-true : (a b : ℕ) → a < b → nat_lt a b ≡ true
lt-true a b h = grind (arith, nat_tests)

lt-false : (a b : ℕ) → b ≤ a → nat_lt a b ≡ false
lt-false a b h = grind (arith, nat_tests)

-- ---- lists whose beats rise

abbrev AreFrom : ℕ → List Crash → Type 0
AreFrom n [] = Unit {0}
AreFrom n (y ∷ ys) = (n ≤ y.beat) × AreFrom n ys

abbrev Rises : List Crash → Type 0
Rises [] = Unit {0}
Rises (y ∷ ys) = AreFrom y.beat ys × Rises ys

AreFrom-le : (n m : ℕ) (ys : List Crash) → n ≤ m → AreFrom m ys → AreFrom n ys
AreFrom-le n m [] le h = tt
AreFrom-le n m (y ∷ ys) le h = let first = h.0 in (omega arith, AreFrom-le n m ys le h.1)

AreFrom-at : (n : ℕ) (ys : List Crash) → ((j : ℕ) (d : Crash) → j < length ys → n ≤ (get_or ys j d).beat) → AreFrom n ys
AreFrom-at n [] h = tt
AreFrom-at n (y ∷ ys) h = (h zero y (suc-le-suc zero-le), AreFrom-at n ys (λ j d lt. h (suc j) d (suc-le-suc lt)))

AreFrom-zero : (ys : List Crash) → AreFrom 0 ys
AreFrom-zero [] = tt
AreFrom-zero (y ∷ ys) = (zero-le, AreFrom-zero ys)

Rises-from : (ys : List Crash) → IsNonDecreasingBy (λ crash. crash.beat) ys → Rises ys
Rises-from [] h = tt
Rises-from (y ∷ ys) h = (
  AreFrom-at y.beat ys (λ j d lt. h zero (suc j) d zero-le (suc-le-suc lt)),
  Rises-from ys (λ i j d le lt. h (suc i) (suc j) d (suc-le-suc le) (suc-le-suc lt)),
)

none-before : (n : ℕ) (ys : List Crash) → AreFrom n ys → filter (is_before n) ys ≡ []
none-before n [] h = refl
none-before n (y ∷ ys) h = dropped (is_before n) y ys (lt-false y.beat n h.0) ∙ none-before n ys h.1

all-before : (n : ℕ) (ys : List Crash) → ((j : ℕ) (d : Crash) → j < length ys → (get_or ys j d).beat < n) → filter (is_before n) ys ≡ ys
all-before n [] h = refl
all-before n (y ∷ ys) h =
    kept (is_before n) y ys (lt-true y.beat n (h zero y (suc-le-suc zero-le)))
    ∙ ap (λ zs. y ∷ zs) (all-before n ys (λ j d lt. h (suc j) d (suc-le-suc lt)))

-- those before the next beat are those before this one and then those at it
more-before : (n : ℕ) (ys : List Crash) → Rises ys → filter (is_before (suc n)) ys ≡ filter (is_before n) ys ++ filter (is_at n) ys
more-before n [] up = refl
more-before n (y ∷ ys) up =
    let more = more-before n ys up.1 in
    elim (leb_tells y.beat n) [
      | inr above ↦
          dropped (is_before (suc n)) y ys (lt-false y.beat (suc n) (omega (arith, above.1))) ∙ more
          ∙ sym (ap₂ (λ xs zs. xs ++ zs) (dropped (is_before n) y ys (lt-false y.beat n (omega (arith, above.1))))
          (dropped (is_at n) y ys (grind (arith, nat_tests, above.1))))
      | inl below ↦
          elim (eqb_tells y.beat n) [
            | inl same ↦
                let none : filter (is_before n) ys ≡ [] = none-before n ys (AreFrom-le n y.beat ys (omega (arith, same.1)) up.0) in
                kept (is_before (suc n)) y ys (lt-true y.beat (suc n) (omega (arith, below.1)))
                ∙ ap (λ zs. y ∷ zs) (more ∙ ap (λ xs. xs ++ filter (is_at n) ys) none)
                ∙ sym (ap₂ (λ xs zs. xs ++ zs) (dropped (is_before n) y ys (lt-false y.beat n (omega (arith, same.1))) ∙ none)
                (kept (is_at n) y ys same.0))
            | inr other ↦
                kept (is_before (suc n)) y ys (lt-true y.beat (suc n) (omega (arith, below.1)))
                ∙ ap (λ zs. y ∷ zs) more
                ∙ sym (ap₂ (λ xs zs. xs ++ zs) (kept (is_before n) y ys (lt-true y.beat n (grind (arith, below.1, other.1))))
                (dropped (is_at n) y ys other.0))
          ]
    ]

by_beat-is : (n : ℕ) (ys : List Crash) → Rises ys → by_beat n ys ≡ filter (is_before n) ys
unfolding by_beat
by_beat-is zero ys up = sym (none-before 0 ys (AreFrom-zero ys))
by_beat-is (suc n) ys up = ap (λ xs. xs ++ filter (is_at n) ys) (by_beat-is n ys up) ∙ sym (more-before n ys up)

by_beat-same : (n : ℕ) (xs ys : List Crash) → ((k : ℕ) → filter (is_at k) ys ≡ filter (is_at k) xs) → by_beat n ys ≡ by_beat n xs
unfolding by_beat
by_beat-same zero xs ys h = refl
by_beat-same (suc n) xs ys h = ap₂ (λ us vs. us ++ vs) (by_beat-same n xs ys h) (h n)

-- ---- what ties

abbrev tied : ℕ → ℕ → Bool
tied = ties (λ x y. is_lt (nat_cmp x y))

tied-true : (m n : ℕ) → tied m n ≡ true → m ≡ n
tied-true m n h = grind (arith, nat_tests)

tied-from : (m n : ℕ) → m ≡ n → tied m n ≡ true
tied-from m n h = grind (arith, nat_tests)

tied-is : (m n : ℕ) → tied m n ≡ (n == m)
tied-is m n = elim (eqb_tells n m) [
  | inl same ↦ tied-from m n (sym same.1) ∙ sym same.0
  | inr other ↦ elim (cases_Bool (tied m n))
      [ inl ties_too ↦ absurd (other.1 (sym (tied-true m n ties_too))) | inr apart ↦ apart ∙ sym other.0 ]
]

filter-like : (p q : Crash → Bool) → ((x : Crash) → p x ≡ q x) → (ys : List Crash) → filter p ys ≡ filter q ys
filter-like p q h [] = refl
filter-like p q h (y ∷ ys) = elim (cases_Bool (q y)) [
  | inl passes ↦ kept p y ys (h y ∙ passes) ∙ ap (λ zs. y ∷ zs) (filter-like p q h ys) ∙ sym (kept q y ys passes)
  | inr fails ↦ dropped p y ys (h y ∙ fails) ∙ filter-like p q h ys ∙ sym (dropped q y ys fails)
]

abbrev crash_at : ℕ → Crash
crash_at k = record { beat = k; process = 0 }

pub sorted-is : (last : ℕ) (xs ys : List Crash) → IsNonDecreasingBy (λ crash. crash.beat) ys
    → IsStableByKey (λ crash. crash.beat) nat_cmp xs ys
    → All (λ crash. crash.beat ≤ last) ys → ys ≡ by_beat (last + 1) xs
sorted-is last xs ys up stable within =
    sym (all-before (last + 1) ys (λ k d lt. omega (arith, within k d lt))) ∙ sym (by_beat-is (last + 1) ys (Rises-from ys up))
    ∙ by_beat-same (last + 1) xs ys same
  where
    tie : (k : ℕ) (zs : List Crash) → filter (λ y. tied k y.beat) zs ≡ filter (is_at k) zs
    tie k zs = filter-like (λ y. tied k y.beat) (is_at k) (λ y. tied-is k y.beat) zs

    same : (k : ℕ) → filter (is_at k) ys ≡ filter (is_at k) xs
    same k = sym (tie k ys) ∙ stable (crash_at k) ∙ tie k xs
