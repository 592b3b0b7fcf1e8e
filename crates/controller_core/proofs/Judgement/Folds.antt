-- A fold over the names that pass a test is one over all of them, where the others leave what is folded.
use Rattle.std.proofs.Common.{◌≡◌, ◌∙◌, ◌==◌, ◌||◌, inl, inr, ℕ, Bool, true, false, List, [], ◌∷◌, length, refl, sym, ap, Less, arith}
use Rattle.std.proofs.lemmas.Bool.Decides.{nat_tests}
use Rattle.std.specs.Ordering.{nat_cmp}
use Rattle.history_laws.proofs.Plainly.{false_is, true_is}
use Rattle.kube_objects.specs.Entry.{Entry}
use Rattle.kube_objects.specs.Tick.{for_each}
use Rattle.tick_laws.specs.Walks.{Above, Ascends, Among}
use Rattle.watch_cache.specs.Listed.{is_named}

abbrev pub over : {S : Type 0} → (ℕ → S → S) → List ℕ → S → S
over f [] s = s
over f (n ∷ ns) s = over f ns (f n s)

pub each_over : (f : ℕ → List Entry → List Entry) (names : List ℕ) (h : List Entry) → for_each f names h ≡ over f names h
each_over f [] h = refl
each_over f (n ∷ ns) h = each_over f ns (f n h)

-- a list without a length is empty
pub no_items : {A : Type 0} (xs : List A) → length xs ≡ 0 → xs ≡ []
no_items [] none = refl
no_items (x ∷ xs) none = absurd (omega (arith, none))

pub some_items : (n m : ℕ) → n ≡ m → (n == 0) ≡ false → m ≡ 0 → ⊥
some_items n m same some none = true_is (sym is ∙ some)
  where
    is : (n == 0) ≡ true
    is = grind (arith, nat_tests, same, none)

-- ---- names in order

pub itself : (n : ℕ) (ns : List ℕ) → is_named (n ∷ ns) n ≡ true
itself n ns = ap (λ t. t || is_named ns n) same
  where
    same : (n == n) ≡ true
    same = grind (arith, nat_tests)

pub above_less : (n m : ℕ) (ns : List ℕ) → Above nat_cmp n ns → is_named ns m ≡ true → nat_cmp n m ≡ Less
above_less n m [] above there = absurd (false_is there)
above_less n m (x ∷ xs) above there = by_test (x == m) refl there (above_less n m xs above.1)
  where
    by_test : (b : Bool) → (x == m) ≡ b → (b || is_named xs m) ≡ true → (is_named xs m ≡ true → nat_cmp n m ≡ Less) → nat_cmp n m ≡ Less
    by_test true same there further = let less : nat_cmp n x ≡ Less = above.0 in grind (arith, nat_tests, same, less)
    by_test false same there further = further there

pub above_apart : (n m : ℕ) (ns : List ℕ) → Above nat_cmp n ns → is_named ns m ≡ true → (n == m) ≡ false
above_apart n m ns above there = let less = above_less n m ns above there in grind (arith, nat_tests, less)

pub not_above : (n : ℕ) (ns : List ℕ) → Above nat_cmp n ns → is_named ns n ≡ false
not_above n ns above = by_test (is_named ns n) refl
  where
    by_test : (b : Bool) → is_named ns n ≡ b → b ≡ false
    by_test false is = refl
    by_test true is = let less : nat_cmp n n ≡ Less = above_less n n ns above is in grind (arith, nat_tests, less)

pub among_named : (n : ℕ) (ns : List ℕ) → Among n ns → is_named ns n ≡ true
among_named n [] there = absurd there
among_named n (m ∷ ms) (inl is) = ap (λ t. t || is_named ms n) (let same : (m == n) ≡ true = grind (arith, nat_tests, is) in same)
among_named n (m ∷ ms) (inr there) = by_test (m == n) (among_named n ms there)
  where
    by_test : (b : Bool) → is_named ms n ≡ true → (b || is_named ms n) ≡ true
    by_test true is = refl
    by_test false is = is

-- ---- names in order, and those of them that pass a test

pub record IsPart (test : ℕ → Bool) (all some : List ℕ) : Type 0 where
  pub ascend : Ascends nat_cmp all
  pub sorted : Ascends nat_cmp some
  pub tested : (n : ℕ) → is_named all n ≡ true → is_named some n ≡ test n
  pub within : (n : ℕ) → is_named some n ≡ true → is_named all n ≡ true

other : (a n : ℕ) (ms : List ℕ) → is_named (a ∷ ms) n ≡ true → (a == n) ≡ false → is_named ms n ≡ true
other a n ms there apart = sym (ap (λ b. b || is_named ms n) apart) ∙ there

pub later : (a n : ℕ) (ms : List ℕ) → is_named ms n ≡ true → is_named (a ∷ ms) n ≡ true
later a n ms there = by_test (a == n)
  where
    by_test : (b : Bool) → (b || is_named ms n) ≡ true
    by_test true = refl
    by_test false = there

-- one that doesn't pass isn't among the part
skipped : (test : ℕ → Bool) (a : ℕ) (ms some : List ℕ) → IsPart test (a ∷ ms) some → test a ≡ false → IsPart test ms some
skipped test a ms some p fails =
    record {
      ascend = p.ascend.1;
      sorted = p.sorted;
      tested = λ n there. p.tested n (later a n ms there);
      within = λ n there. other a n ms (p.within n there) (by_test n there (a == n) refl);
    }
  where
    by_test : (n : ℕ) → is_named some n ≡ true → (b : Bool) → (a == n) ≡ b → b ≡ false
    by_test n there false same = refl
    by_test n there true same =
        let equal : n ≡ a = grind (arith, nat_tests, same) in
        absurd (true_is (sym there ∙ ap (is_named some) equal ∙ p.tested a (itself a ms) ∙ fails))

-- one that passes is the part's first
taken : (test : ℕ → Bool) (a b : ℕ) (ms ks : List ℕ) → IsPart test (a ∷ ms) (b ∷ ks) → test a ≡ true → (b ≡ a) × IsPart test ms ks
taken test a b ms ks p passes = (
  equal,
  record {
    ascend = p.ascend.1;
    sorted = p.sorted.1;
    tested = λ n there. sym (ap (λ t. t || is_named ks n) (apart_b n there)) ∙ p.tested n (later a n ms there);
    within = λ n there. other a n ms (p.within n (later b n ks there)) (apart_a n there);
  },
)
  where
    first : is_named (b ∷ ks) a ≡ true
    first = p.tested a (itself a ms) ∙ passes

    equal : b ≡ a
    equal = by_first (b == a) refl first
      where
        by_other : is_named ks a ≡ true → (t : Bool) → (a == b) ≡ t → is_named (a ∷ ms) b ≡ true → b ≡ a
        by_other there true same within = grind (arith, nat_tests, same)
        by_other there false same within =
            let below : nat_cmp b a ≡ Less = above_less b a ks p.sorted.0 there in
            let above : nat_cmp a b ≡ Less = above_less a b ms p.ascend.0 (other a b ms within same) in
            grind (arith, nat_tests, below, above)

        by_first : (t : Bool) → (b == a) ≡ t → (t || is_named ks a) ≡ true → b ≡ a
        by_first true same there = grind (arith, nat_tests, same)
        by_first false same there = by_other there (a == b) refl (p.within b (itself b ks))

    apart_b : (n : ℕ) → is_named ms n ≡ true → (b == n) ≡ false
    apart_b n there = ap (λ m. m == n) equal ∙ above_apart a n ms p.ascend.0 there

    apart_a : (n : ℕ) → is_named ks n ≡ true → (a == n) ≡ false
    apart_a n there = sym (ap (λ m. m == n) equal) ∙ above_apart b n ks p.sorted.0 there

module _ {S : Type 0} (f : ℕ → S → S) (test : ℕ → Bool) (P : S → Type 0) (step : (n : ℕ) (s : S) → P s → P (f n s)) (idle : (n : ℕ) (s : S) → P s → test n ≡ false → f n s ≡ s) where
  pub over_part : (all some : List ℕ) (s : S) → P s → IsPart test all some → over f all s ≡ over f some s
  over_part [] [] s holds p = refl
  over_part [] (b ∷ ks) s holds p = absurd (false_is (p.within b (itself b ks)))
  over_part (a ∷ ms) some s holds p = by_test (test a) refl some p (λ z kept ns part. over_part ms ns z kept part)
    where
      by_test : (t : Bool) → test a ≡ t → (some : List ℕ) → IsPart test (a ∷ ms) some → ((z : S) → P z → (ns : List ℕ) → IsPart test ms ns → over f ms z ≡ over f ns z)
          → over f ms (f a s) ≡ over f some s
      by_test false is some p rest = ap (over f ms) (idle a s holds is) ∙ rest s holds some (skipped test a ms some p is)
      by_test true is [] p rest = absurd (true_is (sym is ∙ sym (p.tested a (itself a ms))))
      by_test true is (b ∷ ks) p rest =
          let one = taken test a b ms ks p is in
          rest (f a s) (step a s holds) ks one.1 ∙ ap (λ n. over f ks (f n s)) (sym one.0)
