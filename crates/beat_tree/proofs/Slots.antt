-- What a slot has of those below it, and what a write to one leaves.
use Rattle.std.proofs.Common.{◌≡◌, ◌≢◌, ℕ, zero, suc, ◌+◌, ◌*◌, ◌/◌, ◌<◌, ◌≤◌, List, [], ◌∷◌, ◌++◌, Bool, true, false, cond, nat_lt, Option, Some, None, length, set, slice_index_or, get_or, refl, ap, sym, ◌∙◌, subst, arith, ◌⊎◌, inl, inr}
use Rattle.std.proofs.lemmas.List.{length-set}
use Rattle.std.proofs.lemmas.Bool.{cases_eq, cases_lt}
use Rattle.std.proofs.lemmas.Option.{slice_get-get_or, slice_get_past, slice_get_read}
use Rattle.std.proofs.lemmas.Bool.Decides.{nat_tests}
use Rattle.kube_base.specs.declared.numbers.Beat.{Beat}
use Rattle.kube_base.proofs.Lists.{get-set_other, get-set_same}
use Rattle.beat_tree.specs.Tidy.{IsTidy, IsTidyAt, IsTidyBut, beat_at, comes_before, earlier, joined}

pub at_set : (xs : List (Option Beat)) (i : ℕ) (v : Option Beat) → i < length xs → beat_at (set xs i v) i ≡ v
at_set xs i v h = ap joined (get-set_same xs i v h)

pub at_other : (xs : List (Option Beat)) (i k : ℕ) (v : Option Beat) → k ≢ i → beat_at (set xs i v) k ≡ beat_at xs k
at_other xs i k v h = ap joined (get-set_other xs i k v h)

-- a slot that is read
pub read_is : (xs : List (Option Beat)) (n i : ℕ) (v : Option Beat) → length xs ≡ n → i < n → v ≡ slice_index_or xs i v → beat_at xs i ≡ v
read_is xs n i v long within is = ap joined (slice_get_read xs n i v (sym long) within is)

-- the same, of a slice
pub slot_is : (xs : List (Option Beat)) (i : ℕ) → i < length xs → get_or xs i None ≡ beat_at xs i
slot_is xs i within = sym (ap joined (slice_get-get_or xs i None within))

-- the earlier of the two below the slot above another, as they were read
pub found_is : (xs : List (Option Beat)) (slot half : ℕ) (v : Option Beat) → slot < length xs → length xs ≡ 2 * half
    → v ≡ earlier (get_or xs (2 * (slot / 2)) None) (get_or xs (2 * (slot / 2) + 1) None) → v ≡ earlier (beat_at xs (2 * (slot / 2))) (beat_at xs (2 * (slot / 2) + 1))
found_is xs slot half v within even is =
    let right : 2 * (slot / 2) + 1 < length xs = omega (arith, within, even) in
    is ∙ ap (λ x. earlier x (get_or xs (2 * (slot / 2) + 1) None)) (slot_is xs (2 * (slot / 2)) (omega (arith, right))) ∙ ap (earlier (beat_at xs (2 * (slot / 2)))) (slot_is xs (2 * (slot / 2) + 1) right)

pub past_is : (xs : List (Option Beat)) (i : ℕ) → length xs ≤ i → beat_at xs i ≡ None
past_is xs i past = ap joined (slice_get_past xs i past)

-- ---- a write

still : (xs : List (Option Beat)) (at i : ℕ) (v : Option Beat) → i ≢ at → 2 * i ≢ at → 2 * i + 1 ≢ at → IsTidyAt xs i → IsTidyAt (set xs at v) i
still xs at i v own left right tidy =
    at_other xs at i v own ∙ tidy ∙ sym (ap (λ x. earlier x (beat_at (set xs at v) (2 * i + 1))) (at_other xs at (2 * i) v left) ∙ ap (earlier (beat_at xs (2 * i))) (at_other xs at (2 * i + 1) v right))

written : (xs : List (Option Beat)) (at : ℕ) (v : Option Beat) → 1 ≤ at → at < length xs → v ≡ earlier (beat_at xs (2 * at)) (beat_at xs (2 * at + 1)) → IsTidyAt (set xs at v) at
written xs at v some h is =
    at_set xs at v h ∙ is
    ∙ sym (ap (λ x. earlier x (beat_at (set xs at v) (2 * at + 1))) (at_other xs at (2 * at) v (λ e. omega (arith, e, some))) ∙ ap (earlier (beat_at xs (2 * at))) (at_other xs at (2 * at + 1) v (λ e. omega (arith, e))))

-- a slot has been found anew: the one above it is the one that may be untidy
pub one_up : (xs : List (Option Beat)) (at : ℕ) (v : Option Beat) → 1 ≤ at → at < length xs → v ≡ earlier (beat_at xs (2 * at)) (beat_at xs (2 * at + 1)) → IsTidyBut xs at → IsTidyBut (set xs at v) (at / 2)
one_up xs at v some h is tidy i least within apart = by_place (cases_eq i at)
  where
    by_place : (i ≡ at) ⊎ (i ≢ at) → IsTidyAt (set xs at v) i
    by_place (inl e) = subst (IsTidyAt (set xs at v)) (sym e) (written xs at v some h is)
    by_place (inr ne) = still xs at i v ne (λ e. apart (omega (arith, e))) (λ e. apart (omega (arith, e))) (tidy i least (let long = length-set xs at v in omega (arith, within, long)) ne)

-- the one that may be untidy isn't
pub none_up : (xs : List (Option Beat)) (at : ℕ) → beat_at xs at ≡ earlier (beat_at xs (2 * at)) (beat_at xs (2 * at + 1)) → IsTidyBut xs at → IsTidy xs
none_up xs at is tidy i least within = by_place (cases_eq i at)
  where
    by_place : (i ≡ at) ⊎ (i ≢ at) → IsTidyAt xs i
    by_place (inl e) = subst (IsTidyAt xs) (sym e) is
    by_place (inr ne) = tidy i least within ne

-- a leaf was written
pub leaf_written : (xs : List (Option Beat)) (at : ℕ) (v : Option Beat) → length xs ≤ 2 * at → IsTidy xs → IsTidyBut (set xs at v) (at / 2)
leaf_written xs at v low tidy i least within apart =
    let long = length-set xs at v in
    still xs at i v (λ e. omega (arith, e, low, within, long)) (λ e. apart (omega (arith, e))) (λ e. apart (omega (arith, e))) (tidy i least (omega (arith, within, long)))

-- ---- which comes before

by_bool : (b : Bool) → (b ≡ true) ⊎ (b ≡ false)
by_bool true = inl refl
by_bool false = inr refl

pub itself : (a : Option Beat) → comes_before a a ≡ false
itself None = refl
itself (Some a) = grind (arith, nat_tests)

-- where the earlier one comes no sooner than another, neither does
pub neither_left : (a b x : Option Beat) → comes_before (earlier a b) x ≡ false → comes_before a x ≡ false
neither_left None b x h = refl
neither_left (Some a) None x h = h
neither_left (Some a) (Some b) None h = by_test (nat_lt b.0 a.0) h
  where
    by_test : (t : Bool) → comes_before (cond t (Some b) (Some a)) None ≡ false → true ≡ false
    by_test true h = h
    by_test false h = h
neither_left (Some a) (Some b) (Some x) h = by_test (nat_lt b.0 a.0) refl h
  where
    by_test : (t : Bool) → nat_lt b.0 a.0 ≡ t → comes_before (cond t (Some b) (Some a)) (Some x) ≡ false → nat_lt a.0 x.0 ≡ false
    by_test true less h = grind (arith, nat_tests)
    by_test false less h = h

pub neither_right : (a b x : Option Beat) → comes_before (earlier a b) x ≡ false → comes_before b x ≡ false
neither_right a None x h = refl
neither_right None (Some b) x h = h
neither_right (Some a) (Some b) None h = by_test (nat_lt b.0 a.0) h
  where
    by_test : (t : Bool) → comes_before (cond t (Some b) (Some a)) None ≡ false → true ≡ false
    by_test true h = h
    by_test false h = h
neither_right (Some a) (Some b) (Some x) h = by_test (nat_lt b.0 a.0) refl h
  where
    by_test : (t : Bool) → nat_lt b.0 a.0 ≡ t → comes_before (cond t (Some b) (Some a)) (Some x) ≡ false → nat_lt b.0 x.0 ≡ false
    by_test true less h = h
    by_test false less h = grind (arith, nat_tests)

-- where it does come sooner and the left one doesn't, the right one does
pub then_right : (a b x : Option Beat) → comes_before (earlier a b) x ≡ true → comes_before a x ≡ false → comes_before b x ≡ true
then_right a b x h none = by_test (comes_before b a) h
  where
    by_test : (t : Bool) → comes_before (cond t b a) x ≡ true → comes_before b x ≡ true
    by_test true h = h
    by_test false h = cc

pub none_comes : (a : Option Beat) → comes_before a None ≡ false → a ≡ None
none_comes None h = refl
none_comes (Some a) h = cc

-- ---- below the root

child : (xs : List (Option Beat)) (before : Option Beat) (x : ℕ) → IsTidy xs → 2 ≤ x → x < length xs → ((n : ℕ) × (length xs ≡ 2 * n)) → comes_before (beat_at xs (x / 2)) before ≡ false → comes_before (beat_at xs x) before ≡ false
child xs before x tidy some within even h = by_side (cases_eq x (2 * (x / 2)))
  where
    half : ℕ
    half = x / 2

    above : comes_before (earlier (beat_at xs (2 * (x / 2))) (beat_at xs (2 * (x / 2) + 1))) before ≡ false
    above = subst (λ b. comes_before b before ≡ false) (tidy (x / 2) (omega (arith, some)) (let e = even.1 in omega (arith, some, within, e))) h

    by_side : (x ≡ 2 * (x / 2)) ⊎ (x ≢ 2 * (x / 2)) → comes_before (beat_at xs x) before ≡ false
    by_side (inl e) = subst (λ n. comes_before (beat_at xs n) before ≡ false) (sym e) (neither_left (beat_at xs (2 * (x / 2))) (beat_at xs (2 * (x / 2) + 1)) before above)
    by_side (inr ne) =
        let e : x ≡ 2 * (x / 2) + 1 = omega (arith, ne) in
        subst (λ n. comes_before (beat_at xs n) before ≡ false) (sym e) (neither_right (beat_at xs (2 * (x / 2))) (beat_at xs (2 * (x / 2) + 1)) before above)

pub below_child : (xs : List (Option Beat)) (before : Option Beat) (x : ℕ) → IsTidy xs → 2 ≤ x → x < length xs → ((n : ℕ) × (length xs ≡ 2 * n)) → comes_before (beat_at xs (x / 2)) before ≡ false → comes_before (beat_at xs x) before ≡ false
below_child = child

-- where the root comes no sooner, no slot does
below_root : (xs : List (Option Beat)) (before : Option Beat) → IsTidy xs → ((n : ℕ) × (length xs ≡ 2 * n)) → comes_before (beat_at xs 1) before ≡ false → (n x : ℕ) → x ≤ n → 1 ≤ x → x < length xs → comes_before (beat_at xs x) before ≡ false
below_root xs before tidy even h zero x least some within = absurd (omega (arith, least, some))
below_root xs before tidy even h (suc n) x least some within = by_place (cases_eq x 1) (below_root xs before tidy even h n (x / 2))
  where
    by_place : (x ≡ 1) ⊎ (x ≢ 1) → (x / 2 ≤ n → 1 ≤ x / 2 → x / 2 < length xs → comes_before (beat_at xs (x / 2)) before ≡ false) → comes_before (beat_at xs x) before ≡ false
    by_place (inl e) above = subst (λ i. comes_before (beat_at xs i) before ≡ false) (sym e) h
    by_place (inr ne) above = child xs before x tidy (omega (arith, ne, some)) within even (above (omega (arith, least, some)) (omega (arith, ne, some)) (omega (arith, within)))

pub none_below : (xs : List (Option Beat)) (before : Option Beat) (x : ℕ) → IsTidy xs → ((n : ℕ) × (length xs ≡ 2 * n)) → comes_before (beat_at xs 1) before ≡ false → 1 ≤ x → comes_before (beat_at xs x) before ≡ false
none_below xs before x tidy even h some = by_order (cases_lt x (length xs))
  where
    by_order : (x < length xs) ⊎ (length xs ≤ x) → comes_before (beat_at xs x) before ≡ false
    by_order (inl within) = below_root xs before tidy even h x x (omega arith) some within
    by_order (inr past) = ap (λ b. comes_before b before) (past_is xs x past)

-- ---- a tree without beats

pub none_more : (xs : List (Option Beat)) → ((i : ℕ) → beat_at xs i ≡ None) → (i : ℕ) → beat_at (xs ++ None ∷ []) i ≡ None
none_more [] none zero = refl
none_more [] none (suc i) = refl
none_more (x ∷ xs) none zero = none zero
none_more (x ∷ xs) none (suc i) = none_more xs (λ j. none (suc j)) i

pub all_none : (xs : List (Option Beat)) → ((i : ℕ) → beat_at xs i ≡ None) → IsTidy xs
all_none xs none i least within = none i ∙ sym (ap (λ x. earlier x (beat_at xs (2 * i + 1))) (none (2 * i)) ∙ ap (earlier None) (none (2 * i + 1)))
