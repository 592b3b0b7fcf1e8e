-- A list of names in order that leaves out some of another is no longer than that one, and stays so as names of that one come in.
use Rattle.std.proofs.Common.{◌≡◌, ◌⊎◌, inl, inr, ℕ, suc, ◌≤◌, List, [], ◌∷◌, length, Option, Some, None, refl, ◌∙◌, ◌<◌, subst, Less, Equal, Greater, arith}
use Rattle.std.proofs.lemmas.Bool.Decides.{nat_tests}
use Rattle.std.specs.Ordering.{nat_cmp}
use Rattle.std.specs.declared.cmp.Ordering.{Ordering}
use Rattle.kube_objects.specs.Seen.{insert_once, insert_named}
use Rattle.tick_laws.specs.Walks.{Among, Above, Ascends}

-- the first leaves out some of the second
abbrev pub IsSublist : List ℕ → List ℕ → Type 0
IsSublist [] ms = Unit {0}
IsSublist (n ∷ ns) [] = ⊥
IsSublist (n ∷ ns) (m ∷ ms) = ((n ≡ m) × IsSublist ns ms) ⊎ IsSublist (n ∷ ns) ms

pub sublist_length : (ns ms : List ℕ) → IsSublist ns ms → length ns ≤ length ms
sublist_length [] ms s = omega arith
sublist_length (n ∷ ns) [] s = absurd s
sublist_length (n ∷ ns) (m ∷ ms) (inl both) = omega (arith, sublist_length ns ms both.1)
sublist_length (n ∷ ns) (m ∷ ms) (inr s) = omega (arith, sublist_length (n ∷ ns) ms s)

pub sublist_among : (a : ℕ) (ns ms : List ℕ) → IsSublist ns ms → Among a ns → Among a ms
sublist_among a [] ms s at = absurd at
sublist_among a (n ∷ ns) [] s at = absurd s
sublist_among a (n ∷ ns) (m ∷ ms) (inl both) (inl is) = inl (is ∙ both.0)
sublist_among a (n ∷ ns) (m ∷ ms) (inl both) (inr at) = inr (sublist_among a ns ms both.1 at)
sublist_among a (n ∷ ns) (m ∷ ms) (inr s) at = inr (sublist_among a (n ∷ ns) ms s at)

above_less : (m a : ℕ) (ms : List ℕ) → Above nat_cmp m ms → Among a ms → m < a
above_less m a [] above at = absurd at
above_less m a (x ∷ xs) above (inl is) = grind (arith, nat_tests)
above_less m a (x ∷ xs) above (inr at) = above_less m a xs above.1 at

cmp_less : (a b : ℕ) → nat_cmp a b ≡ Less → a < b
cmp_less a b is = grind (arith, nat_tests)

cmp_greater : (a b : ℕ) → nat_cmp a b ≡ Greater → b < a
cmp_greater a b is = grind (arith, nat_tests)

-- a name of the longer list comes in
pub sublist_insert : (a : ℕ) (ns ms : List ℕ) → Ascends nat_cmp ms → Among a ms → IsSublist ns ms → IsSublist (insert_once nat_cmp a ns) ms
sublist_insert a ns [] ascends at s = absurd at
sublist_insert a [] (m ∷ ms) ascends (inl is) s = inl (is, tt)
sublist_insert a [] (m ∷ ms) ascends (inr at) s = inr (sublist_insert a [] ms ascends.1 at tt)
sublist_insert a (n ∷ ns) (m ∷ ms) ascends at s = by_order (λ at s. sublist_insert a (n ∷ ns) ms ascends.1 at s) (λ at s. sublist_insert a ns ms ascends.1 at s) (nat_cmp a n) refl at s
  where
    -- the first of the longer list is left out
    skips : (Among a ms → IsSublist (n ∷ ns) ms → IsSublist (insert_once nat_cmp a (n ∷ ns)) ms) → (o : Ordering) → nat_cmp a n ≡ o → Among a ms → IsSublist (n ∷ ns) ms
        → IsSublist (elim o [ Less ↦ a ∷ n ∷ ns | Equal ↦ n ∷ ns | Greater ↦ n ∷ insert_once nat_cmp a ns ]) ms
    skips whole o order at s = subst (λ o. IsSublist (elim o [ Less ↦ a ∷ n ∷ ns | Equal ↦ n ∷ ns | Greater ↦ n ∷ insert_once nat_cmp a ns ]) ms) order (whole at s)

    by_order : (Among a ms → IsSublist (n ∷ ns) ms → IsSublist (insert_once nat_cmp a (n ∷ ns)) ms) → (Among a ms → IsSublist ns ms → IsSublist (insert_once nat_cmp a ns) ms)
        → (o : Ordering) → nat_cmp a n ≡ o → (a ≡ m) ⊎ Among a ms → ((n ≡ m) × IsSublist ns ms) ⊎ IsSublist (n ∷ ns) ms
        → IsSublist (elim o [ Less ↦ a ∷ n ∷ ns | Equal ↦ n ∷ ns | Greater ↦ n ∷ insert_once nat_cmp a ns ]) (m ∷ ms)
    by_order whole rest Less order (inl is) (inl both) = absurd (omega (arith, cmp_less a n order, is, both.0))
    by_order whole rest Less order (inl is) (inr s) = inl (is, s)
    by_order whole rest Less order (inr at) (inl both) = absurd (omega (arith, cmp_less a n order, above_less m a ms ascends.0 at, both.0))
    by_order whole rest Less order (inr at) (inr s) = inr (skips whole Less order at s)
    by_order whole rest Equal order at s = s
    by_order whole rest Greater order (inl is) (inl both) = absurd (omega (arith, cmp_greater a n order, is, both.0))
    by_order whole rest Greater order (inl is) (inr s) = absurd (omega (arith, cmp_greater a n order, above_less m n ms ascends.0 (sublist_among n (n ∷ ns) ms s (inl refl)), is))
    by_order whole rest Greater order (inr at) (inl both) = inl (both.0, rest at both.1)
    by_order whole rest Greater order (inr at) (inr s) = inr (skips whole Greater order at s)

pub insert_more : (a : ℕ) (ns : List ℕ) → length ns ≤ length (insert_once nat_cmp a ns)
insert_more a [] = omega arith
insert_more a (n ∷ ns) = by_order (nat_cmp a n) (insert_more a ns)
  where
    by_order : (o : Ordering) → length ns ≤ length (insert_once nat_cmp a ns) → suc (length ns) ≤ length {A = ℕ} (elim o [ Less ↦ a ∷ n ∷ ns | Equal ↦ n ∷ ns | Greater ↦ n ∷ insert_once nat_cmp a ns ])
    by_order Less later = omega arith
    by_order Equal later = omega arith
    by_order Greater later = omega (arith, later)

pub insert_one : (a : ℕ) (ns : List ℕ) → length (insert_once nat_cmp a ns) ≤ suc (length ns)
insert_one a [] = omega arith
insert_one a (n ∷ ns) = by_order (nat_cmp a n) (insert_one a ns)
  where
    by_order : (o : Ordering) → length (insert_once nat_cmp a ns) ≤ suc (length ns) → length {A = ℕ} (elim o [ Less ↦ a ∷ n ∷ ns | Equal ↦ n ∷ ns | Greater ↦ n ∷ insert_once nat_cmp a ns ]) ≤ suc (suc (length ns))
    by_order Less later = omega arith
    by_order Equal later = omega arith
    by_order Greater later = omega (arith, later)

pub named_more : (o : Option ℕ) (ns : List ℕ) → length ns ≤ length (insert_named nat_cmp o ns)
named_more None ns = omega arith
named_more (Some a) ns = insert_more a ns

pub named_one : (o : Option ℕ) (ns : List ℕ) → length (insert_named nat_cmp o ns) ≤ suc (length ns)
named_one None ns = omega arith
named_one (Some a) ns = insert_one a ns
