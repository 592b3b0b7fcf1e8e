-- Sets of pairs of a number and a key: their derived order is the one that the definitions name.
use Rattle.std.proofs.Common.{◌≡◌, ℕ, Bool, true, false, cond, not, ◌&&◌, ◌||◌, ◌==◌, refl, ap, ◌∙◌, subst}
use Rattle.std.specs.Ordering.{nat_cmp, ordering_then, is_eq}
use Rattle.std.specs.declared.cmp.Ordering.{Ordering}
use Rattle.std.specs.BTreeSet as set
use Rattle.std.specs.BTreeSet.{BTreeSet}
use Rattle.kube_objects.specs.declared.key.Key.{Key}
use Rattle.kube_objects.specs.contracts.key.KeyOrd.TheImpl as key_ord
use Rattle.kube_objects.specs.Keys.{key_cmp, key_eq}
use Rattle.kube_objects.proofs.KeyOrder.{key_order}
use Rattle.key_map.proofs.Keyed.{number_eq, then_eq}

-- by number and then by an order of keys
abbrev pub pairs_by : (Key → Key → Ordering) → ℕ × Key → ℕ × Key → Ordering
pairs_by cmp a b = ordering_then (nat_cmp a.0 b.0) (cmp a.1 b.1)

abbrev pair_cmp : ℕ × Key → ℕ × Key → Ordering
pair_cmp = pairs_by key_cmp

-- the order doesn't tell a pair from itself alone
pub pair_eq : (a b : ℕ × Key) → is_eq (pair_cmp a b) ≡ ((a.0 == b.0) && key_eq a.1 b.1)
pair_eq a b = then_eq (nat_cmp a.0 b.0) (key_cmp a.1 b.1) ∙ ap (λ t. t && key_eq a.1 b.1) (number_eq a.0 b.0)

pub cond_or : (b c : Bool) → cond b true c ≡ (b || c)
cond_or true c = refl
cond_or false c = refl

cond_and : (b c : Bool) → cond b false c ≡ (not b && c)
cond_and true c = refl
cond_and false c = refl

-- a pair was added
pub added : (s n : BTreeSet (ℕ × Key)) (p : ℕ × Key) → set.Updates (pairs_by (key_ord.cmp-value).it) s n p true
    → (q : ℕ × Key) → set.contains pair_cmp n q ≡ (((p.0 == q.0) && key_eq p.1 q.1) || set.contains pair_cmp s q)
added s n p u q =
    (subst (λ cmp. set.Updates (pairs_by cmp) s n p true) key_order u).0 q
    ∙ cond_or (is_eq (pair_cmp p q)) (set.contains pair_cmp s q)
    ∙ ap (λ b. b || set.contains pair_cmp s q) (pair_eq p q)

-- a pair was taken out
pub taken : (s n : BTreeSet (ℕ × Key)) (p : ℕ × Key) → set.Updates (pairs_by (key_ord.cmp-value).it) s n p false
    → (q : ℕ × Key) → set.contains pair_cmp n q ≡ (not ((p.0 == q.0) && key_eq p.1 q.1) && set.contains pair_cmp s q)
taken s n p u q =
    (subst (λ cmp. set.Updates (pairs_by cmp) s n p false) key_order u).0 q
    ∙ cond_and (is_eq (pair_cmp p q)) (set.contains pair_cmp s q)
    ∙ ap (λ b. not b && set.contains pair_cmp s q) (pair_eq p q)
