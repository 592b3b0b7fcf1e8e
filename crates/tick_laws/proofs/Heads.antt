-- The head of a zone's queue is the node that waits there with the least beat, and of equal beats the one with the least name.
use Rattle.std.proofs.Common.{◌≡◌, ◌∙◌, ◌⊎◌, inl, inr, ℕ, ◌<◌, ◌≤◌, nat_lt, Bool, true, false, cond, List, [], ◌∷◌, Option, Some, None, refl, sym, ap, subst, arith, Less}
use Rattle.std.proofs.lemmas.Bool.Decides.{nat_tests}
use Rattle.std.specs.Ordering.{nat_cmp}
use Rattle.kube_objects.specs.Entry.{Entry, Identity, Place}
use Rattle.kube_objects.specs.Tainting.{waits, queued, Queued, queued_as, first, head_of}
use Rattle.history_laws.proofs.Plainly.{none_is, some_is}
use Rattle.tick_laws.specs.Judged.{key_if, waits_since}
use Rattle.tick_laws.specs.Walks.{Among, Ascends}
use Rattle.tick_laws.proofs.Orders.{names_strict}
use Rattle.tick_laws.proofs.Walks.{above_less}

-- beat and name at, n aren't after b, m
abbrev pub Precedes : ℕ → ℕ → ℕ → ℕ → Type 0
Precedes at n b m = (at < b) ⊎ ((at ≡ b) × (n ≤ m))

less_is : (a b : ℕ) → a < b → nat_lt a b ≡ true
less_is a b h = grind (arith, nat_tests)

not_less : (a b : ℕ) → b ≤ a → nat_lt a b ≡ false
not_less a b h = grind (arith, nat_tests)

name_less : (m n : ℕ) → nat_cmp m n ≡ Less → m < n
name_less m n h = grind (arith, nat_tests)

-- what is the head waits since its beat
pub head_waits : (q : Identity) (place : Place) (names : List ℕ) (h : List Entry) (y : Queued) → head_of q place names h ≡ Some y → waits_since q place y.1 h ≡ Some y.0
head_waits q place [] h y is = absurd (none_is y is)
head_waits q place (m ∷ ms) h y is = by_key (waits q place m h) refl (head_of q place ms h) (head_waits q place ms h y) is
  where
    mine : (wanted : ℕ) → waits q place m h ≡ Some wanted → Some (queued q place m h, m) ≡ Some y → waits_since q place y.1 h ≡ Some y.0
    mine wanted w is =
        let e = some_is (queued q place m h, m) y is in
        subst (λ (p : ℕ × ℕ). waits_since q place p.1 h ≡ Some p.0) e (ap (λ o. key_if o (queued q place m h)) w)

    by_test : (wanted : ℕ) → waits q place m h ≡ Some wanted → (x : Queued) → (Some x ≡ Some y → waits_since q place y.1 h ≡ Some y.0) → (b : Bool) → Some (cond b x (queued q place m h, m)) ≡ Some y
        → waits_since q place y.1 h ≡ Some y.0
    by_test wanted w x later true is = later is
    by_test wanted w x later false is = mine wanted w is

    by_key : (o : Option ℕ) → waits q place m h ≡ o → (r : Option Queued) → (r ≡ Some y → waits_since q place y.1 h ≡ Some y.0) → first (queued_as (queued q place m h) m o) r ≡ Some y → waits_since q place y.1 h ≡ Some y.0
    by_key None w r later is = later is
    by_key (Some wanted) w None later is = mine wanted w is
    by_key (Some wanted) w (Some x) later is = by_test wanted w x later (nat_lt x.0 (queued q place m h)) is

pub head_none : (q : Identity) (place : Place) (names : List ℕ) (h : List Entry) → ((m : ℕ) → waits_since q place m h ≡ None) → head_of q place names h ≡ None
head_none q place names h nobody = by_head (head_of q place names h) refl
  where
    by_head : (o : Option Queued) → head_of q place names h ≡ o → o ≡ None
    by_head None is = refl
    by_head (Some y) is = absurd (none_is y.0 (sym (nobody y.1) ∙ head_waits q place names h y is))

pub head_least : (q : Identity) (place : Place) (n at : ℕ) (names : List ℕ) (h : List Entry) → waits_since q place n h ≡ Some at
    → ((m b : ℕ) → waits_since q place m h ≡ Some b → Precedes at n b m) → Ascends nat_cmp names → Among n names → head_of q place names h ≡ Some (at, n)
head_least q place n at [] h mine least ascends there = absurd there
head_least q place n at (m ∷ ms) h mine least ascends (inl same) =
    subst (λ m. first (queued_as (queued q place m h) m (waits q place m h)) (head_of q place ms h) ≡ Some (at, n)) same (by_wanted (waits q place n h) refl)
  where
    not_after : (b : Queued) → Precedes at n b.0 b.1 → at ≤ b.0
    not_after b (inl less) = omega (arith, less)
    not_after b (inr (is, le)) = omega (arith, is)

    by_rest : (o : Option Queued) → head_of q place ms h ≡ o → first (Some (at, n)) o ≡ Some (at, n)
    by_rest None is = refl
    by_rest (Some y) is = ap (λ b. Some (cond b y (at, n))) (not_less y.0 at (not_after y (least y.1 y.0 (head_waits q place ms h y is))))

    by_wanted : (o : Option ℕ) → waits q place n h ≡ o → first (queued_as (queued q place n h) n o) (head_of q place ms h) ≡ Some (at, n)
    by_wanted None w = absurd (none_is at (sym (ap (λ o. key_if o (queued q place n h)) w) ∙ mine))
    by_wanted (Some wanted) w =
        let e : queued q place n h ≡ at = some_is (queued q place n h) at (sym (ap (λ o. key_if o (queued q place n h)) w) ∙ mine) in
        ap (λ (k : ℕ). first (Some (k, n)) (head_of q place ms h)) e ∙ by_rest (head_of q place ms h) refl
head_least q place n at (m ∷ ms) h mine least ascends (inr there) =
    ap (first (queued_as (queued q place m h) m (waits q place m h))) (head_least q place n at ms h mine least ascends.1 there)
    ∙ by_wanted (waits q place m h) refl (name_less m n (above_less nat_cmp names_strict n m ms there ascends.0))
  where
    by_first : m < n → Precedes at n (queued q place m h) m → nat_lt at (queued q place m h) ≡ true
    by_first before (inl less) = less_is at (queued q place m h) less
    by_first before (inr (is, le)) = absurd (omega (arith, before, le))

    by_wanted : (o : Option ℕ) → waits q place m h ≡ o → m < n → first (queued_as (queued q place m h) m o) (Some (at, n)) ≡ Some (at, n)
    by_wanted None w before = refl
    by_wanted (Some wanted) w before = ap (λ b. Some (cond b (at, n) (queued q place m h, m))) (by_first before (least m (queued q place m h) (ap (λ o. key_if o (queued q place m h)) w)))
