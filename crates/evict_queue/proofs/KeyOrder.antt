-- The derived order of a map's keys, which are a number and a key, is the one that the definitions name.
use Rattle.std.proofs.Common.{◌≡◌, ℕ, ◌≤◌, Bool, true, false, cond, Some, None, refl, ap, sym, ◌∙◌, subst, arith, Less, Equal, Greater}
use Rattle.std.proofs.lemmas.Bool.Decides.{nat_tests}
use Rattle.std.specs.Ordering.{nat_cmp, ordering_then, is_gt}
use Rattle.std.specs.declared.cmp.Ordering.{Ordering}
use Rattle.std.specs.BTreeSet as set
use Rattle.std.specs.BTreeSet.{BTreeSet}
use Rattle.std.specs.Prelude.{Option, IsTrue, IsSome, is_some, unwrap_or}
use Rattle.kube_objects.specs.declared.key.Key.{Key}
use Rattle.kube_objects.specs.declared.pod.Due.{Due}
use Rattle.kube_objects.specs.declared.pod.Due.TheVariants.{Never}
use Rattle.kube_objects.specs.contracts.key.KeyOrd.TheImpl as key_ord
use Rattle.kube_objects.specs.Keys.{key_cmp, key_eq}
use Rattle.kube_objects.proofs.KeyOrder.{key_itself, key_order, same_key}
use Rattle.key_map.specs.Values.{value_at}
use Rattle.key_map.specs.declared.map.KeyMap.{KeyMap}
use Rattle.key_map.proofs.Pairs.{pairs_by}
use Rattle.evict_queue.specs.Order.{timed_cmp}

-- no entry is below the first
pub none_below : (m : BTreeSet (ℕ × Key)) (p : ℕ × Key) → set.IsLowerBound (pairs_by (key_ord.cmp-value).it) m p
    → (d : ℕ) (k : Key) → set.contains timed_cmp m (d, k) ≡ true → is_gt (timed_cmp p (d, k)) ≡ false
none_below m p b d k there = subst (λ cmp. set.IsLowerBound (pairs_by cmp) m p) key_order b (d, k) there

-- an entry that is not below another has no lesser time
pub time_of_first : (a b : ℕ) (k l : Key) → is_gt (timed_cmp (a, k) (b, l)) ≡ false → a ≤ b
time_of_first a b k l h = by_order (nat_cmp a b) (key_cmp k l) h (grind (arith, nat_tests))
  where
    by_order : (o p : Ordering) → is_gt (ordering_then o p) ≡ false → (is_gt o ≡ false → a ≤ b) → a ≤ b
    by_order Less p h f = f refl
    by_order Equal p h f = f refl
    by_order Greater p h f = f h

-- the first entry is there
pub member : (m : BTreeSet (ℕ × Key)) (p : ℕ × Key) → IsTrue (set.contains (pairs_by (key_ord.cmp-value).it) m p) → set.contains timed_cmp m p ≡ true
member m p there = subst (λ cmp. set.contains (pairs_by cmp) m p ≡ true) key_order there

-- ---- room for a key
pub room_kept : (b : Bool) (old : Option Due) → IsSome old → IsSome (cond b (Some Never) old)
room_kept true old h = refl
room_kept false old h = h

-- room was made for a key that had none
pub room_same : (m n : KeyMap Due) (key : Key) → ((k : Key) → value_at n k ≡ cond (key_eq key k) (Some Never) (value_at m k))
    → value_at m key ≡ None
    → (k : Key) → unwrap_or (value_at n k) Never ≡ unwrap_or (value_at m k) Never
room_same m n key put none k =
    ap (λ o. unwrap_or o Never) (put k)
    ∙ by_key (key_eq key k)
    (λ same. subst (λ q. unwrap_or (value_at m q) Never ≡ Never) (same_key key k same) (ap (λ o. unwrap_or o Never) none))
  where
    by_key : (b : Bool) → (b ≡ true → unwrap_or (value_at m k) Never ≡ Never)
        → unwrap_or (cond b (Some Never) (value_at m k)) Never ≡ unwrap_or (value_at m k) Never
    by_key true f = sym (f refl)
    by_key false f = refl

-- what was put is there
pub room_there : (m n : KeyMap Due) (key : Key) → ((k : Key) → value_at n k ≡ cond (key_eq key k) (Some Never) (value_at m k))
    → IsSome (value_at n key)
room_there m n key put = ap is_some (put key ∙ ap (λ b. cond b (Some Never) (value_at m key)) (key_itself key))
