-- The dues of pods stand in order: by due, and of equal ones by key.
use Rattle.std.proofs.Common.{◌≡◌, ◌∙◌, ◌⊎◌, inl, inr, ℕ, ◌<◌, ◌≤◌, nat_le, Bool, true, false, List, [], ◌∷◌, refl, sym, ap, subst, Less, Equal, Greater, arith}
use Rattle.std.proofs.lemmas.Bool.{leb-true, leb-false}
use Rattle.std.proofs.lemmas.Bool.Decides.{nat_tests}
use Rattle.std.proofs.lemmas.Cmp.{nat_cmp_total, on_total, then_total}
use Rattle.std.specs.Ordering.{nat_cmp, ordering_then}
use Rattle.std.specs.declared.cmp.Ordering.{Ordering}
use Rattle.kube_objects.specs.declared.key.Key.{Key}
use Rattle.kube_objects.specs.declared.pod.Due.{Due}
use Rattle.kube_objects.specs.declared.pod.Due.TheVariants.{Never, At}
use Rattle.kube_objects.specs.Document.{Doc}
use Rattle.kube_objects.specs.Entry.{Entry, Identity}
use Rattle.kube_objects.specs.Keys.{key_cmp}
use Rattle.kube_objects.specs.Tick as model
use Rattle.kube_objects.specs.Tick.{and_due, dues, insert_due}
use Rattle.evict_queue.specs.Order.{timed_cmp}
use Rattle.tick_laws.specs.Walks.{Above, Among, Ascends, IsStrict}
use Rattle.tick_laws.proofs.Orders.{keys_strict}

-- ---- the order

nat_same : (a b : ℕ) → nat_cmp a b ≡ Equal → a ≡ b
nat_same a b is = grind (arith, nat_tests)

nat_less : (a b : ℕ) → a < b → nat_cmp a b ≡ Less
nat_less a b less = grind (arith, nat_tests)

nat_itself : (a : ℕ) → nat_cmp a a ≡ Equal
nat_itself a = grind (arith, nat_tests)

then_equal : (o p : Ordering) → ordering_then o p ≡ Equal → (o ≡ Equal) × (p ≡ Equal)
then_equal Less p is = absurd (cc)
then_equal Equal p is = (refl, is)
then_equal Greater p is = absurd (cc)

pub timed_strict : IsStrict timed_cmp
timed_strict = record {
  total = then_total (on_total (λ (x : ℕ × Key). x.0) nat_cmp_total) (on_total (λ (x : ℕ × Key). x.1) keys_strict.total);
  same = λ a b is. let both = then_equal (nat_cmp a.0 b.0) (key_cmp a.1 b.1) is in joined a b (nat_same a.0 b.0 both.0) (keys_strict.same a.1 b.1 both.1);
}
  where
    joined : (a b : ℕ × Key) → a.0 ≡ b.0 → a.1 ≡ b.1 → a ≡ b
    joined a b first second = λ i. (first i, second i)

-- earlier, or at the same time with a lesser key
pub earlier_less : (a b : ℕ) (k l : Key) → a < b → timed_cmp (a, k) (b, l) ≡ Less
earlier_less a b k l less = ap (λ o. ordering_then o (key_cmp k l)) (nat_less a b less)

pub keyed_less : (a b : ℕ) (k l : Key) → a ≤ b → key_cmp k l ≡ Less → timed_cmp (a, k) (b, l) ≡ Less
keyed_less a b k l le less = by_order (nat_le b a) refl
  where
    same : b ≤ a → timed_cmp (a, k) (b, l) ≡ Less
    same ge = subst (λ n. timed_cmp (a, k) (n, l) ≡ Less) (equal ge) (ap (λ o. ordering_then o (key_cmp k l)) (nat_itself a) ∙ less)
      where
        equal : b ≤ a → a ≡ b
        equal ge = omega (arith, le, ge)

    by_order : (t : Bool) → nat_le b a ≡ t → timed_cmp (a, k) (b, l) ≡ Less
    by_order true is = same (leb-true b a is)
    by_order false is = earlier_less a b k l (leb-false b a is)

-- ---- insertion

above_more : (x y : ℕ × Key) (zs : List (ℕ × Key)) → timed_cmp x y ≡ Less → Above timed_cmp y zs → Above timed_cmp x zs
above_more x y [] less p = tt
above_more x y (z ∷ zs) less p = (timed_strict.total.trans x y z less p.0, above_more x y zs less p.1)

insert_above : (x : ℕ × Key) (at : ℕ) (pod : Key) (zs : List (ℕ × Key)) → timed_cmp x (at, pod) ≡ Less → Above timed_cmp x zs → Above timed_cmp x (insert_due at pod zs)
insert_above x at pod [] less p = (less, tt)
insert_above x at pod (z ∷ zs) less p = by_order (insert_above x at pod zs less p.1) (nat_le at z.0)
  where
    by_order : Above timed_cmp x (insert_due at pod zs) → (b : Bool) → Above timed_cmp x (elim b [ true ↦ (at, pod) ∷ z ∷ zs | false ↦ z ∷ insert_due at pod zs ])
    by_order later true = (less, p)
    by_order later false = (p.0, later)

insert_ascends : (at : ℕ) (pod : Key) (zs : List (ℕ × Key)) → ((x : ℕ × Key) → Among x zs → key_cmp pod x.1 ≡ Less) → Ascends timed_cmp zs → Ascends timed_cmp (insert_due at pod zs)
insert_ascends at pod [] first s = (tt, tt)
insert_ascends at pod (z ∷ zs) first s = by_order (insert_ascends at pod zs (λ x there. first x (inr there)) s.1) (nat_le at z.0) refl
  where
    by_order : Ascends timed_cmp (insert_due at pod zs) → (b : Bool) → nat_le at z.0 ≡ b → Ascends timed_cmp (elim b [ true ↦ (at, pod) ∷ z ∷ zs | false ↦ z ∷ insert_due at pod zs ])
    by_order later true is =
        let less : timed_cmp (at, pod) z ≡ Less = keyed_less at z.0 pod z.1 (leb-true at z.0 is) (first z (inl refl)) in
        ((less, above_more (at, pod) z zs less s.0), s)
    by_order later false is = (insert_above z at pod zs (earlier_less z.0 at z.1 pod (leb-false at z.0 is)) s.0, later)

-- ---- the dues of pods

-- what is among dues with another one was there, or is that one
insert_only : (at : ℕ) (pod : Key) (zs : List (ℕ × Key)) (x : ℕ × Key) → Among x (insert_due at pod zs) → (x ≡ (at, pod)) ⊎ Among x zs
insert_only at pod [] x there = there
insert_only at pod (z ∷ zs) x there = by_order (insert_only at pod zs x) (nat_le at z.0) there
  where
    later_on : (x ≡ (at, pod)) ⊎ Among x zs → (x ≡ (at, pod)) ⊎ Among x (z ∷ zs)
    later_on (inl is) = inl is
    later_on (inr there) = inr (inr there)

    by_order : (Among x (insert_due at pod zs) → (x ≡ (at, pod)) ⊎ Among x zs) → (b : Bool) → Among x (elim b [ true ↦ (at, pod) ∷ z ∷ zs | false ↦ z ∷ insert_due at pod zs ]) → (x ≡ (at, pod)) ⊎ Among x (z ∷ zs)
    by_order later true there = there
    by_order later false (inl is) = inr (inl is)
    by_order later false (inr there) = later_on (later there)

module _ (doc : Doc) (q : Identity) (h : List Entry) where
  abbrev due_of : Key → Due
  due_of pod = model.due_by doc.settings.rules.evict_from doc q pod h

  -- each of them is a pod with its due
  pub dues_only : (pods : List Key) (x : ℕ × Key) → Among x (dues doc q pods h) → Among x.1 pods × (due_of x.1 ≡ At x.0)
  dues_only [] x there = absurd there
  dues_only (p ∷ pods) x there = by_due (dues_only pods x) (due_of p) refl there
    where
      here : (at : ℕ) → due_of p ≡ At at → (x ≡ (at, p)) ⊎ (Among x.1 pods × (due_of x.1 ≡ At x.0)) → Among x.1 (p ∷ pods) × (due_of x.1 ≡ At x.0)
      here at is (inl same) = (inl (ap (λ (y : ℕ × Key). y.1) same), ap due_of (ap (λ (y : ℕ × Key). y.1) same) ∙ is ∙ ap (λ (n : ℕ). At n) (sym (ap (λ (y : ℕ × Key). y.0) same)))
      here at is (inr both) = (inr both.0, both.1)

      or_later : (at : ℕ) → (Among x (dues doc q pods h) → Among x.1 pods × (due_of x.1 ≡ At x.0)) → (x ≡ (at, p)) ⊎ Among x (dues doc q pods h) → (x ≡ (at, p)) ⊎ (Among x.1 pods × (due_of x.1 ≡ At x.0))
      or_later at later (inl same) = inl same
      or_later at later (inr there) = inr (later there)

      by_due : (Among x (dues doc q pods h) → Among x.1 pods × (due_of x.1 ≡ At x.0)) → (d : Due) → due_of p ≡ d → Among x (and_due p d (dues doc q pods h)) → Among x.1 (p ∷ pods) × (due_of x.1 ≡ At x.0)
      by_due later Never is there = let both = later there in (inr both.0, both.1)
      by_due later (At at) is there = here at is (or_later at later (insert_only at p (dues doc q pods h) x there))

  above_all : (p : Key) (pods : List Key) (x : Key) → Above key_cmp p pods → Among x pods → key_cmp p x ≡ Less
  above_all p [] x above there = absurd there
  above_all p (y ∷ ys) x above (inl is) = subst (λ z. key_cmp p z ≡ Less) (sym is) above.0
  above_all p (y ∷ ys) x above (inr there) = above_all p ys x above.1 there

  pub dues_ascend : (pods : List Key) → Ascends key_cmp pods → Ascends timed_cmp (dues doc q pods h)
  dues_ascend [] s = tt
  dues_ascend (p ∷ pods) s = by_due (dues_ascend pods s.1) (due_of p)
    where
      by_due : Ascends timed_cmp (dues doc q pods h) → (d : Due) → Ascends timed_cmp (and_due p d (dues doc q pods h))
      by_due later Never = later
      by_due later (At at) = insert_ascends at p (dues doc q pods h) (λ x there. above_all p pods x.1 s.0 (dues_only pods x there).0) later
