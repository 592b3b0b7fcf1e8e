-- The zones that are counted, in their order.
use Rattle.std.proofs.Common.{◌≡◌, ℕ, ◌+◌, ◌∷◌, [], List, map, Bool, true, false, cond, ◌||◌, nat_lt, Option, Some, None, refl, sym, ap, ◌∙◌, subst, arith, T, ◌&&◌}
use Rattle.std.specs.BTreeMap.{IsOrdered, is_at}
use Rattle.std.specs.Cmp.{IsTotalOrder}
use Rattle.std.specs.FinMap.Entries.{find, is_sorted, below_all, same_entries}
use Rattle.std.specs.List.{AllByRecursion, list_any}
use Rattle.std.specs.List.Sorted.{IsStrictlySortedBy}
use Rattle.std.specs.Map.{keys_of, lookup}
use Rattle.std.specs.Ordering.{eq_by_cmp, is_lt}
use Rattle.std.specs.declared.cmp.Ordering.{Ordering}
use Rattle.std.specs.declared.cmp.Ordering.TheVariants.{Less, Equal, Greater}
use Rattle.std.proofs.lemmas.Bool.Decides.{nat_tests}
use Rattle.std.proofs.lemmas.Cmp.{nat_cmp_total, on_total, then_total, eq_by_cmp_equiv}
use Rattle.std.proofs.lemmas.List.Sums.{sum_by-cons}
use Rattle.kube_objects.specs.declared.node.Node.{Node}
use Rattle.kube_objects.specs.Entry.{Place as Zone}
use Rattle.kube_objects.specs.Modes.{is_in, place_cmp, place_eq, place_of, places, ready_in, other_in, size_in}
use Rattle.kube_objects.specs.Newest.{has}
use Rattle.kube_objects.specs.Seen.{insert_once}
use Rattle.tick_laws.specs.Walks.{Above, Ascends}
use Rattle.tick_laws.proofs.Named.{ascends_insert}
use Rattle.tick_laws.proofs.Orders.{places_strict, same_place}
use Rattle.zone_counts.specs.declared.counts.Count.{Count}
use Rattle.zone_counts.specs.declared.counts.Counts.{Counts}
use Rattle.zone_counts.specs.declared.counts.ZoneCount.{ZoneCount}
use Rattle.taint_zones.specs.declared.place.Place.{Place}
use Rattle.zone_counts.specs.Counted.{CountsStand, count_at, ready_at, others_at, zone_count, zone_counts}
use Rattle.taint_zones.specs.Places.{of_place, entry_place, zone_cmp}

abbrev pub zone_of : Place × Count → ZoneCount
zone_of e = record { place = e.0; ready = e.1.ready; others = e.1.others }

-- ---- the order of zones

zones_total : IsTotalOrder zone_cmp
zones_total = then_total (on_total (λ (p : Place). p.region) nat_cmp_total) (on_total (λ (p : Place). p.zone) nat_cmp_total)

zones_same : (a b : Place) → zone_cmp a b ≡ Equal → a ≡ b
zones_same a b is = ap of_place (places_strict.same (entry_place a) (entry_place b) is)

less_is : (o : Ordering) → o ≡ Less → T (is_lt o)
less_is o is = subst (λ o. T (is_lt o)) (sym is) tt

both : (a b : Bool) → T a → T b → T (a && b)
both true b p q = q
both false b p q = p

-- ---- the zones of nodes

or_again : (a b : Bool) → (a || b) ≡ (a || (a || b))
or_again true b = refl
or_again false b = refl

or_swapped : (a b c : Bool) → (b || (a || c)) ≡ (a || (b || c))
or_swapped true true c = refl
or_swapped true false c = refl
or_swapped false b c = refl

inserted : (f : Zone → Bool) (x : Zone) (ys : List Zone) → list_any f (insert_once place_cmp x ys) ≡ (f x || list_any f ys)
inserted f x [] = refl
inserted f x (y ∷ ys) = by_order (place_cmp x y) refl (inserted f x ys)
  where
    by_order : (o : Ordering) → place_cmp x y ≡ o → list_any f (insert_once place_cmp x ys) ≡ (f x || list_any f ys)
        → list_any f (elim o [ Less ↦ x ∷ y ∷ ys | Equal ↦ y ∷ ys | Greater ↦ y ∷ insert_once place_cmp x ys ]) ≡ (f x || (f y || list_any f ys))
    by_order Less is later = refl
    by_order Equal is later =
        or_again (f y) (list_any f ys) ∙ ap (λ b. b || (f y || list_any f ys)) (ap f (sym (places_strict.same x y is)))
    by_order Greater is later = ap (λ b. f y || b) later ∙ or_swapped (f x) (f y) (list_any f ys)

positive_or : (b : Bool) (n : ℕ) (c : Bool) → nat_lt 0 n ≡ c → nat_lt 0 (cond b 1 0 + n) ≡ (b || c)
positive_or true n c is = grind (arith, nat_tests)
positive_or false n c is = ap (λ m. nat_lt 0 m) (zero_and n) ∙ is
  where
    zero_and : (n : ℕ) → 0 + n ≡ n
    zero_and n = omega (arith)

-- a zone is one of some nodes' where it has one of them
pub there : (place : Zone) (nodes : List Node) → list_any (place_eq place) (places nodes) ≡ nat_lt 0 (size_in place nodes)
there place [] = refl
there place (node ∷ nodes) =
    inserted (place_eq place) (place_of node) (places nodes)
    ∙ ap (λ b. b || list_any (place_eq place) (places nodes)) ((eq_by_cmp_equiv places_strict.total).symm place (place_of node))
    ∙ ap (λ b. is_in place node || b) (there place nodes)
    ∙ sym (ap (λ n. nat_lt 0 n) (sum_by-cons (λ x. cond (is_in place x) 1 0) node nodes) ∙ positive_or (is_in place node) (size_in place nodes) _ refl)

pub places_ascend : (nodes : List Node) → Ascends place_cmp (places nodes)
places_ascend [] = tt
places_ascend (node ∷ nodes) = ascends_insert place_cmp places_strict (place_of node) (places nodes) (places_ascend nodes)

-- ---- the entries that the counts have

abbrev count_of : List Node → Zone → Count
count_of nodes place = record { ready = ready_in place nodes; others = other_in place nodes }

abbrev entry_of : List Node → Zone → Place × Count
entry_of nodes place = (of_place place, count_of nodes place)

below : (nodes : List Node) (place : Zone) (ps : List Zone) → Above place_cmp place ps → T (below_all zone_cmp (of_place place) (map (entry_of nodes) ps))
below nodes place [] above = tt
below nodes place (p ∷ ps) above = both _ _ (less_is _ above.0) (below nodes place ps above.1)

sorted : (nodes : List Node) (ps : List Zone) → Ascends place_cmp ps → T (is_sorted zone_cmp (map (entry_of nodes) ps))
sorted nodes [] ascend = tt
sorted nodes (p ∷ ps) ascend = both _ _ (below nodes p ps ascend.0) (sorted nodes ps ascend.1)

found : (nodes : List Node) (q : Place) (ps : List Zone)
    → find zone_cmp q (map (entry_of nodes) ps) ≡ cond (list_any (place_eq (entry_place q)) ps) (Some (count_of nodes (entry_place q))) None
found nodes q [] = refl
found nodes q (p ∷ ps) = by_test (place_eq (entry_place q) p) refl (found nodes q ps)
  where
    by_test : (b : Bool) → place_eq (entry_place q) p ≡ b
        → find zone_cmp q (map (entry_of nodes) ps) ≡ cond (list_any (place_eq (entry_place q)) ps) (Some (count_of nodes (entry_place q))) None
        → cond b (Some (count_of nodes p)) (find zone_cmp q (map (entry_of nodes) ps))
        ≡ cond (b || list_any (place_eq (entry_place q)) ps) (Some (count_of nodes (entry_place q))) None
    by_test true is rest = ap (λ p. Some (count_of nodes p)) (sym (same_place (entry_place q) p is))
    by_test false is rest = rest

ordered_below : (x : Place) (es : List (Place × Count)) → AllByRecursion (λ y. zone_cmp x y ≡ Less) (keys_of es) → T (below_all zone_cmp x es)
ordered_below x [] all = tt
ordered_below x (e ∷ es) all = both _ _ (less_is _ all.0) (ordered_below x es all.1)

ordered : (es : List (Place × Count)) → IsStrictlySortedBy zone_cmp (keys_of es) → T (is_sorted zone_cmp es)
unfolding IsStrictlySortedBy
ordered [] sorted = tt
ordered (e ∷ es) sorted = both _ _ (ordered_below e.0 es sorted.0) (ordered es sorted.1)

looked_up : (q : Place) (es : List (Place × Count)) → find zone_cmp q es ≡ lookup (is_at (zone_cmp q)) es
looked_up q [] = refl
looked_up q (e ∷ es) = ap (λ x. cond (eq_by_cmp zone_cmp q e.0) (Some e.1) x) (looked_up q es)

count_is : (x : Option Count) (b : Bool) (ready others : ℕ) → has x ≡ b → ready_at x ≡ ready → others_at x ≡ others
    → x ≡ cond b (Some (record { ready = ready; others = others })) None
count_is None b ready others is r o = ap (λ b. cond b (Some (record { ready = ready; others = others })) None) is
count_is (Some x) b ready others is r o =
    ap (λ n. Some (record { ready = n; others = x.others })) r ∙ ap (λ n. Some (record { ready = ready; others = n })) o
    ∙ ap (λ b. cond b (Some (record { ready = ready; others = others })) None) is

counts_are : (nodes : List Node) (c : Counts) → CountsStand nodes c → IsOrdered zone_cmp c.zones → c.zones.entries ≡ map (entry_of nodes) (places nodes)
counts_are nodes c s o =
    same_entries zone_cmp zones_total zones_same c.zones.entries (map (entry_of nodes) (places nodes))
    (ordered c.zones.entries o) (sorted nodes (places nodes) (places_ascend nodes))
    (λ q. looked_up q c.zones.entries
    ∙ count_is (count_at c (entry_place q)) _ _ _ (s.there (entry_place q) ∙ sym (there (entry_place q) nodes)) (s.ready (entry_place q)) (s.others (entry_place q))
    ∙ sym (found nodes q (places nodes)))

mapped : (nodes : List Node) (ps : List Zone) → map zone_of (map (entry_of nodes) ps) ≡ map (zone_count nodes) ps
mapped nodes [] = refl
mapped nodes (p ∷ ps) = ap (λ zs. zone_count nodes p ∷ zs) (mapped nodes ps)

pub zones_listed : (nodes : List Node) (c : Counts) → CountsStand nodes c → IsOrdered zone_cmp c.zones → map zone_of c.zones.entries ≡ zone_counts nodes
zones_listed nodes c s o = ap (map zone_of) (counts_are nodes c s o) ∙ mapped nodes (places nodes)
