-- Pushes by their numbers, and their numbers under their nodes.
use Rattle.std.proofs.Common.{◌≡◌, ℕ, ◌<◌, ◌≤◌, ◌+◌, ◌==◌, ◌&&◌, ◌||◌, ◌↔◌, Bool, true, false, cond, List, [], ◌∷◌, ◌++◌, Option, Some, None, map, refl, ap, sym, ◌∙◌, subst, arith, ◌⊎◌, inl, inr, eq-eqb, ne_eqb, is_eq, nat_cmp, BTreeMap, BTreeSet, Less, Equal, Greater, Ordering, lt_of_lt_of_le, lt_irrefl, le_antisymm}
use Rattle.std.proofs.lemmas.Bool.{and_from, and_left, and_right, cases_eq}
use Rattle.std.proofs.lemmas.Bool.Decides.{nat_tests}
use Rattle.std.proofs.lemmas.Cmp.{nat_cmp_total, ranked, tied_itself}
use Rattle.std.proofs.lemmas.Map.Keys.{sorted_head, sorted_tail}
use Rattle.std.proofs.lemmas.Option.{same_Some, none-some}
use Rattle.std.specs.BTreeMap.{get, insert_entry, is_at, Updates}
use Rattle.std.specs.BTreeMap.Range.{IsInRange}
use Rattle.std.specs.BTreeSet.{contains, IsKeyRangeOf, Updates as KeyUpdates}
use Rattle.std.specs.Cmp.{tied_then}
use Rattle.std.specs.List.{AllByRecursion}
use Rattle.std.specs.List.Sorted.{IsStrictlySortedBy}
use Rattle.std.specs.Map.{keys_of, lookup, remove_entry}
use Rattle.std.specs.Ordering.{is_gt, match_ordering, ordering_then}
use Rattle.std.specs.declared.ops.Bound.TheVariants.{Included, Unbounded}
use Rattle.kube_objects.specs.Judgement.{holds_name, without_first}
use Rattle.taint_queue.specs.PushNumbers.{placed_cmp, AreBelow, ArePlaced}

-- ---- tests

same_number : (a b : ℕ) → is_eq (nat_cmp a b) ≡ (a == b)
same_number a b = grind (arith, nat_tests)

same_push : (n p m q : ℕ) → is_eq (placed_cmp (n, p) (m, q)) ≡ ((n == m) && (p == q))
same_push n p m q = sym (tied_then (nat_cmp n m) (nat_cmp p q)) ∙ ap (λ b. b && is_eq (nat_cmp p q)) (same_number n m) ∙ ap (λ b. (n == m) && b) (same_number p q)

when : {X : Type 0} (b : Bool) (x y : X) → b ≡ true → cond b x y ≡ x
when b x y is = ap (λ t. cond t x y) is

unless : {X : Type 0} (b : Bool) (x y : X) → b ≡ false → cond b x y ≡ y
unless b x y is = ap (λ t. cond t x y) is

-- ---- one push is put among the others, or goes

module _ (G H : ℕ → Option ℕ) (S T : ℕ → ℕ → Bool) (node place : ℕ) (placed : (q m : ℕ) → (G q ≡ Some m) ↔ (S m q ≡ true)) where
  module _ (w : Option ℕ) (b : Bool) (put : (q : ℕ) → H q ≡ cond (place == q) w (G q)) (under : (m q : ℕ) → T m q ≡ cond ((node == m) && (place == q)) b (S m q)) where
    number_here : (q : ℕ) → place ≡ q → H q ≡ w
    number_here q e = put q ∙ when (place == q) w (G q) (eq-eqb place q e)

    number_other : (q : ℕ) → (place ≡ q → ⊥) → H q ≡ G q
    number_other q ne = put q ∙ unless (place == q) w (G q) (ne_eqb place q ne)

    node_here : (m q : ℕ) → node ≡ m → place ≡ q → T m q ≡ b
    node_here m q e f = under m q ∙ when ((node == m) && (place == q)) b (S m q) (and_from (node == m) (place == q) (eq-eqb node m e) (eq-eqb place q f))

    node_other : (m q : ℕ) → (node ≡ m → ⊥) → T m q ≡ S m q
    node_other m q ne = under m q ∙ unless ((node == m) && (place == q)) b (S m q) (and_left (node == m) (place == q) (ne_eqb node m ne))

    place_other : (m q : ℕ) → (place ≡ q → ⊥) → T m q ≡ S m q
    place_other m q ne = under m q ∙ unless ((node == m) && (place == q)) b (S m q) (and_right (node == m) (place == q) (ne_eqb place q ne))

    -- another number's pushes are as before
    others_placed : (q m : ℕ) → (place ≡ q → ⊥) → (H q ≡ Some m) ↔ (T m q ≡ true)
    others_placed q m ne = (λ e. place_other m q ne ∙ (placed q m).0 (sym (number_other q ne) ∙ e), λ e. number_other q ne ∙ (placed q m).1 (sym (place_other m q ne) ∙ e))

  pub put_placed : ((m : ℕ) → G place ≡ Some m → ⊥) → ((q : ℕ) → H q ≡ cond (place == q) (Some node) (G q)) → ((m q : ℕ) → T m q ≡ cond ((node == m) && (place == q)) true (S m q))
      → (q m : ℕ) → (H q ≡ Some m) ↔ (T m q ≡ true)
  put_placed none put under q m = by_both (cases_eq place q) (cases_eq node m)
    where
      by_both : (place ≡ q) ⊎ (place ≡ q → ⊥) → (node ≡ m) ⊎ (node ≡ m → ⊥) → (H q ≡ Some m) ↔ (T m q ≡ true)
      by_both (inl e) (inl f) = (λ _. node_here (Some node) true put under m q f e, λ _. number_here (Some node) true put under q e ∙ ap Some f)
      by_both (inl e) (inr ne) =
          (λ h. absurd (ne (same_Some node m (sym (number_here (Some node) true put under q e) ∙ h))), λ h. absurd (none m (ap G e ∙ (placed q m).1 (sym (node_other (Some node) true put under m q ne) ∙ h))))
      by_both (inr ne) f = others_placed (Some node) true put under q m ne

  pub gone_placed : G place ≡ Some node → ((q : ℕ) → H q ≡ cond (place == q) None (G q)) → ((m q : ℕ) → T m q ≡ cond ((node == m) && (place == q)) false (S m q))
      → (q m : ℕ) → (H q ≡ Some m) ↔ (T m q ≡ true)
  gone_placed there put under q m = by_both (cases_eq place q) (cases_eq node m)
    where
      no : (t : Bool) → t ≡ false → t ≡ true → ⊥
      no t is e = cc

      by_both : (place ≡ q) ⊎ (place ≡ q → ⊥) → (node ≡ m) ⊎ (node ≡ m → ⊥) → (H q ≡ Some m) ↔ (T m q ≡ true)
      by_both (inl e) (inl f) = (λ h. absurd (none-some m (sym (number_here None false put under q e) ∙ h)), λ h. absurd (no (T m q) (node_here None false put under m q f e) h))
      by_both (inl e) (inr ne) = (
        λ h. absurd (none-some m (sym (number_here None false put under q e) ∙ h)),
        λ h. absurd (ne (same_Some node m (sym there ∙ ap G e ∙ (placed q m).1 (sym (node_other None false put under m q ne) ∙ h)))),
      )
      by_both (inr ne) f = others_placed None false put under q m ne

-- ---- the same of the map and the set

numbers_so : (m n : BTreeMap ℕ ℕ) (place : ℕ) (w : Option ℕ) → Updates nat_cmp m n place w → (q : ℕ) → get nat_cmp n q ≡ cond (place == q) w (get nat_cmp m q)
numbers_so m n place w u q = u.0 q ∙ ap (λ b. cond b w (get nat_cmp m q)) (same_number place q)

nodes_so : (s t : BTreeSet (ℕ × ℕ)) (node place : ℕ) (b : Bool) → KeyUpdates placed_cmp s t (node, place) b → (m q : ℕ)
    → contains placed_cmp t (m, q) ≡ cond ((node == m) && (place == q)) b (contains placed_cmp s (m, q))
nodes_so s t node place b u m q = u.0 (m, q) ∙ ap (λ t. cond t b (contains placed_cmp s (m, q))) (same_push node place m q)

module _ (order new : BTreeMap ℕ ℕ) (places under : BTreeSet (ℕ × ℕ)) (node place : ℕ) (placed : ArePlaced order places) where
  pub placed_with : ((m : ℕ) → get nat_cmp order place ≡ Some m → ⊥) → Updates nat_cmp order new place (Some node) → KeyUpdates placed_cmp places under (node, place) true → ArePlaced new under
  placed_with none put set =
      put_placed (get nat_cmp order) (get nat_cmp new) (λ m q. contains placed_cmp places (m, q)) (λ m q. contains placed_cmp under (m, q)) node place placed none
      (numbers_so order new place (Some node) put) (nodes_so places under node place true set)

  pub placed_without : get nat_cmp order place ≡ Some node → Updates nat_cmp order new place None → KeyUpdates placed_cmp places under (node, place) false → ArePlaced new under
  placed_without there put set =
      gone_placed (get nat_cmp order) (get nat_cmp new) (λ m q. contains placed_cmp places (m, q)) (λ m q. contains placed_cmp under (m, q)) node place placed there
      (numbers_so order new place None put) (nodes_so places under node place false set)

-- a push that was put under its node alone, and taken out again
pub placed_undone : (order : BTreeMap ℕ ℕ) (places with without : BTreeSet (ℕ × ℕ)) (node place : ℕ) → ArePlaced order places → ((m : ℕ) → get nat_cmp order place ≡ Some m → ⊥)
    → KeyUpdates placed_cmp places with (node, place) true → KeyUpdates placed_cmp with without (node, place) false → ArePlaced order without
placed_undone order places with without node place placed none set unset q m = by_both (cases_eq place q) (cases_eq node m)
  where
    at_with : contains placed_cmp with (m, q) ≡ cond ((node == m) && (place == q)) true (contains placed_cmp places (m, q))
    at_with = nodes_so places with node place true set m q

    at_without : contains placed_cmp without (m, q) ≡ cond ((node == m) && (place == q)) false (contains placed_cmp with (m, q))
    at_without = nodes_so with without node place false unset m q

    no : (t : Bool) → t ≡ false → t ≡ true → ⊥
    no t is e = cc

    as_before : ((node == m) && (place == q)) ≡ false → contains placed_cmp without (m, q) ≡ contains placed_cmp places (m, q)
    as_before is = at_without ∙ unless ((node == m) && (place == q)) false (contains placed_cmp with (m, q)) is ∙ at_with ∙ unless ((node == m) && (place == q)) true (contains placed_cmp places (m, q)) is

    same : ((node == m) && (place == q)) ≡ false → (get nat_cmp order q ≡ Some m) ↔ (contains placed_cmp without (m, q) ≡ true)
    same is = (λ e. as_before is ∙ (placed q m).0 e, λ e. (placed q m).1 (sym (as_before is) ∙ e))

    by_both : (place ≡ q) ⊎ (place ≡ q → ⊥) → (node ≡ m) ⊎ (node ≡ m → ⊥) → (get nat_cmp order q ≡ Some m) ↔ (contains placed_cmp without (m, q) ≡ true)
    by_both (inl e) (inl f) =
        let gone = at_without ∙ when ((node == m) && (place == q)) false (contains placed_cmp with (m, q)) (and_from (node == m) (place == q) (eq-eqb node m f) (eq-eqb place q e)) in
        (λ h. absurd (none m (ap (get nat_cmp order) e ∙ h)), λ h. absurd (no (contains placed_cmp without (m, q)) gone h))
    by_both (inl e) (inr ne) = same (and_left (node == m) (place == q) (ne_eqb node m ne))
    by_both (inr ne) f = same (and_right (node == m) (place == q) (ne_eqb place q ne))

-- no push has the next number
pub none_next : (next : ℕ) (order : BTreeMap ℕ ℕ) → AreBelow next order → (m : ℕ) → get nat_cmp order next ≡ Some m → ⊥
none_next next order below m h = lt_irrefl next (below next m h)

pub below_put : (next : ℕ) (order new : BTreeMap ℕ ℕ) (node : ℕ) → AreBelow next order → Updates nat_cmp order new next (Some node) → AreBelow (next + 1) new
below_put next order new node below put place m h = by_place (cases_eq next place)
  where
    by_place : (next ≡ place) ⊎ (next ≡ place → ⊥) → place < next + 1
    by_place (inl e) = omega (arith, e)
    by_place (inr ne) =
        let old : get nat_cmp order place ≡ Some m = sym (numbers_so order new next (Some node) put place ∙ unless (next == place) (Some node) (get nat_cmp order place) (ne_eqb next place ne)) ∙ h in
        omega (arith, below place m old)

pub below_gone : (next : ℕ) (order new : BTreeMap ℕ ℕ) (place : ℕ) → AreBelow next order → Updates nat_cmp order new place None → AreBelow next new
below_gone next order new place below put q m h = by_place (cases_eq place q)
  where
    by_place : (place ≡ q) ⊎ (place ≡ q → ⊥) → q < next
    by_place (inl e) = absurd (none-some m (sym (numbers_so order new place None put q ∙ when (place == q) None (get nat_cmp order q) (eq-eqb place q e)) ∙ h))
    by_place (inr ne) = below q m (sym (numbers_so order new place None put q ∙ unless (place == q) None (get nat_cmp order q) (ne_eqb place q ne)) ∙ h)

-- ---- the names, in the order of the numbers

-- the node of a number
abbrev pub node_at : List (ℕ × ℕ) → ℕ → Option ℕ
node_at es place = lookup (is_at (nat_cmp place)) es

abbrev pub nodes_of : List (ℕ × ℕ) → List ℕ
nodes_of es = map (λ e. e.1) es

at_head : (e : ℕ × ℕ) (es : List (ℕ × ℕ)) (q : ℕ) → q ≡ e.0 → node_at (e ∷ es) q ≡ Some e.1
at_head e es q is = when (is_eq (nat_cmp q e.0)) (Some e.1) (node_at es q) (same_number q e.0 ∙ eq-eqb q e.0 is)

at_rest : (e : ℕ × ℕ) (es : List (ℕ × ℕ)) (q : ℕ) → (q ≡ e.0 → ⊥) → node_at (e ∷ es) q ≡ node_at es q
at_rest e es q ne = unless (is_eq (nat_cmp q e.0)) (Some e.1) (node_at es q) (same_number q e.0 ∙ ne_eqb q e.0 ne)

later : (k q n : ℕ) (es : List (ℕ × ℕ)) → AllByRecursion (λ y. nat_cmp k y ≡ Less) (keys_of es) → node_at es q ≡ Some n → k < q
later k q n [] all h = absurd (none-some n h)
later k q n (e ∷ es) all h = by_place (λ there. later k q n es all.1 there) (cases_eq q e.0)
  where
    by_place : (node_at es q ≡ Some n → k < q) → (q ≡ e.0) ⊎ (q ≡ e.0 → ⊥) → k < q
    by_place rest (inl is) = subst (λ x. k < x) (sym is) (ranked k e.0 Less (sym all.0))
    by_place rest (inr ne) = rest (sym (at_rest e es q ne) ∙ h)

module _ (e : ℕ × ℕ) (es : List (ℕ × ℕ)) (ascend : IsStrictlySortedBy nat_cmp (keys_of (e ∷ es))) where
  after_head : (q n : ℕ) → node_at es q ≡ Some n → e.0 < q
  after_head q n h = later e.0 q n es (sorted_head nat_cmp e.0 (keys_of es) ascend) h

  in_all : (q n : ℕ) → node_at es q ≡ Some n → node_at (e ∷ es) q ≡ Some n
  in_all q n h = at_rest e es q (λ is. lt_irrefl e.0 (subst (λ x. e.0 < x) is (after_head q n h))) ∙ h

first_is : (node m : ℕ) (ms : List ℕ) → m ≡ node → without_first node (m ∷ ms) ≡ ms
first_is node m ms is = ap (λ b. elim b [ true ↦ ms | false ↦ m ∷ without_first node ms ]) (eq-eqb m node is)

first_other : (node m : ℕ) (ms : List ℕ) → (m ≡ node → ⊥) → without_first node (m ∷ ms) ≡ m ∷ without_first node ms
first_other node m ms ne = ap (λ b. elim b [ true ↦ ms | false ↦ m ∷ without_first node ms ]) (ne_eqb m node ne)

-- the first push of a node goes
pub first_gone : (place node : ℕ) (es : List (ℕ × ℕ)) → IsStrictlySortedBy nat_cmp (keys_of es) → node_at es place ≡ Some node → ((q : ℕ) → node_at es q ≡ Some node → place ≤ q)
    → nodes_of (remove_entry (is_at (nat_cmp place)) es) ≡ without_first node (nodes_of es)
first_gone place node [] ascend there first = absurd (none-some node there)
first_gone place node (e ∷ es) ascend there first = by_place (λ rest. first_gone place node es (sorted_tail nat_cmp e.0 (keys_of es) ascend) rest (λ q h. first q (in_all e es ascend q node h))) (cases_eq place e.0)
  where
    by_place : (node_at es place ≡ Some node → nodes_of (remove_entry (is_at (nat_cmp place)) es) ≡ without_first node (nodes_of es)) → (place ≡ e.0) ⊎ (place ≡ e.0 → ⊥)
        → nodes_of (remove_entry (is_at (nat_cmp place)) (e ∷ es)) ≡ without_first node (e.1 ∷ nodes_of es)
    by_place others (inl is) =
        ap nodes_of (when (is_eq (nat_cmp place e.0)) es (e ∷ remove_entry (is_at (nat_cmp place)) es) (same_number place e.0 ∙ eq-eqb place e.0 is))
        ∙ sym (first_is node e.1 (nodes_of es) (same_Some e.1 node (sym (at_head e es place is) ∙ there)))
    by_place others (inr ne) =
        let rest : node_at es place ≡ Some node = sym (at_rest e es place ne) ∙ there in
        ap nodes_of (unless (is_eq (nat_cmp place e.0)) es (e ∷ remove_entry (is_at (nat_cmp place)) es) (same_number place e.0 ∙ ne_eqb place e.0 ne))
        ∙ ap (λ ms. e.1 ∷ ms) (others rest)
        ∙ sym (first_other node e.1 (nodes_of es)
        (λ is. lt_irrefl e.0 (lt_of_lt_of_le (after_head e es ascend place node rest) (first e.0 (at_head e es e.0 refl ∙ ap Some is)))))

pub holds_some : (place node : ℕ) (es : List (ℕ × ℕ)) → node_at es place ≡ Some node → holds_name node (nodes_of es) ≡ true
holds_some place node [] there = absurd (none-some node there)
holds_some place node (e ∷ es) there = by_place (λ rest. holds_some place node es rest) (cases_eq place e.0)
  where
    or_true : (b : Bool) → (b || true) ≡ true
    or_true true = refl
    or_true false = refl

    by_place : (node_at es place ≡ Some node → holds_name node (nodes_of es) ≡ true) → (place ≡ e.0) ⊎ (place ≡ e.0 → ⊥) → holds_name node (e.1 ∷ nodes_of es) ≡ true
    by_place others (inl is) = ap (λ b. b || holds_name node (nodes_of es)) (eq-eqb e.1 node (same_Some e.1 node (sym (at_head e es place is) ∙ there)))
    by_place others (inr ne) = ap (λ b. (e.1 == node) || b) (others (sym (at_rest e es place ne) ∙ there)) ∙ or_true (e.1 == node)

pub holds_none : (node : ℕ) (es : List (ℕ × ℕ)) → IsStrictlySortedBy nat_cmp (keys_of es) → ((q : ℕ) → node_at es q ≡ Some node → ⊥) → holds_name node (nodes_of es) ≡ false
holds_none node [] ascend none = refl
holds_none node (e ∷ es) ascend none =
    ap (λ b. b || holds_name node (nodes_of es)) (ne_eqb e.1 node (λ is. none e.0 (at_head e es e.0 refl ∙ ap Some is)))
    ∙ holds_none node es (sorted_tail nat_cmp e.0 (keys_of es) ascend) (λ q h. none q (in_all e es ascend q node h))

pub none_first : (node : ℕ) (ms : List ℕ) → holds_name node ms ≡ false → without_first node ms ≡ ms
none_first node [] is = refl
none_first node (m ∷ ms) is = by_name (λ none. none_first node ms none) (cases_eq m node)
  where
    no : (m == node) ≡ true → ⊥
    no e = cc

    rest : (m == node) ≡ false → holds_name node ms ≡ false
    rest e = sym (ap (λ b. b || holds_name node ms) e) ∙ is

    by_name : (holds_name node ms ≡ false → without_first node ms ≡ ms) → (m ≡ node) ⊎ (m ≡ node → ⊥) → without_first node (m ∷ ms) ≡ m ∷ ms
    by_name others (inl e) = absurd (no (eq-eqb m node e))
    by_name others (inr ne) = first_other node m ms ne ∙ ap (λ ns. m ∷ ns) (others (rest (ne_eqb m node ne)))

-- a push with a number above the others' is the last one
last_entry : (next node : ℕ) (es : List (ℕ × ℕ)) → IsStrictlySortedBy nat_cmp (keys_of es) → ((q n : ℕ) → node_at es q ≡ Some n → q < next) → insert_entry nat_cmp es next node ≡ es ++ (next, node) ∷ []
last_entry next node [] ascend below = refl
last_entry next node (e ∷ es) ascend below =
    ap (λ o. match_ordering o ((next, node) ∷ e ∷ es) ((e.0, node) ∷ es) (e ∷ insert_entry nat_cmp es next node)) greater
    ∙ ap (λ fs. e ∷ fs) (last_entry next node es (sorted_tail nat_cmp e.0 (keys_of es) ascend) (λ q n h. below q n (in_all e es ascend q n h)))
  where
    greater : nat_cmp next e.0 ≡ Greater
    greater = let lt : e.0 < next = below e.0 e.1 (at_head e es e.0 refl) in grind (arith, nat_tests)

nodes_append : (es fs : List (ℕ × ℕ)) → nodes_of (es ++ fs) ≡ nodes_of es ++ nodes_of fs
nodes_append [] fs = refl
nodes_append (e ∷ es) fs = ap (λ ms. e.1 ∷ ms) (nodes_append es fs)

pub pushed_last : (next node : ℕ) (es : List (ℕ × ℕ)) → IsStrictlySortedBy nat_cmp (keys_of es) → ((q n : ℕ) → node_at es q ≡ Some n → q < next) → nodes_of (insert_entry nat_cmp es next node) ≡ nodes_of es ++ node ∷ []
pushed_last next node es ascend below = ap nodes_of (last_entry next node es ascend below) ∙ nodes_append es ((next, node) ∷ [])

-- a map with the same entries
module _ (order new : BTreeMap ℕ ℕ) (same : order.entries ≡ new.entries) where
  as_before : (place : ℕ) → get nat_cmp order place ≡ get nat_cmp new place
  as_before place = ap (λ es. node_at es place) same

  pub below_same : (next : ℕ) → AreBelow next order → AreBelow next new
  below_same next below place node h = below place node (as_before place ∙ h)

  pub placed_same : (places : BTreeSet (ℕ × ℕ)) → ArePlaced order places → ArePlaced new places
  placed_same places placed place node = (λ h. (placed place node).0 (as_before place ∙ h), λ h. sym (as_before place) ∙ (placed place node).1 h)

-- ---- the pushes of a node, from the least number on

not_after : (b d : ℕ) → is_gt (nat_cmp b d) ≡ false → b ≤ d
not_after b d is = by_order (nat_cmp b d) refl is
  where
    by_order : (o : Ordering) → o ≡ nat_cmp b d → is_gt o ≡ false → b ≤ d
    by_order Less e is = let lt : b < d = ranked b d Less e in omega arith
    by_order Equal e is = let same : b ≡ d = ranked b d Equal e in omega arith
    by_order Greater e is = cc

parts_in_order : (p r : ℕ × ℕ) → is_gt (placed_cmp p r) ≡ false → (p.0 ≤ r.0) × (p.0 ≡ r.0 → p.1 ≤ r.1)
parts_in_order p r is = by_first (nat_cmp p.0 r.0) refl is
  where
    by_first : (o : Ordering) → o ≡ nat_cmp p.0 r.0 → is_gt (ordering_then o (nat_cmp p.1 r.1)) ≡ false → (p.0 ≤ r.0) × (p.0 ≡ r.0 → p.1 ≤ r.1)
    by_first Less e is = let lt : p.0 < r.0 = ranked p.0 r.0 Less e in (omega arith, λ same. absurd (lt_irrefl p.0 (omega arith)))
    by_first Equal e is = let same : p.0 ≡ r.0 = ranked p.0 r.0 Equal e in (omega arith, λ _. not_after p.1 r.1 is)
    by_first Greater e is = cc

from_least : (node place : ℕ) → IsInRange placed_cmp (Included (node, 0)) Unbounded (node, place)
from_least node place = (ap (λ o. is_gt (ordering_then o (nat_cmp 0 place))) (tied_itself nat_cmp_total node) ∙ least place, tt)
  where
    least : (place : ℕ) → is_gt (nat_cmp 0 place) ≡ false
    least place = grind (arith, nat_tests)

module _ (order : BTreeMap ℕ ℕ) (places : BTreeSet (ℕ × ℕ)) (node : ℕ) (placed : ArePlaced order places) where
  pub none_found : IsKeyRangeOf placed_cmp (Included (node, 0)) Unbounded places [] → (place : ℕ) → get nat_cmp order place ≡ Some node → ⊥
  none_found range place h = no (contains placed_cmp places (node, place)) (range.5 refl (node, place) (from_least node place)) ((placed place node).0 h)
    where
      no : (t : Bool) → t ≡ false → t ≡ true → ⊥
      no t is e = cc

  module _ (p : ℕ × ℕ) (rest : List (ℕ × ℕ)) (range : IsKeyRangeOf placed_cmp (Included (node, 0)) Unbounded places (p ∷ rest)) where
    not_before : (place : ℕ) → get nat_cmp order place ≡ Some node → is_gt (placed_cmp p (node, place)) ≡ false
    not_before place h = range.2 (node, place) (from_least node place) ((placed place node).0 h)

    pub first_found : p.0 ≡ node → (get nat_cmp order p.1 ≡ Some node) × ((other : ℕ) → get nat_cmp order other ≡ Some node → p.1 ≤ other)
    first_found is = ((placed p.1 p.0).1 range.1.1 ∙ ap Some is, λ other h. (parts_in_order p (node, other) (not_before other h)).1 is)

    pub other_found : (p.0 ≡ node → ⊥) → (place : ℕ) → get nat_cmp order place ≡ Some node → ⊥
    other_found ne place h = ne (le_antisymm (parts_in_order p (node, place) (not_before place h)).0 (parts_in_order (node, 0) p range.1.0.0).0)
