-- Counts of nodes, with one more.
use Rattle.std.proofs.Common.{◌≡◌, ℕ, ◌+◌, ◌<◌, ◌≤◌, ◌++◌, ◌∷◌, [], List, length, Bool, true, false, cond, not, ◌&&◌, nat_lt, Option, Some, None, refl, sym, ap, ◌∙◌, subst, arith}
use Rattle.std.specs.Prelude.{count_by, unwrap_or}
use Rattle.std.proofs.lemmas.Bool.Decides.{nat_tests}
use Rattle.std.proofs.lemmas.List.Sums.{count_by-le-length, sum_by-append}
use Rattle.kube_objects.specs.declared.node.Node.{Node}
use Rattle.kube_objects.specs.Entry.{Place as Zone}
use Rattle.kube_objects.specs.Modes.{is_in, is_ready, place_of, place_eq, ready_in, other_in, size_in}
use Rattle.kube_objects.specs.Newest.{has}
use Rattle.tick_laws.proofs.Orders.{same_place}
use Rattle.zone_counts.specs.declared.counts.Count.{Count}
use Rattle.zone_counts.specs.declared.counts.Counts.{Counts}
use Rattle.zone_counts.specs.Counted.{CountsStand, and_one, count_at, one_more, ready_at, others_at}

abbrev pub none : Count
none = record { ready = 0; others = 0 }

-- a zone without a count is one without nodes
pub and_first : (ready : Bool) (x : Option Count) → and_one ready (Some (unwrap_or x none)) ≡ and_one ready x
and_first true None = refl
and_first false None = refl
and_first true (Some x) = refl
and_first false (Some x) = refl

-- ---- one more node

abbrev one_if : Bool → ℕ
one_if b = cond b 1 0

count_more : {A : Type 0} (f : A → Bool) (xs : List A) (x : A) → count_by f (xs ++ x ∷ []) ≡ count_by f xs + one_if (f x)
count_more f xs x = sum_by-append (λ x. cond (f x) 1 0) xs (x ∷ []) ∙ ap (λ n. count_by f xs + n) (more (f x))
  where
    more : (b : Bool) → 0 + cond b 1 0 ≡ one_if b
    more true = refl
    more false = refl

fits : (n m : ℕ) → n ≤ m → m + 1 < 4294967296 → one_more n ≡ n + 1
fits n m less few = grind (arith, nat_tests, less, few)

-- what a zone's count says of some nodes
record Says (x : Option Count) (place : Zone) (nodes : List Node) : Type 0 where
  there : has x ≡ nat_lt 0 (size_in place nodes)
  ready : ready_at x ≡ ready_in place nodes
  others : others_at x ≡ other_in place nodes

positive : (n : ℕ) → true ≡ nat_lt 0 (n + 1)
positive n = grind (arith, nat_tests)

here : (x : Option Count) (place : Zone) (nodes : List Node) (node : Node) (r : Bool) → is_in place node ≡ true → is_ready node.ready ≡ r
    → length nodes + 1 < 4294967296 → Says x place nodes → Says (Some (and_one r x)) place (nodes ++ node ∷ [])
here x place nodes node true at is few s =
    record {
      there = positive (size_in place nodes) ∙ ap (λ n. nat_lt 0 n) (sym (count_more (is_in place) nodes node ∙ ap (λ b. size_in place nodes + one_if b) at));
      ready = fits (ready_at x) (length nodes) (subst (λ n. n ≤ length nodes) (sym s.ready) (count_by-le-length _ nodes)) few
          ∙ ap (λ n. n + 1) s.ready ∙ sym (count_more _ nodes node ∙ ap (λ b. ready_in place nodes + one_if b) (ap (λ b. b && is_ready node.ready) at ∙ is));
      others = s.others ∙ sym (count_more _ nodes node ∙ ap (λ b. other_in place nodes + one_if b) (ap (λ b. b && not (is_ready node.ready)) at ∙ ap not is) ∙ zero_more (other_in place nodes));
    }
  where
    zero_more : (n : ℕ) → n + 0 ≡ n
    zero_more n = omega (arith)
here x place nodes node false at is few s =
    record {
      there = positive (size_in place nodes) ∙ ap (λ n. nat_lt 0 n) (sym (count_more (is_in place) nodes node ∙ ap (λ b. size_in place nodes + one_if b) at));
      ready = s.ready ∙ sym (count_more _ nodes node ∙ ap (λ b. ready_in place nodes + one_if b) (ap (λ b. b && is_ready node.ready) at ∙ is) ∙ zero_more (ready_in place nodes));
      others = fits (others_at x) (length nodes) (subst (λ n. n ≤ length nodes) (sym s.others) (count_by-le-length _ nodes)) few
          ∙ ap (λ n. n + 1) s.others ∙ sym (count_more _ nodes node ∙ ap (λ b. other_in place nodes + one_if b) (ap (λ b. b && not (is_ready node.ready)) at ∙ ap not is));
    }
  where
    zero_more : (n : ℕ) → n + 0 ≡ n
    zero_more n = omega (arith)

elsewhere : (x : Option Count) (place : Zone) (nodes : List Node) (node : Node) → is_in place node ≡ false → Says x place nodes → Says x place (nodes ++ node ∷ [])
elsewhere x place nodes node at s =
    record {
      there = s.there ∙ ap (λ n. nat_lt 0 n) (sym (same (is_in place) at));
      ready = s.ready ∙ sym (same _ (ap (λ b. b && is_ready node.ready) at));
      others = s.others ∙ sym (same _ (ap (λ b. b && not (is_ready node.ready)) at));
    }
  where
    zero_more : (n : ℕ) → n + 0 ≡ n
    zero_more n = omega (arith)

    same : (f : Node → Bool) → f node ≡ false → count_by f (nodes ++ node ∷ []) ≡ count_by f nodes
    same f fails = count_more f nodes node ∙ ap (λ b. count_by f nodes + one_if b) fails ∙ zero_more (count_by f nodes)

says_at : (nodes : List Node) (c : Counts) → CountsStand nodes c → (place : Zone) → Says (count_at c place) place nodes
says_at nodes c s place = record { there = s.there place; ready = s.ready place; others = s.others place }

-- one more node is counted
pub stands_more : (nodes : List Node) (node : Node) (old new : Counts) → CountsStand nodes old → length nodes + 1 < 4294967296
    → ((other : Zone) → count_at new other
    ≡ cond (place_eq (place_of node) other) (Some (and_one (is_ready node.ready) (count_at old (place_of node)))) (count_at old other))
    → CountsStand (nodes ++ node ∷ []) new
stands_more nodes node old new s few counted = record { there = λ p. (says p).there; ready = λ p. (says p).ready; others = λ p. (says p).others }
  where
    by_place : (place : Zone) (b : Bool) → is_in place node ≡ b
        → Says (cond b (Some (and_one (is_ready node.ready) (count_at old (place_of node)))) (count_at old place)) place (nodes ++ node ∷ [])
    by_place place true at =
        let same : place_of node ≡ place = same_place (place_of node) place at in
        subst (λ p. Says (Some (and_one (is_ready node.ready) (count_at old p))) place (nodes ++ node ∷ [])) (sym same)
        (here (count_at old place) place nodes node (is_ready node.ready) at refl few (says_at nodes old s place))
    by_place place false at = elsewhere (count_at old place) place nodes node at (says_at nodes old s place)

    says : (place : Zone) → Says (count_at new place) place (nodes ++ node ∷ [])
    says place = subst (λ x. Says x place (nodes ++ node ∷ [])) (sym (counted place)) (by_place place (is_in place node) refl)
