-- The pushes of zones while a pass is judged, node by node.
use Rattle.std.proofs.Common.{◌≡◌, ◌∙◌, ◌+◌, ◌==◌, ◌&&◌, ◌||◌, inl, inr, ℕ, nat_lt, Bool, true, false, cond, List, [], ◌∷◌, Option, Some, None, refl, sym, ap, subst, arith}
use Rattle.std.specs.Prelude.{if◌then◌else◌}
use Rattle.std.proofs.lemmas.Bool.Decides.{nat_tests}
use Rattle.std.proofs.lemmas.List.Sums.{sum_by-cons}
use Rattle.kube_base.specs.declared.numbers.Version.{Version}
use Rattle.kube_objects.specs.declared.node.Node.{Node}
use Rattle.kube_objects.specs.declared.rules.QueueRule.{QueueRule}
use Rattle.kube_objects.specs.Document.{Doc}
use Rattle.kube_objects.specs.Entry.{Entry, Identity, Place}
use Rattle.kube_objects.specs.Judgement.{Passed, Verdict, counts, counts_by, has_turned_on, queue_node, queue_pass, queue_verdict, verdict, verdict_in, verdict_of}
use Rattle.kube_objects.specs.Modes.{and_node, is_in, nodes_among, place_of, size_in}
use Rattle.kube_objects.specs.Newest.{or_else}
use Rattle.kube_objects.specs.Seen.{node_names, seen_node}
use Rattle.kube_objects.specs.Tokens.{is_zone}
use Rattle.taint_zones.specs.Places.{of_place, zone_eq}
use Rattle.taint_zones.specs.Pushing.{counted_at, pushed_at}
use Rattle.taint_zones.specs.declared.place.Place as zones
use Rattle.taint_zones.specs.declared.pushes.ZonePushes.{ZonePushes}
use Rattle.tick_laws.specs.Walks.{Among}
use Rattle.tick_laws.proofs.Named.{node_is_named}
use Rattle.controller_core.specs.Pushing.{JudgingStand, counted_before, is_left}
use Rattle.controller_core.specs.Verdicts.{counts_after}

-- ---- the zone of a node that is seen

first_counts : (n : ℕ) → nat_lt 0 (1 + n) ≡ true
first_counts n = grind (arith, nat_tests)

more : (n : ℕ) (m : ℕ) → nat_lt 0 n ≡ true → nat_lt 0 (m + n) ≡ true
more n m is = grind (arith, nat_tests, is)

pub zone_there : (q : Identity) (h : List Entry) (place : Place) (n : ℕ) (y : Version × Node) → seen_node q n h ≡ Some y → is_in place y.1 ≡ true → is_zone q place h ≡ true
zone_there q h place n y sees inside = among (node_names h) (node_is_named q n h y sees)
  where
    among : (names : List ℕ) → Among n names → nat_lt 0 (size_in place (nodes_among q names h)) ≡ true
    among [] there = absurd there
    among (m ∷ ms) (inl is) = ap (λ o. nat_lt 0 (size_in place (and_node o (nodes_among q ms h)))) (ap (λ m. seen_node q m h) (sym is) ∙ sees)
        ∙ ap (nat_lt 0) (sum_by-cons (λ x. cond (is_in place x) 1 0) y.1 (nodes_among q ms h) ∙ ap (λ b. cond b 1 0 + size_in place (nodes_among q ms h)) inside)
        ∙ first_counts (size_in place (nodes_among q ms h))
    among (m ∷ ms) (inr there) = by_node (seen_node q m h) (among ms there)
      where
        by_node : (o : Option (Version × Node)) → nat_lt 0 (size_in place (nodes_among q ms h)) ≡ true → nat_lt 0 (size_in place (and_node o (nodes_among q ms h))) ≡ true
        by_node None is = is
        by_node (Some x) is = ap (nat_lt 0) (sum_by-cons (λ x. cond (is_in place x) 1 0) x.1 (nodes_among q ms h)) ∙ more (size_in place (nodes_among q ms h)) (cond (is_in place x.1) 1 0) is

-- ---- one node more

-- what the code made of the pushes by a node's verdict
pub record IsQueued (rule : QueueRule) (turned : Bool) (zone : zones.Place) (name : ℕ) (v : Verdict) (old new : ZonePushes) : Type 0 where
  pub names : (at : zones.Place) → pushed_at new at ≡ (if zone_eq zone at then queue_verdict rule turned (counted_at old at name) name v (pushed_at old at) else pushed_at old at)
  pub counts : (at : zones.Place) (other : ℕ) → counted_at new at other ≡ (if zone_eq zone at && (name == other) then counts_after turned v (counted_at old at other) else counted_at old at other)

module _ (doc : Doc) (q : Identity) (x : Passed) (xs : List Passed) (name : ℕ) (rest : List ℕ) (old new : ZonePushes) (s : JudgingStand doc q x xs (name ∷ rest) old) (last : is_left rest name ≡ false)
    (y : Version × Node) (sees : seen_node q name x.before ≡ Some y) (queued : IsQueued doc.settings.rules.queue (has_turned_on q x) (of_place (place_of y.1)) name (verdict doc q name x y.1) old new) where
  same : (name == name) ≡ true
  same = grind (arith, nat_tests)

  counted_first : (place : Place) → counted_at old (of_place place) name ≡ counted_before doc q place name x xs
  counted_first place = s.counts place name ∙ ap (λ b. cond (b || is_left rest name) (counted_before doc q place name x xs) (counts doc q place name (x ∷ xs))) same

  verdict_here : (place : Place) → verdict_of doc q place name x ≡ (if is_in place y.1 then Some (verdict doc q name x y.1) else None)
  verdict_here place = ap (verdict_in doc q place name x) sees

  counted_there : (place : Place) → is_in place y.1 ≡ true → counted_at old (of_place place) name ≡ counts doc q place name xs
  counted_there place inside = counted_first place ∙ ap (λ b. cond b (counts doc q place name xs) false) (zone_there q x.before place name y sees inside)

  abbrev verdict_if : Bool → Option Verdict
  verdict_if inside = if inside then Some (verdict doc q name x y.1) else None

  names_next : (place : Place) → pushed_at new (of_place place)
      ≡ queue_node doc.settings.rules.queue (has_turned_on q x) (counts doc q place name xs) name (verdict_of doc q place name x) (pushed_at old (of_place place))
  names_next place =
      queued.names (of_place place)
      ∙ by_place (is_in place y.1) refl
      ∙ sym (ap (λ v. queue_node doc.settings.rules.queue (has_turned_on q x) (counts doc q place name xs) name v (pushed_at old (of_place place))) (verdict_here place))
    where
      by_place : (inside : Bool) → is_in place y.1 ≡ inside
          → (if inside then queue_verdict doc.settings.rules.queue (has_turned_on q x) (counted_at old (of_place place) name) name (verdict doc q name x y.1) (pushed_at old (of_place place))
          else pushed_at old (of_place place))
          ≡ queue_node doc.settings.rules.queue (has_turned_on q x) (counts doc q place name xs) name (verdict_if inside) (pushed_at old (of_place place))
      by_place true is =
          ap (λ c. queue_verdict doc.settings.rules.queue (has_turned_on q x) c name (verdict doc q name x y.1) (pushed_at old (of_place place))) (counted_there place is)
      by_place false is = refl

  counts_next : (place : Place) → counted_at new (of_place place) name ≡ counts doc q place name (x ∷ xs)
  counts_next place =
      queued.counts (of_place place) name
      ∙ ap (λ b. (if is_in place y.1 && b then counts_after (has_turned_on q x) (verdict doc q name x y.1) (counted_at old (of_place place) name) else counted_at old (of_place place) name)) same
      ∙ by_place (is_in place y.1) refl
      ∙ sym (ap by_verdict (verdict_here place))
    where
      by_verdict : Option Verdict → Bool
      by_verdict v =
          elim (is_zone q place x.before) [
            | true ↦ elim (counts_by (has_turned_on q x) v) [ None ↦ counts doc q place name xs | Some b ↦ b ]
            | false ↦ false
          ]

      by_counts : (o : Option Bool) (b : Bool) → or_else b o ≡ elim o [ None ↦ b | Some c ↦ c ]
      by_counts None b = refl
      by_counts (Some c) b = refl

      by_zone : (b c : Bool) → cond b c false ≡ elim b [ true ↦ c | false ↦ false ]
      by_zone true c = refl
      by_zone false c = refl

      by_place : (inside : Bool) → is_in place y.1 ≡ inside
          → (if inside && true then counts_after (has_turned_on q x) (verdict doc q name x y.1) (counted_at old (of_place place) name) else counted_at old (of_place place) name)
          ≡ by_verdict (verdict_if inside)
      by_place true is =
          ap (counts_after (has_turned_on q x) (verdict doc q name x y.1)) (counted_there place is)
          ∙ by_counts (counts_by (has_turned_on q x) (Some (verdict doc q name x y.1))) (counts doc q place name xs)
          ∙ sym (ap (λ b. elim b [ true ↦ elim (counts_by (has_turned_on q x) (Some (verdict doc q name x y.1))) [ None ↦ counts doc q place name xs | Some b ↦ b ] | false ↦ false ]) (zone_there q x.before place name y sees is))
      by_place false is = counted_first place ∙ by_zone (is_zone q place x.before) (counts doc q place name xs)

  counts_others : (place : Place) (n : ℕ) (b : Bool) → (name == n) ≡ b → counted_at new (of_place place) n ≡ cond (is_left rest n) (counted_before doc q place n x xs) (counts doc q place n (x ∷ xs))
  counts_others place n true is =
      let equal : name ≡ n = grind (arith, nat_tests, is) in
      subst (λ n. counted_at new (of_place place) n ≡ cond (is_left rest n) (counted_before doc q place n x xs) (counts doc q place n (x ∷ xs))) equal
      (counts_next place ∙ sym (ap (λ b. cond b (counted_before doc q place name x xs) (counts doc q place name (x ∷ xs))) last))
  counts_others place n false is =
      queued.counts (of_place place) n
      ∙ ap (λ b. (if is_in place y.1 && b then counts_after (has_turned_on q x) (verdict doc q name x y.1) (counted_at old (of_place place) n) else counted_at old (of_place place) n)) is
      ∙ by_place (is_in place y.1)
      ∙ s.counts place n
      ∙ ap (λ b. cond (b || is_left rest n) (counted_before doc q place n x xs) (counts doc q place n (x ∷ xs))) is
    where
      by_place : (inside : Bool) → (if inside && false then counts_after (has_turned_on q x) (verdict doc q name x y.1) (counted_at old (of_place place) n) else counted_at old (of_place place) n) ≡ counted_at old (of_place place) n
      by_place true = refl
      by_place false = refl

  pub judging_next : JudgingStand doc q x xs rest new
  judging_next =
      record {
        names = λ place. ap (queue_pass doc q place x xs rest) (names_next place) ∙ s.names place;
        counts = λ place n. counts_others place n (name == n) refl;
      }
