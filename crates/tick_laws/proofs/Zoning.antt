-- The zones of the nodes that a term sees, and what the entries of a pass say of zones.
use Rattle.std.proofs.Common.{◌≡◌, ◌∙◌, inl, inr, ℕ, ◌+◌, ◌&&◌, ◌++◌, not, Bool, true, false, cond, List, [], ◌∷◌, map, Option, Some, None, refl, sym, ap, subst, Less, arith}
use Rattle.std.specs.Prelude.{count_by}
use Rattle.std.specs.Ordering.{nat_cmp}
use Rattle.std.proofs.lemmas.List.Sums.{sum_by-cons}
use Rattle.kube_base.specs.declared.numbers.Version.{Version}
use Rattle.kube_objects.specs.declared.node.Node.{Node}
use Rattle.kube_objects.specs.declared.node.ZoneState.{ZoneState}
use Rattle.kube_objects.specs.Document.{Doc}
use Rattle.kube_objects.specs.Entry.{Entry, Identity, Place, Pass, Zone, Mode}
use Rattle.kube_objects.specs.Modes.{nodes_among, and_node, nodes, place_of, place_cmp, place_eq, is_in, is_ready, places, ready_in, other_in, size_in}
use Rattle.kube_objects.specs.Newest.{newest, has, when, only_if, join, or_zero}
use Rattle.kube_objects.specs.Seen.{seen_node, node_names, insert_once}
use Rattle.kube_objects.specs.Tick.{add}
use Rattle.kube_objects.specs.Stored.{node_key}
use Rattle.kube_objects.specs.Tokens.{Rated, rated_says, rated, is_zone, has_rate, is_base, base, fills_zone, grown, is_full, is_there}
use Rattle.watch_cache.specs.Told.{AreNamed}
use Rattle.watch_cache.proofs.Frames.{upper}
use Rattle.watch_cache.proofs.Ticks.{same_self}
use Rattle.tick_laws.specs.Walks.{Among, Above, Ascends, is_after, after}
use Rattle.tick_laws.proofs.Frames.{kept_node, same_node, pass_change, zone_change, mode_change}
use Rattle.tick_laws.proofs.Marking.{AreLeft, all_left, KeepsPlaces, between_fails, first_later, first_passes, next_left, place_seen}
use Rattle.tick_laws.proofs.Named.{node_names_ascend, node_is_named}
use Rattle.tick_laws.proofs.Orders.{names_strict}
use Rattle.tick_laws.proofs.Walks.{above_less, after_above, after_it, after_none, not_before, not_itself}

-- ---- the nodes that are seen, by a list of just their names

module _ (q : Identity) (h : List Entry) where
  unseen_less : (o : Option (Version × Node)) (ns : List Node) → has o ≡ false → and_node o ns ≡ ns
  unseen_less None ns is = refl
  unseen_less (Some x) ns is = absurd (cc)

  among_next : (c : Option ℕ) (n : ℕ) (names : List ℕ) → is_after nat_cmp c n ≡ true → Ascends nat_cmp names → Among n names
      → ((m : ℕ) → is_after nat_cmp c m ≡ true → nat_cmp m n ≡ Less → has (seen_node q m h) ≡ false)
      → nodes_among q (after nat_cmp c names) h ≡ and_node (seen_node q n h) (nodes_among q (after nat_cmp (Some n) names) h)
  among_next c n [] later ascends there unseen = absurd there
  among_next c n (m ∷ ms) later ascends (inl is) unseen =
      subst (λ m. Above nat_cmp m ms → nodes_among q (after nat_cmp c (m ∷ ms)) h ≡ and_node (seen_node q n h) (nodes_among q (after nat_cmp (Some n) (m ∷ ms)) h)) is here ascends.0
    where
      here : Above nat_cmp n ms → nodes_among q (after nat_cmp c (n ∷ ms)) h ≡ and_node (seen_node q n h) (nodes_among q (after nat_cmp (Some n) (n ∷ ms)) h)
      here above =
          ap (λ b. nodes_among q (cond b (n ∷ ms) (after nat_cmp c ms)) h) later
          ∙ ap (λ xs. and_node (seen_node q n h) (nodes_among q xs h)) (sym (after_it nat_cmp names_strict n ms above))
          ∙ ap (λ b. and_node (seen_node q n h) (nodes_among q (cond b (n ∷ ms) (after nat_cmp (Some n) ms)) h)) (sym (not_itself nat_cmp names_strict n))
  among_next c n (m ∷ ms) later ascends (inr there) unseen =
      by_test (is_after nat_cmp c m) refl
      ∙ among_next c n ms later ascends.1 there unseen
      ∙ ap (λ b. and_node (seen_node q n h) (nodes_among q (cond b (m ∷ ms) (after nat_cmp (Some n) ms)) h)) (sym (not_before nat_cmp names_strict m n below))
    where
      below : nat_cmp m n ≡ Less
      below = above_less nat_cmp names_strict n m ms there ascends.0

      by_test : (b : Bool) → is_after nat_cmp c m ≡ b → nodes_among q (cond b (m ∷ ms) (after nat_cmp c ms)) h ≡ nodes_among q (after nat_cmp c ms) h
      by_test false test = refl
      by_test true test =
          unseen_less (seen_node q m h) (nodes_among q ms h) (unseen m test below)
          ∙ ap (λ xs. nodes_among q xs h) (sym (after_above nat_cmp names_strict c m ms test ascends.0))

  among_end : (c : Option ℕ) (names : List ℕ) → Ascends nat_cmp names → ((m : ℕ) → is_after nat_cmp c m ≡ true → has (seen_node q m h) ≡ false)
      → nodes_among q (after nat_cmp c names) h ≡ []
  among_end c [] ascends unseen = refl
  among_end c (m ∷ ms) ascends unseen = by_test (is_after nat_cmp c m) refl ∙ among_end c ms ascends.1 unseen
    where
      by_test : (b : Bool) → is_after nat_cmp c m ≡ b → nodes_among q (cond b (m ∷ ms) (after nat_cmp c ms)) h ≡ nodes_among q (after nat_cmp c ms) h
      by_test false test = refl
      by_test true test =
          unseen_less (seen_node q m h) (nodes_among q ms h) (unseen m test)
          ∙ ap (λ xs. nodes_among q xs h) (sym (after_above nat_cmp names_strict c m ms test ascends.0))

  among_left : (c : Option ℕ) (rest : List ℕ) → AreLeft (λ n. has (seen_node q n h)) c rest → nodes_among q (after nat_cmp c (node_names h)) h ≡ nodes_among q rest h
  among_left c [] left = among_end c (node_names h) (node_names_ascend h) (λ m later. sym (left.named m later))
  among_left c (n ∷ ns) left =
      among_next c n (node_names h) (first_later _ c n ns left) (node_names_ascend h) (there (seen_node q n h) refl) (between_fails _ c n ns left)
      ∙ ap (and_node (seen_node q n h)) (among_left (Some n) ns (next_left _ c n ns left))
    where
      there : (o : Option (Version × Node)) → seen_node q n h ≡ o → Among n (node_names h)
      there None is = absurd (by_false (sym (first_passes (λ n. has (seen_node q n h)) c n ns left) ∙ ap has is))
        where
          by_false : true ≡ false → ⊥
          by_false is = cc
      there (Some x) is = node_is_named q n h x is

  pub nodes_of_seen : (names : List ℕ) → AreNamed (λ n. has (seen_node q n h)) names → nodes q h ≡ nodes_among q names h
  nodes_of_seen names s =
      ap (λ ns. nodes_among q ns h) (sym (after_none nat_cmp names_strict (node_names h))) ∙ among_left None names (all_left _ names s)

  -- one more name
  pub among_more : (names : List ℕ) (n : ℕ) (x : Version × Node) → seen_node q n h ≡ Some x → nodes_among q (names ++ n ∷ []) h ≡ nodes_among q names h ++ x.1 ∷ []
  among_more [] n x is = ap (λ o. and_node o []) is
  among_more (m ∷ ms) n x is = ap (and_node (seen_node q m h)) (among_more ms n x is) ∙ by_node (seen_node q m h)
    where
      by_node : (o : Option (Version × Node)) → and_node o (nodes_among q ms h ++ x.1 ∷ []) ≡ and_node o (nodes_among q ms h) ++ x.1 ∷ []
      by_node None = refl
      by_node (Some y) = refl

-- ---- zones are kept where the places of nodes are

abbrev pub and_place : Option Place → List Place → List Place
and_place None ps = ps
and_place (Some p) ps = p ∷ ps

abbrev places_among : (q : Identity) (names : List ℕ) (h : List Entry) → List Place
places_among q [] h = []
places_among q (name ∷ names) h = and_place (place_seen (seen_node q name h)) (places_among q names h)

mapped : (q : Identity) (names : List ℕ) (h : List Entry) → map place_of (nodes_among q names h) ≡ places_among q names h
mapped q [] h = refl
mapped q (name ∷ names) h = by_node (seen_node q name h) ∙ ap (and_place (place_seen (seen_node q name h))) (mapped q names h)
  where
    by_node : (o : Option (Version × Node)) → map place_of (and_node o (nodes_among q names h)) ≡ and_place (place_seen o) (map place_of (nodes_among q names h))
    by_node None = refl
    by_node (Some x) = refl

same_among : (q : Identity) (names : List ℕ) (h g : List Entry) → ((m : ℕ) → place_seen (seen_node q m g) ≡ place_seen (seen_node q m h)) → places_among q names g ≡ places_among q names h
same_among q [] h g same = refl
same_among q (name ∷ names) h g same =
    ap (λ p. and_place p (places_among q names g)) (same name) ∙ ap (and_place (place_seen (seen_node q name h))) (same_among q names h g same)

-- the places of the nodes in order
pub nodes_placed : (q : Identity) (h g : List Entry) → KeepsPlaces q h g → map place_of (nodes q g) ≡ map place_of (nodes q h)
nodes_placed q h g s =
    mapped q (node_names g) g ∙ same_among q (node_names g) h g s.places ∙ ap (λ ns. places_among q ns h) s.names ∙ sym (mapped q (node_names h) h)

abbrev places_by : List Place → List Place
places_by [] = []
places_by (p ∷ ps) = insert_once place_cmp p (places_by ps)

places_are : (ns : List Node) → places ns ≡ places_by (map place_of ns)
places_are [] = refl
places_are (n ∷ ns) = ap (insert_once place_cmp (place_of n)) (places_are ns)

pub places_kept : (q : Identity) (h g : List Entry) → KeepsPlaces q h g → places (nodes q g) ≡ places (nodes q h)
places_kept q h g s = places_are (nodes q g) ∙ ap places_by (nodes_placed q h g s) ∙ sym (places_are (nodes q h))

size_by : (place : Place) (ns : List Node) → size_in place ns ≡ count_by (λ p. place_eq p place) (map place_of ns)
size_by place [] = refl
size_by place (n ∷ ns) =
    sum_by-cons (λ x. cond (is_in place x) 1 0) n ns
    ∙ ap (λ m. cond (is_in place n) 1 0 + m) (size_by place ns)
    ∙ sym (sum_by-cons (λ p. cond (place_eq p place) 1 0) (place_of n) (map place_of ns))

pub size_kept : (q : Identity) (h g : List Entry) → KeepsPlaces q h g → (place : Place) → size_in place (nodes q g) ≡ size_in place (nodes q h)
size_kept q h g s place =
    size_by place (nodes q g) ∙ ap (count_by (λ p. place_eq p place)) (nodes_placed q h g s) ∙ sym (size_by place (nodes q h))

-- a zone's nodes are the ready ones and the others
pub size_split : (place : Place) (ns : List Node) → size_in place ns ≡ ready_in place ns + other_in place ns
size_split place [] = refl
size_split place (n ∷ ns) =
    sum_by-cons (λ x. cond (is_in place x) 1 0) n ns
    ∙ ap (λ m. cond (is_in place n) 1 0 + m) (size_split place ns)
    ∙ by_tests (is_in place n) (is_ready n.ready) (ready_in place ns) (other_in place ns)
    ∙ sym (ap (λ a. a + other_in place (n ∷ ns)) (sum_by-cons (λ x. cond (is_in place x && is_ready x.ready) 1 0) n ns)
    ∙ ap (λ b. (cond (is_in place n && is_ready n.ready) 1 0 + ready_in place ns) + b) (sum_by-cons (λ x. cond (is_in place x && not (is_ready x.ready)) 1 0) n ns))
  where
    by_tests : (a b : Bool) (r o : ℕ) → cond a 1 0 + (r + o) ≡ (cond (a && b) 1 0 + r) + (cond (a && not b) 1 0 + o)
    by_tests true true r o = omega (arith)
    by_tests true false r o = omega (arith)
    by_tests false b r o = omega (arith)

-- ---- nodes that are seen as before

nodes_among_same : (q : Identity) (names : List ℕ) (h g : List Entry) → ((m : ℕ) → seen_node q m g ≡ seen_node q m h) → nodes_among q names g ≡ nodes_among q names h
nodes_among_same q [] h g same = refl
nodes_among_same q (name ∷ names) h g same =
    ap (λ o. and_node o (nodes_among q names g)) (same name) ∙ ap (and_node (seen_node q name h)) (nodes_among_same q names h g same)

pub nodes_same : (q : Identity) (h g : List Entry) → node_names g ≡ node_names h → ((m : ℕ) → seen_node q m g ≡ seen_node q m h) → nodes q g ≡ nodes q h
nodes_same q h g names same = nodes_among_same q (node_names g) h g same ∙ ap (λ ns. nodes_among q ns h) names

pub nodes_passed : (q : Identity) (k : ℕ) (h : List Entry) → nodes q (add k q Pass h) ≡ nodes q h
nodes_passed q k h = nodes_same q h (add k q Pass h) refl (kept_node q h (add k q Pass h) None (pass_change q k h))

pub nodes_zoned : (q : Identity) (k : ℕ) (h : List Entry) (place : Place) (state : ZoneState) (rate : ℕ) → nodes q (add k q (Zone place state rate) h) ≡ nodes q h
nodes_zoned q k h place state rate =
    nodes_same q h (add k q (Zone place state rate) h) refl (kept_node q h (add k q (Zone place state rate) h) None (zone_change q k h place state rate))

pub nodes_moded : (q : Identity) (k : ℕ) (h : List Entry) (on : Bool) → nodes q (add k q (Mode on) h) ≡ nodes q h
nodes_moded q k h on = nodes_same q h (add k q (Mode on) h) refl (λ m. same_node q m h (add k q (Mode on) h) ((mode_change q k h on).shown (node_key m)))

-- ---- what the entries of a pass say of zones

abbrev last_rated : Identity → Place → List Entry → Option (Option Rated)
last_rated q place = newest (λ e T. rated_says q place e.actor e.fact T)

abbrev last_base : Identity → Place → List Entry → Option ℕ
last_base q place = newest (λ e T. when (is_base q place e.actor e.fact T) e.beat)

pub rated_passed : (q : Identity) (k : ℕ) (h : List Entry) (place : Place) → rated q place (add k q Pass h) ≡ cond (is_zone q place h) (rated q place h) None
rated_passed q k h place =
    ap (λ b. join (upper (only_if b (when (not (is_zone q place h)) None)) (last_rated q place h))) (same_self q) ∙ by_zone (is_zone q place h)
  where
    by_zone : (b : Bool) → join (upper (when (not b) None) (last_rated q place h)) ≡ cond b (rated q place h) None
    by_zone true = refl
    by_zone false = refl

pub base_passed : (q : Identity) (k : ℕ) (h : List Entry) (place : Place) → base q place (add k q Pass h) ≡ base q place h
base_passed q k h place = refl

pub rated_zoned : (q : Identity) (k : ℕ) (h : List Entry) (at : Place) (state : ZoneState) (rate : ℕ) (place : Place)
    → rated q place (add k q (Zone at state rate) h) ≡ cond (place_eq at place) (Some (state, rate)) (rated q place h)
rated_zoned q k h at state rate place =
    ap (λ b. join (upper (when (place_eq at place && b) (Some (state, rate))) (last_rated q place h))) (same_self q) ∙ by_place (place_eq at place)
  where
    by_place : (b : Bool) → join (upper (when (b && true) (Some (state, rate))) (last_rated q place h)) ≡ cond b (Some (state, rate)) (rated q place h)
    by_place true = refl
    by_place false = refl

pub base_zoned : (q : Identity) (k : ℕ) (h : List Entry) (at : Place) (state : ZoneState) (rate : ℕ) (place : Place)
    → base q place (add k q (Zone at state rate) h) ≡ cond (place_eq at place && not (has_rate rate (rated q place h))) k (base q place h)
base_zoned q k h at state rate place =
    ap (λ b. or_zero (upper (when (place_eq at place && (b && not (has_rate rate (rated q place h)))) k) (last_base q place h))) (same_self q)
    ∙ by_place (place_eq at place && not (has_rate rate (rated q place h)))
  where
    by_place : (b : Bool) → or_zero (upper (when b k) (last_base q place h)) ≡ cond b k (base q place h)
    by_place true = refl
    by_place false = refl

pub full_passed : (doc : Doc) (q : Identity) (k : ℕ) (h : List Entry) (place : Place) → is_full doc q place (add k q Pass h) ≡ is_full doc q place h
full_passed doc q k h place = refl

pub full_zoned : (doc : Doc) (q : Identity) (k : ℕ) (h : List Entry) (at : Place) (state : ZoneState) (rate : ℕ) (place : Place)
    → is_full doc q place (add k q (Zone at state rate) h)
    ≡ cond (place_eq at place)
    (fills_zone (rated q place h) (not (has_rate rate (rated q place h))) (is_there (is_full doc q place h) (grown doc q k place h) (rated q place h)) (is_full doc q place h))
    (is_full doc q place h)
full_zoned doc q k h at state rate place = ap (λ b. filled (place_eq at place && b)) (same_self q) ∙ by_place (place_eq at place)
  where
    filling : Bool
    filling = fills_zone (rated q place h) (not (has_rate rate (rated q place h))) (is_there (is_full doc q place h) (grown doc q k place h) (rated q place h)) (is_full doc q place h)

    -- what the entry leaves, where it is of the place or isn't
    filled : Bool → Bool
    filled b = elim b [ true ↦ filling | false ↦ is_full doc q place h ]

    by_place : (b : Bool) → filled (b && true) ≡ cond b filling (is_full doc q place h)
    by_place true = refl
    by_place false = refl
