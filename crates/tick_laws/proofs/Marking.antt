-- What marks keep, and that only nodes that are seen are marked.
use Rattle.std.proofs.Common.{◌≡◌, ◌∙◌, inl, inr, ℕ, ◌==◌, ◌||◌, Bool, true, false, cond, List, [], ◌∷◌, Option, Some, None, refl, sym, ap, Less, Equal, Greater, arith}
use Rattle.std.proofs.lemmas.Bool.Decides.{nat_tests}
use Rattle.std.proofs.lemmas.Cmp.{tied_itself}
use Rattle.std.specs.List.{AllByRecursion}
use Rattle.std.specs.List.Sorted.{IsStrictlySortedBy}
use Rattle.std.specs.Ordering.{nat_cmp, ordering_reverse}
use Rattle.kube_base.specs.declared.numbers.Version.{Version}
use Rattle.kube_objects.specs.declared.call.Answer.{Answer}
use Rattle.kube_objects.specs.declared.call.Answer.TheVariants as answer
use Rattle.kube_objects.specs.declared.node.Node.{Node}
use Rattle.kube_objects.specs.declared.object.Object.TheVariants as object
use Rattle.kube_objects.specs.Answers.{as_kind, lease_in}
use Rattle.kube_objects.specs.Clocks.{wall, whole_second}
use Rattle.kube_objects.specs.Document.{Doc}
use Rattle.kube_objects.specs.Entry.{Entry, Identity, Place, Mark}
use Rattle.kube_objects.specs.Health.{last_pass, mark_of, with_mark}
use Rattle.kube_objects.specs.Modes.{mode, place_of}
use Rattle.kube_objects.specs.Newest.{has, when}
use Rattle.kube_objects.specs.Seen.{seen, seen_node, seen_lease, is_synced, node_names, insert_once, insert_named}
use Rattle.kube_objects.specs.Stored.{Held, node_key, node_lease}
use Rattle.kube_objects.specs.Tick.{add, for_each, mark, mark_seen, mark_as, marks}
use Rattle.kube_objects.specs.Tokens.{rated, base}
use Rattle.kube_objects.specs.Tries.{try_node}
use Rattle.kube_objects.proofs.KeyOrder.{key_itself}
use Rattle.watch_cache.specs.Kept.{kept, of_kind}
use Rattle.watch_cache.specs.Listed.{is_named}
use Rattle.watch_cache.specs.Told.{AreNamed}
use Rattle.tick_laws.specs.Changes.{IsChange, noted_by}
use Rattle.tick_laws.specs.Judged.{shown}
use Rattle.tick_laws.specs.Walks.{Among, Above, Ascends, is_after, after}
use Rattle.tick_laws.proofs.Frames.{mild_change, mark_is, given_node, noted_node, kept_node, unwritten}
use Rattle.tick_laws.proofs.Named.{node_names_ascend, node_is_named}
use Rattle.tick_laws.proofs.Orders.{names_strict}
use Rattle.tick_laws.proofs.Walks.{walk_next, walk_end, after_none}

-- ---- what is kept

abbrev pub place_seen : Option (Version × Node) → Option Place
place_seen None = None
place_seen (Some x) = Some (place_of x.1)

-- of what a pass reads besides heartbeats and marks
pub record KeepsPlaces (q : Identity) (h g : List Entry) : Type 0 where
  pub names : node_names g ≡ node_names h
  pub places : (m : ℕ) → place_seen (seen_node q m g) ≡ place_seen (seen_node q m h)
  pub leases : (m : ℕ) → seen_lease q m g ≡ seen_lease q m h
  pub mode : mode q g ≡ mode q h
  pub synced : is_synced q g ≡ is_synced q h
  pub passed : last_pass q g ≡ last_pass q h
  pub rated : (place : Place) → rated q place g ≡ rated q place h
  pub base : (place : Place) → base q place g ≡ base q place h

pub keeps_itself : (q : Identity) (h : List Entry) → KeepsPlaces q h h
keeps_itself q h =
    record {
      names = refl;
      places = λ m. refl;
      leases = λ m. refl;
      mode = refl;
      synced = refl;
      passed = refl;
      rated = λ place. refl;
      base = λ place. refl;
    }

pub keeps_then : (q : Identity) (h g i : List Entry) → KeepsPlaces q h g → KeepsPlaces q g i → KeepsPlaces q h i
keeps_then q h g i a b =
    record {
      names = b.names ∙ a.names;
      places = λ m. b.places m ∙ a.places m;
      leases = λ m. b.leases m ∙ a.leases m;
      mode = b.mode ∙ a.mode;
      synced = b.synced ∙ a.synced;
      passed = b.passed ∙ a.passed;
      rated = λ place. b.rated place ∙ a.rated place;
      base = λ place. b.base place ∙ a.base place;
    }

-- ---- one mark

insert_there : (n : ℕ) (ms : List ℕ) → Ascends nat_cmp ms → Among n ms → insert_once nat_cmp n ms ≡ ms
insert_there n [] ascends there = absurd there
insert_there n (m ∷ ms) ascends (inl is) =
    ap (λ o. elim o [ Less ↦ n ∷ m ∷ ms | Equal ↦ m ∷ ms | Greater ↦ m ∷ insert_once nat_cmp n ms ])
    (ap (nat_cmp n) (sym is) ∙ tied_itself names_strict.total n)
insert_there n (m ∷ ms) ascends (inr there) =
    ap (λ o. elim o [ Less ↦ n ∷ m ∷ ms | Equal ↦ m ∷ ms | Greater ↦ m ∷ insert_once nat_cmp n ms ]) (later m ms ascends.0 there)
    ∙ ap (λ xs. m ∷ xs) (insert_there n ms ascends.1 there)
  where
    later : (m : ℕ) (ms : List ℕ) → Above nat_cmp m ms → Among n ms → nat_cmp n m ≡ Greater
    later m [] above there = absurd there
    later m (x ∷ xs) above (inl is) = ap (λ x. nat_cmp x m) is ∙ names_strict.total.antisymm x m ∙ ap ordering_reverse above.0
    later m (x ∷ xs) above (inr there) = later m xs above.1 there

pub lease_shown : (q : Identity) (name : ℕ) (h : List Entry) → of_kind lease_in (shown q (node_lease name) h) ≡ seen_lease q name h
lease_shown q name h = by_held (seen q (node_lease name) h)
  where
    by_held : (o : Option Held) → of_kind lease_in (kept o) ≡ as_kind lease_in o
    by_held None = refl
    by_held (Some x) = refl

same_lease : (q : Identity) (name : ℕ) (h g : List Entry) → shown q (node_lease name) g ≡ shown q (node_lease name) h → seen_lease q name g ≡ seen_lease q name h
same_lease q name h g is = sym (lease_shown q name g) ∙ ap (of_kind lease_in) is ∙ lease_shown q name h

module _ (q : Identity) (k : ℕ) (h : List Entry) (name : ℕ) (given : Version) (x : Version × Node) (written : Node) (is : seen_node q name h ≡ Some x) (place : place_of written ≡ place_of x.1) where
  abbrev marked_as : Option Answer → List Entry
  marked_as a = add k q (Mark name given written a) h

  same_names : (a : Option Answer) → node_names (marked_as a) ≡ node_names h
  same_names None = refl
  same_names (Some (answer.Done v)) =
      ap (λ o. insert_named nat_cmp o (node_names h)) (ap (λ b. when b name) (key_itself (node_key name)))
      ∙ insert_there name (node_names h) (node_names_ascend h) (node_is_named q name h x is)
  same_names (Some answer.Absent) = refl
  same_names (Some answer.Exists) = refl
  same_names (Some (answer.Conflict v)) = refl

  place_by : (m : ℕ) (b : Bool) (v : Version) → (name == m) ≡ b → place_seen (cond b (Some (v, written)) (seen_node q m h)) ≡ place_seen (seen_node q m h)
  place_by m true v same =
      let equal : name ≡ m = grind (arith, nat_tests, same) in
      ap Some place ∙ sym (ap place_seen is) ∙ ap (λ m. place_seen (seen_node q m h)) equal
  place_by m false v same = refl

  same_places : (a : Option Answer) → IsChange q h (marked_as a) (noted_by name written a) None → (m : ℕ) → place_seen (seen_node q m (marked_as a)) ≡ place_seen (seen_node q m h)
  same_places None s m = ap place_seen (kept_node q h (marked_as None) None s m)
  same_places (Some (answer.Done v)) s m =
      ap place_seen (noted_node q h (marked_as (Some (answer.Done v))) name v written None s m) ∙ place_by m (name == m) v refl
  same_places (Some answer.Absent) s m = ap place_seen (kept_node q h (marked_as (Some answer.Absent)) None s m)
  same_places (Some answer.Exists) s m = ap place_seen (kept_node q h (marked_as (Some answer.Exists)) None s m)
  same_places (Some (answer.Conflict v)) s m = ap place_seen (kept_node q h (marked_as (Some (answer.Conflict v))) None s m)

  same_leases : (a : Option Answer) → IsChange q h (marked_as a) (noted_by name written a) None → (m : ℕ) → seen_lease q m (marked_as a) ≡ seen_lease q m h
  same_leases None s m = same_lease q m h (marked_as None) (s.shown (node_lease m))
  same_leases (Some (answer.Done v)) s m =
      same_lease q m h (marked_as (Some (answer.Done v))) (unwritten q h (marked_as (Some (answer.Done v))) (node_key name) (node_lease m) (Some (v, object.Node written)) None s refl)
  same_leases (Some answer.Absent) s m = same_lease q m h (marked_as (Some answer.Absent)) (s.shown (node_lease m))
  same_leases (Some answer.Exists) s m = same_lease q m h (marked_as (Some answer.Exists)) (s.shown (node_lease m))
  same_leases (Some (answer.Conflict v)) s m = same_lease q m h (marked_as (Some (answer.Conflict v))) (s.shown (node_lease m))

  mark_keeps_as : (a : Option Answer) → IsChange q h (marked_as a) (noted_by name written a) None → KeepsPlaces q h (marked_as a)
  mark_keeps_as a s =
      record {
        names = same_names a;
        places = same_places a s;
        leases = same_leases a s;
        mode = s.mode;
        synced = s.synced;
        passed = refl;
        rated = λ place. refl;
        base = λ place. refl;
      }

-- the change that a mark makes
pub mark_change : (q : Identity) (k : ℕ) (h : List Entry) (name : ℕ) (given : Version) (written : Node)
    → IsChange q h (add k q (Mark name given written (try_node q name given h)) h) (noted_by name written (try_node q name given h)) None
mark_change q k h name given written =
    mild_change q k h name written (try_node q name given h) (Mark name given written (try_node q name given h))
    (mark_is name given written (try_node q name given h)) (given_node q name given h)

pub mark_keeps : (doc : Doc) (k : ℕ) (q : Identity) (name : ℕ) (h : List Entry) → KeepsPlaces q h (mark doc k q name h)
mark_keeps doc k q name h = by_node (seen_node q name h) refl
  where
    by_test : (x : Version × Node) (b : Bool) → seen_node q name h ≡ Some x
        → KeepsPlaces q h (mark_as k q name x.0 (when b (with_mark (whole_second (wall doc q.process k)) x.1)) h)
    by_test x false is = keeps_itself q h
    by_test x true is =
        mark_keeps_as q k h name x.0 x (with_mark (whole_second (wall doc q.process k)) x.1) is refl (try_node q name x.0 h)
        (mark_change q k h name x.0 (with_mark (whole_second (wall doc q.process k)) x.1))

    by_node : (o : Option (Version × Node)) → seen_node q name h ≡ o → KeepsPlaces q h (mark_seen doc k q name o h)
    by_node None is = keeps_itself q h
    by_node (Some x) is = by_test x _ is

-- a node that isn't seen isn't marked
pub mark_unseen : (doc : Doc) (k : ℕ) (q : Identity) (name : ℕ) (h : List Entry) → has (seen_node q name h) ≡ false → mark doc k q name h ≡ h
mark_unseen doc k q name h is = by_node (seen_node q name h) is
  where
    by_node : (o : Option (Version × Node)) → has o ≡ false → mark_seen doc k q name o h ≡ h
    by_node None none = refl
    by_node (Some x) none = absurd (cc)

-- a mark leaves the other nodes
pub mark_others : (doc : Doc) (k : ℕ) (q : Identity) (name m : ℕ) (h : List Entry) → (name == m) ≡ false → seen_node q m (mark doc k q name h) ≡ seen_node q m h
mark_others doc k q name m h apart = by_node (seen_node q name h)
  where
    by_answer : (given : Version) (written : Node) (a : Option Answer) → IsChange q h (add k q (Mark name given written a) h) (noted_by name written a) None
        → seen_node q m (add k q (Mark name given written a) h) ≡ seen_node q m h
    by_answer given written None s = kept_node q h _ None s m
    by_answer given written (Some (answer.Done v)) s = noted_node q h _ name v written None s m ∙ ap (λ b. cond b (Some (v, written)) (seen_node q m h)) apart
    by_answer given written (Some answer.Absent) s = kept_node q h _ None s m
    by_answer given written (Some answer.Exists) s = kept_node q h _ None s m
    by_answer given written (Some (answer.Conflict v)) s = kept_node q h _ None s m

    by_mark : (given : Version) (o : Option Node) → seen_node q m (mark_as k q name given o h) ≡ seen_node q m h
    by_mark given None = refl
    by_mark given (Some written) = by_answer given written (try_node q name given h) (mark_change q k h name given written)

    by_node : (o : Option (Version × Node)) → seen_node q m (mark_seen doc k q name o h) ≡ seen_node q m h
    by_node None = refl
    by_node (Some x) = by_mark x.0 (mark_of doc q k name x.1 h)

-- ---- the marks of a pass

pub marks_keep : (doc : Doc) (k : ℕ) (q : Identity) (names : List ℕ) (h : List Entry) → KeepsPlaces q h (for_each (mark doc k q) names h)
marks_keep doc k q [] h = keeps_itself q h
marks_keep doc k q (name ∷ names) h =
    keeps_then q h (mark doc k q name h) (for_each (mark doc k q) names (mark doc k q name h)) (mark_keeps doc k q name h) (marks_keep doc k q names (mark doc k q name h))

-- it has a place exactly where it is seen
pub has_place : (o p : Option (Version × Node)) → place_seen o ≡ place_seen p → has o ≡ has p
has_place None None is = refl
has_place None (Some y) is = absurd (cc)
has_place (Some x) None is = absurd (cc)
has_place (Some x) (Some y) is = refl

pub seen_too : (q : Identity) (h g : List Entry) → KeepsPlaces q h g → (m : ℕ) → has (seen_node q m g) ≡ has (seen_node q m h)
seen_too q h g s m = has_place (seen_node q m g) (seen_node q m h) (s.places m)

-- ---- a list that has just the names of some nodes, in order

pub names_ascend : (names : List ℕ) → IsStrictlySortedBy nat_cmp names → Ascends nat_cmp names
unfolding IsStrictlySortedBy
names_ascend [] sorted = tt
names_ascend (n ∷ ns) sorted = (above n ns sorted.0, names_ascend ns sorted.1)
  where
    above : (n : ℕ) (ns : List ℕ) → AllByRecursion (λ m. nat_cmp n m ≡ Less) ns → Above nat_cmp n ns
    above n [] all = tt
    above n (m ∷ ms) all = (all.0, above n ms all.1)

not_named : (m n : ℕ) (ns : List ℕ) → nat_cmp m n ≡ Less → Above nat_cmp n ns → is_named ns m ≡ false
not_named m n [] less above = refl
not_named m n (x ∷ xs) less above =
    let apart : (x == m) ≡ false = grind (arith, nat_tests, less, above.0) in
    ap (λ b. b || is_named xs m) apart ∙ not_named m n xs less above.1

-- these are the names that are left after a place of those that pass a test
pub record AreLeft (test : ℕ → Bool) (c : Option ℕ) (rest : List ℕ) : Type 0 where
  pub ascend : Ascends nat_cmp rest
  pub later : (n : ℕ) → is_named rest n ≡ true → is_after nat_cmp c n ≡ true
  pub named : (m : ℕ) → is_after nat_cmp c m ≡ true → is_named rest m ≡ test m

pub all_left : (test : ℕ → Bool) (names : List ℕ) → AreNamed test names → AreLeft test None names
all_left test names s = record { ascend = names_ascend names s.ascend; later = λ n there. refl; named = λ m later. s.named m }

itself : (n : ℕ) (b : Bool) → ((n == n) || b) ≡ true
itself n b = ap (λ t. t || b) same
  where
    same : (n == n) ≡ true
    same = grind (arith, nat_tests)

pub first_later : (test : ℕ → Bool) (c : Option ℕ) (n : ℕ) (ns : List ℕ) → AreLeft test c (n ∷ ns) → is_after nat_cmp c n ≡ true
first_later test c n ns s = s.later n (itself n (is_named ns n))

pub first_passes : (test : ℕ → Bool) (c : Option ℕ) (n : ℕ) (ns : List ℕ) → AreLeft test c (n ∷ ns) → test n ≡ true
first_passes test c n ns s = sym (s.named n (first_later test c n ns s)) ∙ itself n (is_named ns n)

-- those between the place and the first of them don't pass
pub between_fails : (test : ℕ → Bool) (c : Option ℕ) (n : ℕ) (ns : List ℕ) → AreLeft test c (n ∷ ns) → (m : ℕ) → is_after nat_cmp c m ≡ true → nat_cmp m n ≡ Less → test m ≡ false
between_fails test c n ns s m later less =
    let apart : (n == m) ≡ false = grind (arith, nat_tests, less) in
    sym (s.named m later) ∙ ap (λ b. b || is_named ns m) apart ∙ not_named m n ns less s.ascend.0

named_above : (n m : ℕ) (xs : List ℕ) → Above nat_cmp n xs → is_named xs m ≡ true → is_after nat_cmp (Some n) m ≡ true
named_above n m [] all there = absurd (cc)
named_above n m (x ∷ xs) all there = by_test (x == m) refl there (named_above n m xs all.1)
  where
    by_test : (b : Bool) → (x == m) ≡ b → (b || is_named xs m) ≡ true → (is_named xs m ≡ true → is_after nat_cmp (Some n) m ≡ true)
        → is_after nat_cmp (Some n) m ≡ true
    by_test true same now further = let less : nat_cmp n x ≡ Less = all.0 in grind (arith, nat_tests, same, less)
    by_test false same now further = further now

pub next_left : (test : ℕ → Bool) (c : Option ℕ) (n : ℕ) (ns : List ℕ) → AreLeft test c (n ∷ ns) → AreLeft test (Some n) ns
next_left test c n ns s = record { ascend = s.ascend.1; later = λ m there. named_above n m ns s.ascend.0 there; named = named }
  where
    less_after : (m : ℕ) → is_after nat_cmp (Some n) m ≡ true → (n == m) ≡ false
    less_after m later = grind (arith, nat_tests, later)

    after_c : (m : ℕ) → is_after nat_cmp (Some n) m ≡ true → is_after nat_cmp c m ≡ true
    after_c m later = by_place c (first_later test c n ns s)
      where
        by_place : (c : Option ℕ) → is_after nat_cmp c n ≡ true → is_after nat_cmp c m ≡ true
        by_place None first = refl
        by_place (Some p) first = grind (arith, nat_tests, first, later)

    named : (m : ℕ) → is_after nat_cmp (Some n) m ≡ true → is_named ns m ≡ test m
    named m later = sym (ap (λ b. b || is_named ns m) (less_after m later)) ∙ s.named m (after_c m later)

-- ---- the marks are those of the nodes that are seen

marks_left : (doc : Doc) (k : ℕ) (q : Identity) (h : List Entry) (c : Option ℕ) (rest : List ℕ) (now : List Entry)
    → AreLeft (λ n. has (seen_node q n h)) c rest → KeepsPlaces q h now
    → for_each (mark doc k q) (after nat_cmp c (node_names h)) now ≡ for_each (mark doc k q) rest now
marks_left doc k q h c [] now left s =
    walk_end nat_cmp names_strict (mark doc k q) c (node_names h) now (node_names_ascend h)
    (λ m later. mark_unseen doc k q m now (seen_too q h now s m ∙ sym (left.named m later)))
marks_left doc k q h c (n ∷ ns) now left s =
    walk_next nat_cmp names_strict (mark doc k q) c n (node_names h) now (first_later _ c n ns left) (node_names_ascend h) (among (seen_node q n h) refl)
    (λ m later less. mark_unseen doc k q m now (seen_too q h now s m ∙ between_fails _ c n ns left m later less))
    ∙ marks_left doc k q h (Some n) ns (mark doc k q n now) (next_left _ c n ns left) (keeps_then q h now (mark doc k q n now) s (mark_keeps doc k q n now))
  where
    among : (o : Option (Version × Node)) → seen_node q n h ≡ o → Among n (node_names h)
    among None is = absurd (by_false (sym (first_passes (λ n. has (seen_node q n h)) c n ns left) ∙ ap has is))
      where
        by_false : true ≡ false → ⊥
        by_false is = cc
    among (Some x) is = node_is_named q n h x is

pub marks_of_seen : (doc : Doc) (k : ℕ) (q : Identity) (h : List Entry) (names : List ℕ) → AreNamed (λ n. has (seen_node q n h)) names
    → marks doc k q h ≡ for_each (mark doc k q) names h
marks_of_seen doc k q h names s =
    ap (λ ns. for_each (mark doc k q) ns h) (sym (after_none nat_cmp names_strict (node_names h)))
    ∙ marks_left doc k q h None names h (all_left _ names s) (keeps_itself q h)
