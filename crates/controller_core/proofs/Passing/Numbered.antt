-- The nodes of a pass, counted one after the other.
use Rattle.std.proofs.Common.{◌≡◌, ◌∙◌, ◌++◌, ◌+◌, ◌<◌, ◌≤◌, ℕ, true, List, [], ◌∷◌, length, Option, Some, None, refl, sym, ap, subst, arith}
use Rattle.std.proofs.lemmas.List.{length-append}
use Rattle.kube_base.specs.declared.numbers.Version.{Version}
use Rattle.kube_objects.specs.declared.node.Node.{Node}
use Rattle.kube_objects.specs.Entry.{Entry, Identity}
use Rattle.kube_objects.specs.Modes.{and_node, nodes, nodes_among}
use Rattle.kube_objects.specs.Newest.{has}
use Rattle.kube_objects.specs.Seen.{seen_node}
use Rattle.tick_laws.proofs.Zoning.{among_more, nodes_of_seen}
use Rattle.watch_cache.specs.Listed.{is_named}
use Rattle.watch_cache.specs.Told.{AreNamed}
use Rattle.zone_counts.specs.Counted.{CountsStand}
use Rattle.zone_counts.specs.declared.counts.Counts.{Counts}
use Rattle.controller_core.proofs.Passing.Listed.{listed_first, listed_later}

-- the names before the rest are counted
pub record Counting (q : Identity) (h : List Entry) (names rest : List ℕ) (counts : Counts) : Type 0 where
  pub front : List ℕ
  pub is : names ≡ front ++ rest
  pub stands : CountsStand (nodes_among q front h) counts
  pub seen : (n : ℕ) → is_named rest n ≡ true → has (seen_node q n h) ≡ true

pub begin_counting : (q : Identity) (h : List Entry) (names : List ℕ) (counts : Counts) → AreNamed (λ n. has (seen_node q n h)) names → CountsStand [] counts → Counting q h names names counts
begin_counting q h names counts are stands = record { front = []; is = refl; stands = stands; seen = λ n there. sym (are.named n) ∙ there }

assoc : {A : Type 0} (xs ys zs : List A) → (xs ++ ys) ++ zs ≡ xs ++ (ys ++ zs)
assoc [] ys zs = refl
assoc (x ∷ xs) ys zs = ap (λ ks. x ∷ ks) (assoc xs ys zs)

-- the first of the rest is seen
pub first_seen : (q : Identity) (h : List Entry) (names all ns : List ℕ) (n : ℕ) (counts : Counts) → all ≡ n ∷ ns → Counting q h names all counts → has (seen_node q n h) ≡ true
first_seen q h names all ns n counts is s = s.seen n (ap (λ xs. is_named xs n) is ∙ listed_first n ns)

-- with it, there are no more than all
among_short : (q : Identity) (h : List Entry) (front rest : List ℕ) → length (nodes_among q front h) ≤ length (nodes_among q (front ++ rest) h)
among_short q h [] rest = omega arith
among_short q h (m ∷ ms) rest = by_node (seen_node q m h) (among_short q h ms rest)
  where
    by_node : (o : Option (Version × Node)) → length (nodes_among q ms h) ≤ length (nodes_among q (ms ++ rest) h)
        → length (and_node o (nodes_among q ms h)) ≤ length (and_node o (nodes_among q (ms ++ rest) h))
    by_node None le = le
    by_node (Some x) le = omega (arith, le)

pub room : (q : Identity) (h : List Entry) (names all ns : List ℕ) (n : ℕ) (x : Version × Node) (counts : Counts) → all ≡ n ∷ ns → (s : Counting q h names all counts) → AreNamed (λ n. has (seen_node q n h)) names
    → seen_node q n h ≡ Some x → length (nodes q h) < 4294967296 → length (nodes_among q s.front h) + 1 < 4294967296
room q h names all ns n x counts is s are sees few =
    let whole : names ≡ (s.front ++ n ∷ []) ++ ns = s.is ∙ ap (λ xs. s.front ++ xs) is ∙ sym (assoc s.front (n ∷ []) ns) in
    let most : length (nodes_among q (s.front ++ n ∷ []) h) ≤ length (nodes q h) =
    subst (λ g. length (nodes_among q (s.front ++ n ∷ []) h) ≤ length g) (sym (nodes_of_seen q h names are ∙ ap (λ xs. nodes_among q xs h) whole)) (among_short q h (s.front ++ n ∷ []) ns)
    in
    let one : length (nodes_among q (s.front ++ n ∷ []) h) ≡ length (nodes_among q s.front h) + 1 =
    ap length (among_more q h s.front n x sees) ∙ length-append (nodes_among q s.front h) (x.1 ∷ [])
    in
    omega (arith, most, one, few)

pub next_counting : (q : Identity) (h : List Entry) (names all ns : List ℕ) (n : ℕ) (x : Version × Node) (old new : Counts) → all ≡ n ∷ ns → (s : Counting q h names all old) → seen_node q n h ≡ Some x
    → CountsStand (nodes_among q s.front h ++ x.1 ∷ []) new → Counting q h names ns new
next_counting q h names all ns n x old new is s sees stands =
    record {
      front = s.front ++ n ∷ [];
      is = s.is ∙ ap (λ xs. s.front ++ xs) is ∙ sym (assoc s.front (n ∷ []) ns);
      stands = subst (λ g. CountsStand g new) (sym (among_more q h s.front n x sees)) stands;
      seen = λ m there. s.seen m (ap (λ xs. is_named xs m) is ∙ listed_later n m ns there);
    }

append_nil : {A : Type 0} (xs : List A) → xs ++ [] ≡ xs
append_nil [] = refl
append_nil (x ∷ xs) = ap (λ ys. x ∷ ys) (append_nil xs)

pub end_counting : (q : Identity) (h : List Entry) (names rest : List ℕ) (counts : Counts) → rest ≡ [] → AreNamed (λ n. has (seen_node q n h)) names → Counting q h names rest counts → CountsStand (nodes q h) counts
end_counting q h names rest counts is are s =
    subst (λ g. CountsStand g counts) (ap (λ xs. nodes_among q xs h) (sym (s.is ∙ ap (λ xs. s.front ++ xs) is ∙ append_nil s.front)) ∙ sym (nodes_of_seen q h names are)) s.stands
