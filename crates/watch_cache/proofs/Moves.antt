-- An object is listed before its old listing goes, or the new one goes again.
use Rattle.std.proofs.Common.{◌≡◌, ℕ, ◌==◌, ◌&&◌, ◌||◌, not, Bool, true, false, Option, None, Result, Ok, Err, OnOk, OnErr, refl, sym, ap, ◌∙◌, subst}
use Rattle.std.proofs.lemmas.Bool.{and_parts, eqb-true}
use Rattle.kube_base.specs.declared.numbers.Version.{Version}
use Rattle.kube_objects.specs.declared.key.Key.{Key}
use Rattle.kube_objects.specs.declared.object.Object.{Object}
use Rattle.kube_objects.specs.Keys.{key_eq}
use Rattle.kube_objects.specs.Stored.{node_key}
use Rattle.kube_objects.proofs.KeyOrder.{same_key}
use Rattle.watch_cache.specs.declared.index.Index.{Index}
use Rattle.watch_cache.specs.declared.listing.Listing.{Listing}
use Rattle.watch_cache.specs.declared.listing.Listing.TheVariants.{Nowhere, Node, Pod}
use Rattle.watch_cache.specs.contracts.listing.ListingPartialEq.TheImpl as listings
use Rattle.watch_cache.specs.Indexed.{IsIndexed}
use Rattle.watch_cache.specs.Kept.{is_node_in, is_pod_in}
use Rattle.watch_cache.specs.Listed.{has_node, has_pod, lists_node, lists_pod}
use Rattle.watch_cache.proofs.IndexLaws.{Shown, indexed_as, indexed_over, node_there, pod_there, stays, with}
use Rattle.watch_cache.proofs.Same.{own_listing}

-- ---- one entry of the index

-- it is entered, and then what was listed leaves
pub moved : (left entered has : Bool) → (left ≡ true → entered ≡ true → ⊥) → (not left && (entered || has)) ≡ (entered || (not left && has))
moved true true has apart = absurd (apart refl refl)
moved true false has apart = refl
moved false entered has apart = refl

-- it is entered, and leaves again
pub undone : (entered has : Bool) → (entered ≡ true → has ≡ false) → (not entered && (entered || has)) ≡ has
undone true has none = sym (none refl)
undone false has none = refl

-- ---- listings with a common entry are one

same_node : (a b : Listing) (n : ℕ) → lists_node a n ≡ true → lists_node b n ≡ true → a ≡ b
same_node (Node i) (Node j) n is also = ap Node (eqb-true i n is ∙ sym (eqb-true j n also))
same_node (Node i) Nowhere n is also = absurd (cc)
same_node (Node i) (Pod j k) n is also = absurd (cc)
same_node Nowhere b n is also = absurd (cc)
same_node (Pod i k) b n is also = absurd (cc)

same_pod : (a b : Listing) (n : ℕ) (key : Key) → lists_pod a n key ≡ true → lists_pod b n key ≡ true → a ≡ b
same_pod (Pod i k) (Pod j l) n key is also =
    let node : i ≡ j = eqb-true i n (and_parts (i == n) (key_eq k key) is).0 ∙ sym (eqb-true j n (and_parts (j == n) (key_eq l key) also).0) in
    let pod : k ≡ l = same_key k key (and_parts (i == n) (key_eq k key) is).1 ∙ sym (same_key l key (and_parts (j == n) (key_eq l key) also).1) in
    λ x. Pod (node x) (pod x)
same_pod (Pod i k) Nowhere n key is also = absurd (cc)
same_pod (Pod i k) (Node j) n key is also = absurd (cc)
same_pod Nowhere b n key is also = absurd (cc)
same_pod (Node i) b n key is also = absurd (cc)

differ : (a b : Listing) → (listings.eq-value).it a b ≡ false → a ≡ b → ⊥
differ a b other same = let never : true ≡ false = sym (subst (λ x. (listings.eq-value).it a x ≡ true) same (own_listing a)) ∙ other in absurd (cc)

pub apart_nodes : (a b : Listing) (n : ℕ) → (listings.eq-value).it a b ≡ false → lists_node a n ≡ true → lists_node b n ≡ true → ⊥
apart_nodes a b n other is also = differ a b other (same_node a b n is also)

pub apart_pods : (a b : Listing) (n : ℕ) (key : Key) → (listings.eq-value).it a b ≡ false → lists_pod a n key ≡ true → lists_pod b n key ≡ true → ⊥
apart_pods a b n key other is also = differ a b other (same_pod a b n key is also)

-- ---- where nothing is under a key, nothing is listed for it

pub node_absent : (objects : Shown) (index : Index) (key : Key) (n : ℕ) (b : Bool) → IsIndexed objects index → objects key ≡ None
    → (key_eq key (node_key n) && b) ≡ true → has_node index n ≡ false
node_absent objects index key n b s none is =
    s.nodes n
    ∙ ap (λ k. is_node_in (objects k)) (sym (same_key key (node_key n) (and_parts (key_eq key (node_key n)) b is).0))
    ∙ ap is_node_in none

pub pod_absent : (objects : Shown) (index : Index) (key k : Key) (n : ℕ) (b : Bool) → IsIndexed objects index → objects key ≡ None
    → (b && key_eq key k) ≡ true → has_pod index n k ≡ false
pod_absent objects index key k n b s none is =
    s.pods n k ∙ ap (λ k. is_pod_in n (objects k)) (sym (same_key key k (and_parts b (key_eq key k) is).1)) ∙ ap (is_pod_in n) none

-- ---- the same index

-- an object is put under a key where it is listed as what was there, or nothing changes
pub put_in_place : {A B : Type 0} (r : Result A B) (objects now : Shown) (index : Index) (key : Key) (w : Option (Version × Object)) → IsIndexed objects index
    → ((n : ℕ) → (key_eq key (node_key n) && is_node_in w) ≡ (key_eq key (node_key n) && is_node_in (objects key)))
    → ((n : ℕ) (k : Key) → (is_pod_in n w && key_eq key k) ≡ (is_pod_in n (objects key) && key_eq key k))
    → OnOk r ((k : Key) → now k ≡ with key w objects k) → OnErr r ((k : Key) → now k ≡ objects k) → IsIndexed now index
put_in_place (Err e) objects now index key w s nodes pods put same = indexed_as objects now index s same
put_in_place (Ok x) objects now index key w s nodes pods put same =
    indexed_as (with key w objects) now index
    (indexed_over objects index index key w s
    (λ n. stays (key_eq key (node_key n) && is_node_in w) (key_eq key (node_key n) && is_node_in (objects key)) (has_node index n) (nodes n)
    (node_there objects index key (objects key) n s refl))
    (λ n k. stays (is_pod_in n w && key_eq key k) (is_pod_in n (objects key) && key_eq key k) (has_pod index n k) (pods n k)
    (pod_there objects index key (objects key) n k s refl)))
    put

-- ---- another index with the same entries

pub indexed_alike : (objects : Shown) (old new : Index) → IsIndexed objects old → ((n : ℕ) → has_node new n ≡ has_node old n)
    → ((n : ℕ) (k : Key) → has_pod new n k ≡ has_pod old n k) → IsIndexed objects new
indexed_alike objects old new s nodes pods = record { nodes = λ n. nodes n ∙ s.nodes n; pods = λ n k. pods n k ∙ s.pods n k }
