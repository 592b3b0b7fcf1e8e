-- An index goes with the objects that it lists.
use Rattle.std.proofs.Common.{◌≡◌, ℕ, Bool, true, false, cond, not, ◌&&◌, ◌||◌, Option, None, refl, sym, ap, ◌∙◌}
use Rattle.std.proofs.lemmas.Bool.{and_parts}
use Rattle.kube_base.specs.declared.numbers.Version.{Version}
use Rattle.kube_objects.specs.declared.key.Key.{Key}
use Rattle.kube_objects.specs.declared.object.Object.{Object}
use Rattle.kube_objects.specs.Keys.{key_eq}
use Rattle.kube_objects.specs.Stored.{node_key}
use Rattle.kube_objects.proofs.KeyOrder.{same_key}
use Rattle.watch_cache.specs.declared.index.Index.{Index}
use Rattle.watch_cache.specs.Indexed.{IsIndexed}
use Rattle.watch_cache.specs.Kept.{is_node_in, is_pod_in}
use Rattle.watch_cache.specs.Listed.{has_node, has_pod}

abbrev pub Shown : Type 0
Shown = Key → Option (Version × Object)

-- the objects with this under a key
abbrev pub with : Key → Option (Version × Object) → Shown → Shown
with key w objects k = cond (key_eq key k) w (objects k)

not_itself : (b : Bool) → (not b && b) ≡ false
not_itself true = refl
not_itself false = refl

swapped : (a b : Bool) → (a && b) ≡ (b && a)
swapped true true = refl
swapped true false = refl
swapped false true = refl
swapped false false = refl

-- one entry of the index, which a test of what is under its key decides
out_one : (test : Option (Version × Object) → Bool) (objects : Shown) (key k : Key) (b : Bool) → test None ≡ false → (b ≡ true → key ≡ k) → (not (b && test (objects key)) && test (objects k)) ≡ test (cond b None (objects k))
out_one test objects key k true none same = ap (λ x. not (test (objects key)) && test (objects x)) (sym (same refl)) ∙ not_itself (test (objects key)) ∙ sym none
out_one test objects key k false none same = refl

in_one : (test : Option (Version × Object) → Bool) (objects : Shown) (w : Option (Version × Object)) (k : Key) (b : Bool) → test None ≡ false → ((b && test w) || test (cond b None (objects k))) ≡ test (cond b w (objects k))
in_one test objects w k true none = ap (λ x. test w || x) none ∙ or_false (test w)
  where
    or_false : (x : Bool) → (x || false) ≡ x
    or_false true = refl
    or_false false = refl
in_one test objects w k false none = refl

-- the index without what is under a key
out_node : (objects : Shown) (old : Index) (key : Key) (n : ℕ) → IsIndexed objects old
    → (not (key_eq key (node_key n) && is_node_in (objects key)) && has_node old n) ≡ is_node_in (with key None objects (node_key n))
out_node objects old key n s =
    ap (λ x. not (key_eq key (node_key n) && is_node_in (objects key)) && x) (s.nodes n)
    ∙ out_one is_node_in objects key (node_key n) (key_eq key (node_key n)) refl (same_key key (node_key n))

out_pod : (objects : Shown) (old : Index) (key : Key) (n : ℕ) (k : Key) → IsIndexed objects old
    → (not (is_pod_in n (objects key) && key_eq key k) && has_pod old n k) ≡ is_pod_in n (with key None objects k)
out_pod objects old key n k s =
    ap (λ x. not (is_pod_in n (objects key) && key_eq key k) && x) (s.pods n k)
    ∙ ap (λ x. not x && is_pod_in n (objects k)) (swapped (is_pod_in n (objects key)) (key_eq key k))
    ∙ out_one (is_pod_in n) objects key k (key_eq key k) refl (same_key key k)

-- what is under a key was taken out
pub indexed_out : (objects : Shown) (old new : Index) (key : Key) → IsIndexed objects old
    → ((n : ℕ) → has_node new n ≡ (not (key_eq key (node_key n) && is_node_in (objects key)) && has_node old n))
    → ((n : ℕ) (k : Key) → has_pod new n k ≡ (not (is_pod_in n (objects key) && key_eq key k) && has_pod old n k))
    → IsIndexed (with key None objects) new
indexed_out objects old new key s nodes pods = record { nodes = λ n. nodes n ∙ out_node objects old key n s; pods = λ n k. pods n k ∙ out_pod objects old key n k s }

-- an object was put under a key, in the place of what was there
pub indexed_over : (objects : Shown) (old new : Index) (key : Key) (w : Option (Version × Object)) → IsIndexed objects old
    → ((n : ℕ) → has_node new n ≡ ((key_eq key (node_key n) && is_node_in w) || (not (key_eq key (node_key n) && is_node_in (objects key)) && has_node old n)))
    → ((n : ℕ) (k : Key) → has_pod new n k ≡ ((is_pod_in n w && key_eq key k) || (not (is_pod_in n (objects key) && key_eq key k) && has_pod old n k)))
    → IsIndexed (with key w objects) new
indexed_over objects old new key w s nodes pods =
    record {
      nodes = λ n.
          nodes n
          ∙ ap (λ x. (key_eq key (node_key n) && is_node_in w) || x) (out_node objects old key n s)
          ∙ in_one is_node_in objects w (node_key n) (key_eq key (node_key n)) refl;
      pods = λ n k.
          pods n k
          ∙ ap (λ x. (is_pod_in n w && key_eq key k) || x) (out_pod objects old key n k s)
          ∙ ap (λ x. x || is_pod_in n (cond (key_eq key k) None (objects k))) (swapped (is_pod_in n w) (key_eq key k))
          ∙ in_one (is_pod_in n) objects w k (key_eq key k) refl;
    }

-- the same objects
pub indexed_as : (one other : Shown) (index : Index) → IsIndexed one index → ((k : Key) → other k ≡ one k) → IsIndexed other index
indexed_as one other index s same =
    record { nodes = λ n. s.nodes n ∙ ap is_node_in (sym (same (node_key n))); pods = λ n k. s.pods n k ∙ ap (is_pod_in n) (sym (same k)) }

pub with_with : (objects : Shown) (key k : Key) (w : Option (Version × Object)) → cond (key_eq key k) None (cond (key_eq key k) w (objects k)) ≡ cond (key_eq key k) None (objects k)
with_with objects key k w = by_test (key_eq key k)
  where
    by_test : (b : Bool) → cond b None (cond b w (objects k)) ≡ cond b None (objects k)
    by_test true = refl
    by_test false = refl

-- what is listed already, and stays
pub stays : (listed test has : Bool) → listed ≡ test → (test ≡ true → has ≡ true) → has ≡ (listed || (not test && has))
stays true true has is there = there refl
stays true false has is there = absurd (cc)
stays false true has is there = absurd (cc)
stays false false has is there = refl

-- what is under a key is listed
pub node_there : (objects : Shown) (index : Index) (key : Key) (was : Option (Version × Object)) (n : ℕ) → IsIndexed objects index → was ≡ objects key
    → (key_eq key (node_key n) && is_node_in was) ≡ true → has_node index n ≡ true
node_there objects index key was n s old there =
    s.nodes n
    ∙ ap (λ k. is_node_in (objects k)) (sym (same_key key (node_key n) (and_parts (key_eq key (node_key n)) (is_node_in was) there).0))
    ∙ ap is_node_in (sym old)
    ∙ (and_parts (key_eq key (node_key n)) (is_node_in was) there).1

pub pod_there : (objects : Shown) (index : Index) (key : Key) (was : Option (Version × Object)) (n : ℕ) (k : Key) → IsIndexed objects index → was ≡ objects key
    → (is_pod_in n was && key_eq key k) ≡ true → has_pod index n k ≡ true
pod_there objects index key was n k s old there =
    s.pods n k
    ∙ ap (λ x. is_pod_in n (objects x)) (sym (same_key key k (and_parts (is_pod_in n was) (key_eq key k) there).1))
    ∙ ap (is_pod_in n) (sym old)
    ∙ (and_parts (is_pod_in n was) (key_eq key k) there).0
