-- What is stored has a name that was written.
use Rattle.std.proofs.Common.{◌≡◌, ◌∙◌, ◌⊎◌, inl, inr, ℕ, Bool, true, false, List, [], ◌∷◌, Option, Some, None, refl, sym, ap, subst, Less, Equal, Greater, arith}
use Rattle.std.proofs.lemmas.Bool.Decides.{nat_tests}
use Rattle.std.specs.Ordering.{nat_cmp, is_eq}
use Rattle.std.specs.declared.cmp.Ordering.{Ordering}
use Rattle.kube_objects.specs.declared.deed.Actor.{Actor}
use Rattle.kube_objects.specs.declared.key.Key.{Key}
use Rattle.kube_objects.specs.Entry.{Entry}
use Rattle.kube_objects.specs.Keys.{key_cmp, key_eq}
use Rattle.kube_objects.specs.Newest.{when, join}
use Rattle.kube_objects.specs.Seen.{insert_once, insert_named, named, written_names, node_name, is_pod, pod_key, node_names, pod_keys}
use Rattle.kube_objects.specs.Stored.{Held, Write, holds, at_key, write_of, last_write, stored, node_key}
use Rattle.kube_objects.proofs.KeyOrder.{same_key, key_itself}
use Rattle.history_laws.specs.Tails.{Among}
use Rattle.history_laws.proofs.Plainly.{upper, none_is}

module _ {A : Type 0} (compare : A → A → Ordering) (same : (a b : A) → compare a b ≡ Equal → a ≡ b) where
  pub insert_in : (n : A) (ms : List A) → Among n (insert_once compare n ms)
  insert_in n [] = inl refl
  insert_in n (m ∷ ms) = by_order (compare n m) refl (insert_in n ms)
    where
      by_order : (o : Ordering) → compare n m ≡ o → Among n (insert_once compare n ms) → Among n (elim o [ Less ↦ n ∷ m ∷ ms | Equal ↦ m ∷ ms | Greater ↦ m ∷ insert_once compare n ms ])
      by_order Less is later = inl refl
      by_order Equal is later = inl (same n m is)
      by_order Greater is later = inr later

  pub insert_keeps : (a n : A) (ms : List A) → Among a ms → Among a (insert_once compare n ms)
  insert_keeps a n [] p = absurd p
  insert_keeps a n (m ∷ ms) p = by_order (compare n m) p (insert_keeps a n ms)
    where
      by_order : (o : Ordering) → (a ≡ m) ⊎ Among a ms → (Among a ms → Among a (insert_once compare n ms)) → Among a (elim o [ Less ↦ n ∷ m ∷ ms | Equal ↦ m ∷ ms | Greater ↦ m ∷ insert_once compare n ms ])
      by_order Less p later = inr p
      by_order Equal p later = p
      by_order Greater (inl is) later = inl is
      by_order Greater (inr p) later = inr (later p)

  module _ (f : Key → Option A) where
    pub named_keeps : (a : A) (o : Option A) (ms : List A) → Among a ms → Among a (insert_named compare o ms)
    named_keeps a None ms p = p
    named_keeps a (Some n) ms p = insert_keeps a n ms p

    module _ (key : Key) (n : A) (is : f key ≡ Some n) where
      -- a write of the key, or what was there before it
      pub held_named : (h : List Entry) (k : ℕ) (who : Actor) (o : Option Write) (old : Option (Option Held)) (y : Held) → (join old ≡ Some y → Among n (written_names compare f h))
          → join (upper (holds h k who (at_key key o)) old) ≡ Some y → Among n (insert_named compare (named f o) (written_names compare f h))
      held_named h k who None old y p now = p now
      held_named h k who (Some w) old y p now = by_test (key_eq w.0 key) refl now
        where
          by_test : (b : Bool) → key_eq w.0 key ≡ b → join (upper (holds h k who (when b w.1)) old) ≡ Some y → Among n (insert_named compare (f w.0) (written_names compare f h))
          by_test true same now = subst (λ o. Among n (insert_named compare o (written_names compare f h))) (sym (ap f (same_key w.0 key same) ∙ is)) (insert_in n (written_names compare f h))
          by_test false same now = named_keeps n (f w.0) (written_names compare f h) (p now)

      pub stored_named : (h : List Entry) (y : Held) → stored key h ≡ Some y → Among n (written_names compare f h)
      stored_named [] y now = absurd (none_is y now)
      stored_named (e ∷ h) y now = held_named h e.beat e.actor (write_of e.fact) (last_write key h) y (stored_named h y) now

-- whatever is stored at a pod's key has its key among those of the pods
pub named_pod : (key : Key) → is_pod key.kind ≡ true → (h : List Entry) (y : Held) → stored key h ≡ Some y → Among key (pod_keys h)
named_pod key kind = stored_named key_cmp (λ a b is. same_key a b (ap is_eq is)) pod_key key key (ap (λ b. when b key) kind)

-- and every stored node's name is among those that a tick goes over
pub named_node : (n : ℕ) (h : List Entry) (y : Held) → stored (node_key n) h ≡ Some y → Among n (node_names h)
named_node n = stored_named nat_cmp same_name node_name (node_key n) n (ap (λ b. when b n) (key_itself (node_key n)))
  where
    same_name : (a b : ℕ) → nat_cmp a b ≡ Equal → a ≡ b
    same_name a b is = grind (arith, nat_tests)
