-- What is seen has a name that was written, and the names written ascend.
use Rattle.std.proofs.Common.{◌≡◌, ◌∙◌, ◌⊎◌, inl, inr, ℕ, Bool, true, false, List, [], ◌∷◌, Option, Some, None, refl, ap, Less, Equal, Greater}
use Rattle.std.specs.Ordering.{nat_cmp, ordering_reverse}
use Rattle.std.specs.declared.cmp.Ordering.{Ordering}
use Rattle.kube_base.specs.declared.numbers.Version.{Version}
use Rattle.kube_objects.specs.declared.deed.Actor.{Actor}
use Rattle.kube_objects.specs.declared.key.Key.{Key}
use Rattle.kube_objects.specs.declared.node.Node.{Node}
use Rattle.kube_objects.specs.declared.object.Object.{Object}
use Rattle.kube_objects.specs.declared.pod.Pod.{Pod}
use Rattle.kube_objects.specs.Answers.{as_kind, node_in}
use Rattle.kube_objects.specs.Entry.{Entry, Identity, Fact, Ticks, Tick, Sync}
use Rattle.kube_objects.specs.Identities.{is_by}
use Rattle.kube_objects.specs.Keys.{key_cmp}
use Rattle.kube_objects.specs.Newest.{when, only_if, join}
use Rattle.kube_objects.specs.Seen.{tick_shows, seen_says, seen, pod_in, seen_node, seen_pod, insert_once, insert_named, named, written_names, node_name, is_pod, pod_key, node_names, pod_keys}
use Rattle.kube_objects.specs.Stored.{Held, tick_write, write_of, node_key}
use Rattle.kube_objects.proofs.KeyOrder.{key_itself}
use Rattle.history_laws.proofs.Named.{held_named, named_keeps, stored_named}
use Rattle.history_laws.proofs.Plainly.{none_is}
use Rattle.tick_laws.specs.Walks.{IsStrict, Among, Above, Ascends}
use Rattle.tick_laws.proofs.Orders.{names_strict, keys_strict}
use Rattle.watch_cache.proofs.Frames.{upper, last_seen}

module _ {A : Type 0} (compare : A → A → Ordering) (strict : IsStrict compare) where
  -- what is among them after an insertion was there, or is the new one
  pub insert_only : (a n : A) (ms : List A) → Among a (insert_once compare n ms) → (a ≡ n) ⊎ Among a ms
  insert_only a n [] p = p
  insert_only a n (m ∷ ms) p = by_order (compare n m) p (insert_only a n ms)
    where
      after_it : (a ≡ n) ⊎ Among a ms → (a ≡ n) ⊎ Among a (m ∷ ms)
      after_it (inl is) = inl is
      after_it (inr p) = inr (inr p)

      by_order : (o : Ordering) → Among a (elim o [ Less ↦ n ∷ m ∷ ms | Equal ↦ m ∷ ms | Greater ↦ m ∷ insert_once compare n ms ]) → (Among a (insert_once compare n ms) → (a ≡ n) ⊎ Among a ms) → (a ≡ n) ⊎ Among a (m ∷ ms)
      by_order Less p later = p
      by_order Equal p later = inr p
      by_order Greater (inl is) later = inr (inl is)
      by_order Greater (inr p) later = after_it (later p)

  above_more : (a b : A) (ms : List A) → compare a b ≡ Less → Above compare b ms → Above compare a ms
  above_more a b [] less p = tt
  above_more a b (m ∷ ms) less p = (strict.total.trans a b m less p.0, above_more a b ms less p.1)

  above_insert : (a n : A) (ms : List A) → compare a n ≡ Less → Above compare a ms → Above compare a (insert_once compare n ms)
  above_insert a n [] less p = (less, tt)
  above_insert a n (m ∷ ms) less p = by_order (compare n m) (above_insert a n ms less p.1)
    where
      by_order : (o : Ordering) → Above compare a (insert_once compare n ms) → Above compare a (elim o [ Less ↦ n ∷ m ∷ ms | Equal ↦ m ∷ ms | Greater ↦ m ∷ insert_once compare n ms ])
      by_order Less later = (less, p)
      by_order Equal later = p
      by_order Greater later = (p.0, later)

  pub ascends_insert : (n : A) (ms : List A) → Ascends compare ms → Ascends compare (insert_once compare n ms)
  ascends_insert n [] p = (tt, tt)
  ascends_insert n (m ∷ ms) p = by_order (compare n m) refl (ascends_insert n ms p.1)
    where
      by_order : (o : Ordering) → compare n m ≡ o → Ascends compare (insert_once compare n ms) → Ascends compare (elim o [ Less ↦ n ∷ m ∷ ms | Equal ↦ m ∷ ms | Greater ↦ m ∷ insert_once compare n ms ])
      by_order Less is later = ((is, above_more n m ms is p.0), p)
      by_order Equal is later = p
      by_order Greater is later = (above_insert m n ms (strict.total.antisymm m n ∙ ap ordering_reverse is) p.0, later)

  module _ (f : Key → Option A) where
    ascends_named : (o : Option A) (ms : List A) → Ascends compare ms → Ascends compare (insert_named compare o ms)
    ascends_named None ms p = p
    ascends_named (Some n) ms p = ascends_insert n ms p

    pub names_ascend : (h : List Entry) → Ascends compare (written_names compare f h)
    names_ascend [] = tt
    names_ascend (e ∷ h) = ascends_named (named f (write_of e.fact)) (written_names compare f h) (names_ascend h)

    module _ (key : Key) (n : A) (is : f key ≡ Some n) where
      seen_more : (q : Identity) (e : Entry) (h : List Entry) (y : Held) → (seen q key h ≡ Some y → Among n (written_names compare f h)) → seen q key (e ∷ h) ≡ Some y → Among n (written_names compare f (e ∷ h))
      seen_more q e h y p now = cases e.actor e.fact now
        where
          own : (who : Actor) (t : Tick) → join (upper (tick_shows key e.beat who t h) (last_seen q key h)) ≡ Some y → Among n (insert_named compare (named f (tick_write t)) (written_names compare f h))
          own who Sync now = stored_named compare strict.same f key n is h y now
          own who t now = held_named compare strict.same f key n is h e.beat who (tick_write t) (last_seen q key h) y p now

          by_test : (who : Actor) (t : Tick) (b : Bool) → join (upper (only_if b (tick_shows key e.beat who t h)) (last_seen q key h)) ≡ Some y → Among n (insert_named compare (named f (tick_write t)) (written_names compare f h))
          by_test who t true now = own who t now
          by_test who t false now = named_keeps compare strict.same f n (named f (tick_write t)) (written_names compare f h) (p now)

          cases : (who : Actor) (d : Fact) → join (upper (seen_says q key e.beat who d h) (last_seen q key h)) ≡ Some y → Among n (insert_named compare (named f (write_of d)) (written_names compare f h))
          cases who (Ticks t) now = by_test who t (is_by q who) now
          cases who d now = named_keeps compare strict.same f n (named f (write_of d)) (written_names compare f h) (p now)

      pub seen_named : (q : Identity) (h : List Entry) (y : Held) → seen q key h ≡ Some y → Among n (written_names compare f h)
      seen_named q [] y now = absurd (none_is y now)
      seen_named q (e ∷ h) y now = seen_more q e h y (seen_named q h y) now

-- what is seen of a kind is held
pub kind_held : {A : Type 0} (f : Object → Option A) (o : Option Held) (x : Version × A) → as_kind f o ≡ Some x → (y : Held) × (o ≡ Some y)
kind_held f None x is = absurd (none_is x is)
kind_held f (Some y) x is = (y, refl)

pub node_names_ascend : (h : List Entry) → Ascends nat_cmp (node_names h)
node_names_ascend h = names_ascend nat_cmp names_strict node_name h

pub pod_keys_ascend : (h : List Entry) → Ascends key_cmp (pod_keys h)
pod_keys_ascend h = names_ascend key_cmp keys_strict pod_key h

-- a node that is seen is among the nodes' names
pub node_is_named : (q : Identity) (name : ℕ) (h : List Entry) (x : Version × Node) → seen_node q name h ≡ Some x → Among name (node_names h)
node_is_named q name h x is =
    let held = kind_held node_in (seen q (node_key name) h) x is in
    seen_named nat_cmp names_strict node_name (node_key name) name (ap (λ b. when b name) (key_itself (node_key name))) q h held.0 held.1

-- a pod that is seen at a pod's key is among the pods' keys
pub pod_is_named : (q : Identity) (key : Key) (h : List Entry) (x : Version × Pod) → is_pod key.kind ≡ true → seen_pod q key h ≡ Some x → Among key (pod_keys h)
pod_is_named q key h x kind is =
    let held = kind_held pod_in (seen q key h) x is in
    seen_named key_cmp keys_strict pod_key key key (ap (λ b. when b key) kind) q h held.0 held.1
