-- What a change of one of the three shelves is to the values under keys.
use Rattle.std.proofs.Common.{◌≡◌, ℕ, cond, ◌&&◌, ◌==◌, ◌∙◌, Option, None, refl, sym, ap, arith, Less, Equal, Greater}
use Rattle.std.proofs.lemmas.Bool.Decides.{nat_tests}
use Rattle.std.specs.Ordering.{nat_cmp, ordering_then, is_eq}
use Rattle.std.specs.declared.cmp.Ordering.{Ordering}
use Rattle.kube_objects.specs.declared.key.Key.{Key}
use Rattle.kube_objects.specs.declared.key.Kind.{Kind}
use Rattle.kube_objects.specs.declared.key.Kind.TheVariants.{Node, Lease, Pod}
use Rattle.kube_objects.specs.Keys.{key_eq}
use Rattle.key_map.specs.Held.{held}
use Rattle.key_map.specs.Values.{shelf_of, value_at}
use Rattle.key_map.specs.declared.map.KeyMap.{KeyMap}
use Rattle.key_map.specs.declared.shelf.Shelf.{Shelf}

pub then_eq : (o p : Ordering) → is_eq (ordering_then o p) ≡ (is_eq o && is_eq p)
then_eq Less p = refl
then_eq Equal p = refl
then_eq Greater p = refl

pub number_eq : (a b : ℕ) → is_eq (nat_cmp a b) ≡ (a == b)
number_eq a b = grind (arith, nat_tests)

-- a namespace and a name that the order of keys doesn't tell apart are the same
same_is : (a b c d : ℕ) → ((a == c) && (b == d)) ≡ is_eq (ordering_then (nat_cmp a c) (nat_cmp b d))
same_is a b c d =
    sym (then_eq (nat_cmp a c) (nat_cmp b d) ∙ ap (λ t. t && is_eq (nat_cmp b d)) (number_eq a c) ∙ ap (λ t. (a == c) && t) (number_eq b d))

-- a namespace and a name as a key of a kind
abbrev pub key_of : Kind → ℕ → ℕ → Key
key_of kind space name = record { kind = kind; space = space; name = name }

module _ {V : Type 0} where
  -- a shelf has another value under a namespace and a name
  abbrev pub Puts : Shelf V → Shelf V → ℕ → ℕ → Option V → Type 0
  Puts old new space name w = (s n : ℕ) → held new s n ≡ cond ((space == s) && (name == n)) w (held old s n)

  put-held : (old new : Shelf V) (space name : ℕ) (w : Option V) → Puts old new space name w
      → (s n : ℕ) → held new s n ≡ cond (is_eq (ordering_then (nat_cmp space s) (nat_cmp name n))) w (held old s n)
  put-held old new space name w put s n = put s n ∙ ap (λ t. cond t w (held old s n)) (same_is space name s n)

  -- what is under a namespace and a name of a kind
  abbrev pub under : KeyMap V → Kind → ℕ → ℕ → Option V
  under map kind space name = value_at map (key_of kind space name)

  -- what is left under a key of a kind, where something was put or taken out at a key of that kind
  abbrev pub changed : (old : KeyMap V) (kind of : Kind) (space name s n : ℕ) (w : Option V) → Option V
  changed old kind of space name s n w = cond (key_eq (key_of kind space name) (key_of of s n)) w (under old of s n)

  node-changed : (old new : KeyMap V) (space name : ℕ) (w : Option V) → Puts old.nodes new.nodes space name w
      → new.leases ≡ old.leases → new.pods ≡ old.pods → (of : Kind) (s n : ℕ) → under new of s n ≡ changed old Node of space name s n w
  unfolding value_at
  node-changed old new space name w put leases pods Node s n = put-held old.nodes new.nodes space name w put s n
  node-changed old new space name w put leases pods Lease s n = ap (λ m. held m s n) leases
  node-changed old new space name w put leases pods Pod s n = ap (λ m. held m s n) pods

  lease-changed : (old new : KeyMap V) (space name : ℕ) (w : Option V) → Puts old.leases new.leases space name w
      → new.nodes ≡ old.nodes → new.pods ≡ old.pods → (of : Kind) (s n : ℕ) → under new of s n ≡ changed old Lease of space name s n w
  unfolding value_at
  lease-changed old new space name w put nodes pods Node s n = ap (λ m. held m s n) nodes
  lease-changed old new space name w put nodes pods Lease s n = put-held old.leases new.leases space name w put s n
  lease-changed old new space name w put nodes pods Pod s n = ap (λ m. held m s n) pods

  pod-changed : (old new : KeyMap V) (space name : ℕ) (w : Option V) → Puts old.pods new.pods space name w
      → new.nodes ≡ old.nodes → new.leases ≡ old.leases → (of : Kind) (s n : ℕ) → under new of s n ≡ changed old Pod of space name s n w
  unfolding value_at
  pod-changed old new space name w put nodes leases Node s n = ap (λ m. held m s n) nodes
  pod-changed old new space name w put nodes leases Lease s n = ap (λ m. held m s n) leases
  pod-changed old new space name w put nodes leases Pod s n = put-held old.pods new.pods space name w put s n

  -- from namespaces and names of one kind to keys
  by_kind : (old new : KeyMap V) (key : Key) (kind : Kind) (w : Option V) → key.kind ≡ kind
      → ((of : Kind) (s n : ℕ) → under new of s n ≡ changed old kind of key.space key.name s n w)
      → (k : Key) → value_at new k ≡ cond (key_eq key k) w (value_at old k)
  by_kind old new key kind w is each k =
      each k.kind k.space k.name ∙ ap (λ x. cond (key_eq (key_of x key.space key.name) k) w (value_at old k)) (sym is)

  -- a value was put under a key of each kind, or taken out
  pub node_changed : (old new : KeyMap V) (key : Key) (w : Option V) → key.kind ≡ Node → Puts old.nodes new.nodes key.space key.name w
      → new.leases ≡ old.leases → new.pods ≡ old.pods → (k : Key) → value_at new k ≡ cond (key_eq key k) w (value_at old k)
  node_changed old new key w is put leases pods = by_kind old new key Node w is (node-changed old new key.space key.name w put leases pods)

  pub lease_changed : (old new : KeyMap V) (key : Key) (w : Option V) → key.kind ≡ Lease → Puts old.leases new.leases key.space key.name w
      → new.nodes ≡ old.nodes → new.pods ≡ old.pods → (k : Key) → value_at new k ≡ cond (key_eq key k) w (value_at old k)
  lease_changed old new key w is put nodes pods = by_kind old new key Lease w is (lease-changed old new key.space key.name w put nodes pods)

  pub pod_changed : (old new : KeyMap V) (key : Key) (w : Option V) → key.kind ≡ Pod → Puts old.pods new.pods key.space key.name w
      → new.nodes ≡ old.nodes → new.leases ≡ old.leases → (k : Key) → value_at new k ≡ cond (key_eq key k) w (value_at old k)
  pod_changed old new key w is put nodes leases = by_kind old new key Pod w is (pod-changed old new key.space key.name w put nodes leases)

  -- what is under a key of each kind
  pub value_is : (m : KeyMap V) (key : Key) (kind : Kind) → key.kind ≡ kind → held (shelf_of m kind) key.space key.name ≡ value_at m key
  unfolding value_at
  value_is m key kind is = ap (λ x. held (shelf_of m x) key.space key.name) (sym is)

  none-of : (m : KeyMap V) → ((s n : ℕ) → held m.nodes s n ≡ None) → ((s n : ℕ) → held m.leases s n ≡ None) → ((s n : ℕ) → held m.pods s n ≡ None)
      → (kind : Kind) (s n : ℕ) → held (shelf_of m kind) s n ≡ None
  none-of m nodes leases pods Node = nodes
  none-of m nodes leases pods Lease = leases
  none-of m nodes leases pods Pod = pods

  -- three empty shelves have nothing under any key
  pub none_of : (m : KeyMap V) → ((s n : ℕ) → held m.nodes s n ≡ None) → ((s n : ℕ) → held m.leases s n ≡ None) → ((s n : ℕ) → held m.pods s n ≡ None)
      → (k : Key) → value_at m k ≡ None
  unfolding value_at
  none_of m nodes leases pods k = none-of m nodes leases pods k.kind k.space k.name

  same-of : (old new : KeyMap V) → ((s n : ℕ) → held new.nodes s n ≡ held old.nodes s n) → ((s n : ℕ) → held new.leases s n ≡ held old.leases s n)
      → ((s n : ℕ) → held new.pods s n ≡ held old.pods s n) → (kind : Kind) (s n : ℕ) → held (shelf_of new kind) s n ≡ held (shelf_of old kind) s n
  same-of old new nodes leases pods Node = nodes
  same-of old new nodes leases pods Lease = leases
  same-of old new nodes leases pods Pod = pods

  -- the same on each shelf, and so under each key
  pub same_of : (old new : KeyMap V) → ((s n : ℕ) → held new.nodes s n ≡ held old.nodes s n) → ((s n : ℕ) → held new.leases s n ≡ held old.leases s n)
      → ((s n : ℕ) → held new.pods s n ≡ held old.pods s n) → (k : Key) → value_at new k ≡ value_at old k
  unfolding value_at
  same_of old new nodes leases pods k = same-of old new nodes leases pods k.kind k.space k.name
