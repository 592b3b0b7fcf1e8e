-- Items that a manifest can give with these names and controllers: each value is in its range or grammar, no key and no taint stands twice,
-- and no limit is passed.
use Rattle.std.specs.Prelude.{◌≡◌, ℕ, ℤ, pos, negsuc, ◌%◌, ◌^◌, ◌<◌, ◌≤◌, ◌==◌, ◌&&◌, not, nat_lt, Bool, true, false, List, []}
use Rattle.std.specs.Prelude.{◌∷◌, ◌++◌, length, map, position, slice_get, Option, Some, None, unwrap_or}
use Rattle.std.specs.List.{AllByRecursion, IsDistinct, list_any}
use Rattle.kube_base.specs.Times.{last_wall}
use Rattle.kube_base.specs.declared.numbers.Wall.{Wall}
use Rattle.kube_objects.specs.Keys.{key_eq}
use Rattle.kube_objects.specs.declared.key.Key.{Key}
use Rattle.kube_objects.specs.declared.key.Kind.TheVariants as kinds
use Rattle.kube_objects.specs.declared.lease.Holder.{Holder}
use Rattle.kube_objects.specs.declared.lease.Holder.TheVariants as holders
use Rattle.kube_objects.specs.declared.lease.Lease.{Lease}
use Rattle.kube_objects.specs.declared.node.Node.{Node}
use Rattle.kube_objects.specs.declared.node.Ready.{Ready}
use Rattle.kube_objects.specs.declared.node.Taint.{Taint}
use Rattle.kube_objects.specs.declared.object.Object.{Object}
use Rattle.kube_objects.specs.declared.object.Object.TheVariants as objects
use Rattle.kube_objects.specs.declared.pod.Pod.{Pod}
use Rattle.kube_objects.specs.declared.pod.Toleration.{Toleration}
use Rattle.manifest_json.specs.declared.scale.Scale.{Scale}
use Rattle.manifest_json.specs.Fields.{Texts, is_name, is_label}
use Rattle.manifest_json.specs.Walk.{same_taint, is_lawful, identity_of, has_key, kind_count, kind_limit}
use Rattle.manifest_json.specs.Written.{text_of}

-- ---- values

-- the names hold the number
abbrev pub IsHeld : Texts → ℕ → Type 0
IsHeld names n = n < length names

abbrev pub AreHeld : Texts → List ℕ → Type 0
AreHeld names known = AllByRecursion (IsHeld names) known

-- the text of the number is not empty
abbrev pub IsFilled : Texts → ℕ → Type 0
IsFilled names n = (length (text_of names n) == 0) ≡ false

abbrev pub IsNameNumber : Texts → ℕ → Type 0
IsNameNumber names n = IsHeld names n × (is_name (text_of names n) ≡ true)

abbrev pub IsLabelNumber : Texts → ℕ → Type 0
IsLabelNumber names n = IsHeld names n × (is_label (text_of names n) ≡ true)

-- a time, if there is one, is not after 2261
abbrev pub IsTime : Option Wall → Type 0
IsTime None = Unit {0}
IsTime (Some w) = w.0 ≤ last_wall

-- and has no part of a second
abbrev pub IsWholeSecond : Option Wall → Type 0
IsWholeSecond None = Unit {0}
IsWholeSecond (Some w) = (w.0 ≤ last_wall) × (w.0 % 1_000_000 ≡ 0)

-- a count of 31 bits
abbrev pub IsCount : Option ℕ → Type 0
IsCount None = Unit {0}
IsCount (Some n) = n ≤ 2_147_483_647

-- a number of 64 bits with its sign
abbrev pub IsSigned : Option ℤ → Type 0
IsSigned None = Unit {0}
IsSigned (Some (pos n)) = n < 2 ^ 63
IsSigned (Some (negsuc n)) = n < 2 ^ 63

-- ---- Nodes

pub record IsReadableTaint (names : Texts) (t : Taint) : Type 0 where
  pub key : IsHeld names t.key
  pub filled : IsFilled names t.key
  pub value : IsHeld names t.value
  pub added : IsWholeSecond t.added

-- each taint has another key or effect than those before it
abbrev pub taints_differ : List Taint → List Taint → Bool
taints_differ earlier [] = true
taints_differ earlier (t ∷ rest) = not (list_any (same_taint t) earlier) && taints_differ (earlier ++ t ∷ []) rest

pub record IsReadableCondition (names : Texts) (r : Ready) : Type 0 where
  pub reason : IsHeld names r.reason
  pub heartbeat : IsWholeSecond r.heartbeat
  pub transition : IsWholeSecond r.transition

abbrev pub IsReadableReady : Texts → Option Ready → Type 0
IsReadableReady names None = Unit {0}
IsReadableReady names (Some r) = IsReadableCondition names r

pub record IsReadableNode (names : Texts) (key : Key) (n : Node) : Type 0 where
  pub kind : key.kind ≡ kinds.Node
  pub space : key.space ≡ 0
  pub name : IsNameNumber names key.name
  pub region : IsLabelNumber names n.region
  pub zone : IsLabelNumber names n.zone
  pub taints : AllByRecursion (IsReadableTaint names) n.taints
  pub few : length n.taints ≤ 100
  pub differ : taints_differ [] n.taints ≡ true
  pub ready : IsReadableReady names n.ready

-- ---- Leases

-- nobody; the identity of a controller, which is the first of its name, with an incarnation of 32 bits; or a text that is no identity
abbrev pub IsReadableHolder : Texts → List ℕ → Holder → Type 0
IsReadableHolder names known holders.Nobody = Unit {0}
IsReadableHolder names known (holders.Proc p incarnation) =
    IsHeld names (unwrap_or (slice_get known p.0) 0) × (position (λ other. unwrap_or (slice_get known p.0) 0 == other) known ≡ Some p.0)
    × (1 ≤ incarnation) × (incarnation ≤ 4_294_967_295)
IsReadableHolder names known (holders.Foreign n) = IsHeld names n × IsFilled names n × (identity_of names known (text_of names n) ≡ None)

pub record IsReadableLease (names : Texts) (known : List ℕ) (key : Key) (l : Lease) : Type 0 where
  pub kind : key.kind ≡ kinds.Lease
  pub space : IsNameNumber names key.space
  pub name : IsNameNumber names key.name
  pub holder : IsReadableHolder names known l.holder
  pub duration : IsCount l.duration
  pub acquired : IsTime l.acquired
  pub renewed : IsTime l.renewed
  pub transitions : IsCount l.transitions

-- ---- Pods

pub record IsReadableToleration (names : Texts) (t : Toleration) : Type 0 where
  pub key : IsHeld names t.key
  pub value : IsHeld names t.value
  pub seconds : IsSigned t.seconds
  pub lawful : is_lawful t ≡ true

-- a node's name, or the empty text
abbrev pub IsNodeNumber : Texts → ℕ → Type 0
IsNodeNumber names n = IsHeld names n × (IsFilled names n → is_name (text_of names n) ≡ true)

pub record IsReadablePod (names : Texts) (key : Key) (p : Pod) : Type 0 where
  pub kind : key.kind ≡ kinds.Pod
  pub space : IsNameNumber names key.space
  pub name : IsNameNumber names key.name
  pub node : IsNodeNumber names p.node
  pub tolerations : AllByRecursion (IsReadableToleration names) p.tolerations
  pub few : length p.tolerations ≤ 100

-- ---- lists

abbrev pub IsReadableItem : Texts → List ℕ → Key × Object → Type 0
IsReadableItem names known (key, objects.Node n) = IsReadableNode names key n
IsReadableItem names known (key, objects.Lease l) = IsReadableLease names known key l
IsReadableItem names known (key, objects.Pod p) = IsReadablePod names key p

-- no two of these items have the same key
abbrev pub AreKeyedApart : List (Key × Object) → Type 0
AreKeyedApart items = IsDistinct key_eq (map (λ item. item.0) items)

-- each item has a new key, and there is room for one more of its kind
abbrev pub items_fit : Scale → List (Key × Object) → List (Key × Object) → Bool
items_fit scale earlier [] = true
items_fit scale earlier (i ∷ rest) =
    not (has_key i.0 earlier) && nat_lt (kind_count i.0.kind earlier) (kind_limit scale i.0.kind)
    && items_fit scale (earlier ++ i ∷ []) rest

pub record IsReadable (scale : Scale) (names : Texts) (known : List ℕ) (items : List (Key × Object)) : Type 0 where
  pub each : AllByRecursion (IsReadableItem names known) items
  pub fit : items_fit scale [] items ≡ true
