-- Objects of which a manifest can give each value, with these names and these controllers, whose names' numbers are known. How many taints,
-- tolerations or objects there are isn't asked: that is for the limits. Source: profile.
use Rattle.std.specs.Prelude.{◌≡◌, ℕ, ◌≤◌, true, List, [], length}
use Rattle.std.specs.List.{AllByRecursion}
use Rattle.kube_objects.specs.declared.key.Key.{Key}
use Rattle.kube_objects.specs.declared.key.Kind.{Kind}
use Rattle.kube_objects.specs.declared.lease.Lease.{Lease}
use Rattle.kube_objects.specs.declared.node.Node.{Node}
use Rattle.kube_objects.specs.declared.object.Object.{Object}
use Rattle.kube_objects.specs.declared.object.Object.TheVariants as object
use Rattle.kube_objects.specs.declared.pod.Pod.{Pod}
use Rattle.kube_objects.specs.Kinds.{IsOfKind}
use Rattle.manifest_json.specs.declared.scale.Scale.{Scale}
use Rattle.manifest_json.specs.Fields.{Texts}
use Rattle.manifest_json.specs.Readable.{IsLabelNumber, IsNodeNumber, IsTime, IsCount, IsReadableTaint, IsReadableReady, IsReadableHolder, IsReadableToleration, taints_differ}
use Rattle.manifest_json.specs.Walk.{kind_count, kind_limit}
use Rattle.script_reader.specs.Lawful.{IsNamedKey}

pub record IsWellFormedNode (names : Texts) (n : Node) : Type 0 where
  pub region : IsLabelNumber names n.region
  pub zone : IsLabelNumber names n.zone
  pub taints : AllByRecursion (IsReadableTaint names) n.taints
  pub differ : taints_differ [] n.taints ≡ true
  pub ready : IsReadableReady names n.ready

pub record IsWellFormedLease (names : Texts) (known : List ℕ) (l : Lease) : Type 0 where
  pub holder : IsReadableHolder names known l.holder
  pub duration : IsCount l.duration
  pub acquired : IsTime l.acquired
  pub renewed : IsTime l.renewed
  pub transitions : IsCount l.transitions

pub record IsWellFormedPod (names : Texts) (p : Pod) : Type 0 where
  pub node : IsNodeNumber names p.node
  pub tolerations : AllByRecursion (IsReadableToleration names) p.tolerations

abbrev pub IsWellFormedObject : Texts → List ℕ → Object → Type 0
IsWellFormedObject names known (object.Node n) = IsWellFormedNode names n
IsWellFormedObject names known (object.Lease l) = IsWellFormedLease names known l
IsWellFormedObject names known (object.Pod p) = IsWellFormedPod names p

-- the object is of its key's kind, and the key is one of names
pub record IsWellFormedItem (names : Texts) (known : List ℕ) (key : Key) (x : Object) : Type 0 where
  pub kind : IsOfKind key x
  pub named : IsNamedKey names key
  pub object : IsWellFormedObject names known x

-- the incarnations of identities
abbrev pub IsIncarnation : ℕ → Type 0
IsIncarnation i = (1 ≤ i) × (i ≤ 4_294_967_295)

-- ---- limits

-- no more taints or tolerations than a manifest may have
abbrev pub IsWithinLimits : Object → Type 0
IsWithinLimits (object.Node n) = length n.taints ≤ 100
IsWithinLimits (object.Lease l) = Unit {0}
IsWithinLimits (object.Pod p) = length p.tolerations ≤ 100

-- nor more objects of a kind than a document of this scale
pub record AreWithinLimits (scale : Scale) (items : List (Key × Object)) : Type 0 where
  pub each : AllByRecursion (λ i. IsWithinLimits i.1) items
  pub kinds : (kind : Kind) → kind_count kind items ≤ kind_limit scale kind
