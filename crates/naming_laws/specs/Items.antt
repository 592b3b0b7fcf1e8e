-- Objects that can be written as a manifest, given the names and how many controllers there are. Source: profile.
use Rattle.std.specs.Prelude.{ℕ, ◌<◌, Option, Some, None}
use Rattle.std.specs.List.{AllByRecursion}
use Rattle.kube_objects.specs.declared.key.Key.{Key}
use Rattle.kube_objects.specs.declared.lease.Holder.{Holder}
use Rattle.kube_objects.specs.declared.lease.Holder.TheVariants as holder
use Rattle.kube_objects.specs.declared.lease.Lease.{Lease}
use Rattle.kube_objects.specs.declared.node.Node.{Node}
use Rattle.kube_objects.specs.declared.node.Ready.{Ready}
use Rattle.kube_objects.specs.declared.node.Taint.{Taint}
use Rattle.kube_objects.specs.declared.object.Object.{Object}
use Rattle.kube_objects.specs.declared.object.Object.TheVariants as object
use Rattle.kube_objects.specs.declared.pod.Pod.{Pod}
use Rattle.kube_objects.specs.declared.pod.Toleration.{Toleration}
use Rattle.kube_objects.specs.Kinds.{IsOfKind}
use Rattle.manifest_json.specs.Fields.{Texts}
use Rattle.manifest_json.specs.Readable.{IsHeld, IsTime}

-- the names hold its numbers, and no time is after 2261
pub record IsWritableTaint (names : Texts) (t : Taint) : Type 0 where
  pub key : IsHeld names t.key
  pub value : IsHeld names t.value
  pub added : IsTime t.added

pub record IsWritableCondition (names : Texts) (r : Ready) : Type 0 where
  pub reason : IsHeld names r.reason
  pub heartbeat : IsTime r.heartbeat
  pub transition : IsTime r.transition

abbrev pub IsWritableReady : Texts → Option Ready → Type 0
IsWritableReady names None = Unit {0}
IsWritableReady names (Some r) = IsWritableCondition names r

pub record IsWritableNode (names : Texts) (n : Node) : Type 0 where
  pub region : IsHeld names n.region
  pub zone : IsHeld names n.zone
  pub taints : AllByRecursion (IsWritableTaint names) n.taints
  pub ready : IsWritableReady names n.ready

-- nobody, one of so many controllers, or a held text
abbrev pub IsWritableHolder : Texts → ℕ → Holder → Type 0
IsWritableHolder names controllers holder.Nobody = Unit {0}
IsWritableHolder names controllers (holder.Proc process incarnation) = process.0 < controllers
IsWritableHolder names controllers (holder.Foreign n) = IsHeld names n

pub record IsWritableLease (names : Texts) (controllers : ℕ) (l : Lease) : Type 0 where
  pub holder : IsWritableHolder names controllers l.holder
  pub acquired : IsTime l.acquired
  pub renewed : IsTime l.renewed

pub record IsWritableToleration (names : Texts) (t : Toleration) : Type 0 where
  pub key : IsHeld names t.key
  pub value : IsHeld names t.value

pub record IsWritablePod (names : Texts) (p : Pod) : Type 0 where
  pub node : IsHeld names p.node
  pub tolerations : AllByRecursion (IsWritableToleration names) p.tolerations

abbrev pub IsWritableObject : Texts → ℕ → Object → Type 0
IsWritableObject names controllers (object.Node n) = IsWritableNode names n
IsWritableObject names controllers (object.Lease l) = IsWritableLease names controllers l
IsWritableObject names controllers (object.Pod p) = IsWritablePod names p

-- the object is of its key's kind, and the names hold the numbers of both
pub record IsWritableItem (names : Texts) (controllers : ℕ) (key : Key) (x : Object) : Type 0 where
  pub kind : IsOfKind key x
  pub space : IsHeld names key.space
  pub name : IsHeld names key.name
  pub object : IsWritableObject names controllers x
