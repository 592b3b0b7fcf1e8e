-- The watches and statuses of a document's processes in a history.
use Rattle.std.specs.Prelude.{◌≡◌, ℕ, List, Some, length, slice_get}
use Rattle.kube_objects.specs.declared.script.Proc.{Proc}
use Rattle.kube_objects.specs.Document.{Doc, processes}
use Rattle.kube_objects.specs.Entry.{Entry}
use Rattle.kube_objects.specs.InForce.{watches, posted_status}
use Rattle.world_process.specs.declared.in_force.InForce.{InForce}
use Rattle.world_process.specs.declared.in_force.Standing.{Standing}

-- as the document has it
abbrev pub standing_first : Proc → Standing
standing_first x = record { watch = x.watch; status = x.ready }

-- what is kept of a process is in force
pub record StandingOf (doc : Doc) (p : ℕ) (h : List Entry) (s : Standing) : Type 0 where
  pub watch : s.watch ≡ watches doc p h
  pub status : s.status ≡ posted_status doc p h

-- it is kept of every process
pub record InForceStands (doc : Doc) (h : List Entry) (x : InForce) : Type 0 where
  pub count : length x.standing.items ≡ processes doc
  pub each : (p : ℕ) (s : Standing) → slice_get x.standing.items p ≡ Some s → StandingOf doc p h s
