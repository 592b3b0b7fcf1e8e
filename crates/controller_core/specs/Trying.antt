-- What a try of a node adds.
use Rattle.std.specs.Prelude.{◌≡◌, ℕ, true, List, Option, Some, None}
use Rattle.kube_objects.specs.Entry.{Entry, Identity, Tick}
use Rattle.kube_objects.specs.Newest.{has}
use Rattle.kube_objects.specs.Seen.{seen_node}
use Rattle.kube_objects.specs.Tick.{add}
use Rattle.kube_objects.specs.Tries.{try_node}
use Rattle.term_state.specs.Writes.{IsWrite}
use Rattle.term_state.specs.declared.node_try.NodeTry.{NodeTry}

-- the entry of this try, of a node that is seen
pub record AddsTry (k : ℕ) (q : Identity) (h g : List Entry) (x : NodeTry) : Type 0 where
  pub tick : Tick
  pub adds : add k q tick h ≡ g
  pub write : IsWrite x.write x.name x.written (try_node q x.name x.given h) tick
  pub seen : has (seen_node q x.name h) ≡ true

-- nothing, or that entry
abbrev pub IsTryOf : ℕ → Identity → List Entry → List Entry → Option NodeTry → Type 0
IsTryOf k q h g None = g ≡ h
IsTryOf k q h g (Some x) = AddsTry k q h g x
