-- Writes of nodes that a tick tries.
use Rattle.std.specs.Prelude.{◌≡◌, ℕ, Bool, true, false, Option}
use Rattle.kube_objects.specs.declared.call.Answer.{Answer}
use Rattle.kube_objects.specs.declared.deed.Act.{Act}
use Rattle.kube_objects.specs.declared.deed.Act.TheVariants as act
use Rattle.kube_objects.specs.declared.key.Key.{Key}
use Rattle.kube_objects.specs.declared.node.Node.{Node}
use Rattle.kube_objects.specs.Entry.{Tick}
use Rattle.kube_objects.specs.Newest.{only_if}
use Rattle.kube_objects.specs.Stored.{node_key}
use Rattle.history.specs.Printed.{map_answer, tick_act}
use Rattle.watch_cache.specs.Stands.{refused_key}
use Rattle.tick_laws.specs.Changes.{IsTryOn, refused_by}
use Rattle.term_state.specs.declared.writes.NodeWrite.{NodeWrite}
use Rattle.term_state.specs.declared.writes.NodeWrite.TheVariants.{Mark, Untaint, Swap, Taint}

-- what is told of one that was answered
abbrev pub act_for : NodeWrite → ℕ → Answer → Act
act_for (Mark reason) name answer = act.Marked name reason answer
act_for Untaint name answer = act.Untainted name answer
act_for (Swap wanted) name answer = act.Swapped name wanted answer
act_for (Taint wanted) name answer = act.Tainted name wanted answer

-- whether the node is stale where it is refused
abbrev pub makes_stale : NodeWrite → Bool
makes_stale Untaint = true
makes_stale (Swap wanted) = true
makes_stale _ = false

-- the key that becomes stale, by the answer
abbrev pub stale_by : NodeWrite → ℕ → Option Answer → Option Key
stale_by write name tried = only_if (makes_stale write) (refused_by (node_key name) tried)

-- an entry of a tick is such a write, and was answered so
pub record IsWrite (write : NodeWrite) (name : ℕ) (written : Node) (tried : Option Answer) (t : Tick) : Type 0 where
  pub try : IsTryOn name written tried t
  pub stale : refused_key t ≡ stale_by write name tried
  pub act : tick_act t ≡ map_answer (λ answer. act_for write name answer) tried
