use Rattle.std.proofs.Common.{◌∙◌, ap}
use Rattle.controller_core.specs.Looking.{wants_seen}
use Rattle.term_state.specs.ClusterStands.{no_node, no_pod}
use Rattle.controller_core.proofs.pass.found.wanted.Goals as goal

pub returns-in-None : goal.returns-in-None
returns-in-None c q h s synced = ap wants_seen (c.in-None.ensures q h no_node no_pod s synced)

pub returns-in-Some : goal.returns-in-Some
returns-in-Some c q h s synced = c.ready_wants.ensures ∙ ap wants_seen (c.in-Some.ensures q h no_node no_pod s synced)
