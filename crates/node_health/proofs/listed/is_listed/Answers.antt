use Rattle.std.proofs.Common.{◌∙◌}
use Rattle.node_health.proofs.Searches.{found-listed}
use Rattle.node_health.proofs.listed.is_listed.Goals as goal

pub returns-then-ascends : goal.returns-then-ascends
returns-then-ascends c sorted = c.is_ok.ensures.value ∙ found-listed c.args.names.now c.args.name c.binary_search.result (sorted c.if-ascends.true) c.binary_search.ensures.position
