use Rattle.std.proofs.Common.{◌∙◌}
use Rattle.std.proofs.lemmas.Map.Keys.{non_decreasing_from_sorted}
use Rattle.node_health.proofs.Searches.{found-listed}
use Rattle.controller_core.proofs.pass.found.holds.Goals as goal

pub returns : goal.returns
returns c sorted =
    c.is_ok.ensures.value ∙ found-listed c.args.names.now c.args.name c.binary_search.result (non_decreasing_from_sorted c.args.names.now sorted) c.binary_search.ensures.position
