use Rattle.std.proofs.Common.{◌∙◌, ap}
use Rattle.node_health.specs.Kept.{is_listed}
use Rattle.node_health.proofs.Nodes.{filter-listed}
use Rattle.node_health.proofs.listed.list_anew.Goals as goal

pub returns-then-len-listed : goal.returns-then-len-listed
returns-then-len-listed c node kept there =
    ap (λ l. is_listed l node) c.keep_listed.ensures ∙ filter-listed (is_listed c.args.listed.now) c.args.names.now.items node kept ∙ there
