use Rattle.std.proofs.Common.{rules}
use Rattle.std.proofs.lemmas.Fn.{filter_same}
use Rattle.node_health.proofs.listed.keep_listed.Goals as goal

pub returns : goal.returns
returns c = filter_same _ _ _ (λ x b f' t. search (rules, c.requires)) _ _ c.retain.ensures.filtered
