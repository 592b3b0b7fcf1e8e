use Rattle.std.proofs.Common.{◌∙◌}
use Rattle.script_reader.specs.Documents.{doc_of}
use Rattle.script_reader.proofs.LeaseLemmas.{long-is}
use Rattle.script_reader.proofs.premise.is_long.Goals as goal

pub returns : goal.returns
returns c =
    c.outlasts.ensures
    ∙ long-is (doc_of c.args.document.now) c.args.controller c.args.greatest c.waited_seconds.result c.demand_of.result.stall c.demand_of.result.acting_millis c.rates_of.result.least
    c.waited_seconds.ensures c.demand_of.ensures.stall c.demand_of.ensures.acting c.rates_of.ensures.least
