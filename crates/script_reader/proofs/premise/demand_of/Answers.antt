use Rattle.std.proofs.Common.{ap, ◌∙◌}
use Rattle.history.specs.Premise.{span_by}
use Rattle.script_reader.specs.Documents.{doc_of}
use Rattle.script_reader.proofs.LeaseLemmas.{process-is, span-few}
use Rattle.script_reader.proofs.premise.demand_of.Goals as goal

pub invariant_of-result-clause-acting_fits : goal.invariant_of-result-clause-acting_fits
invariant_of-result-clause-acting_fits c =
    span-few (doc_of c.args.document.now) c.args.controller c.span_by.result _ _ c.as_slice.ensures c.requires.controller c.requires.lawful.controllers c.span_by.ensures.fits

pub returns-clause-acting : goal.returns-clause-acting
returns-clause-acting c =
    let doc = doc_of c.args.document.now in
    c.span_by.ensures.is doc c.args.controller (process-is doc c.args.controller _ _ c.as_slice.ensures c.requires.controller)
    ∙ ap (λ calls. span_by calls doc c.args.controller) c.late_calls-calls.ensures
