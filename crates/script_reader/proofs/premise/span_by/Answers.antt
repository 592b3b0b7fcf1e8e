use Rattle.std.proofs.Common.{◌+◌, ◌*◌, min, ◌∙◌}
use Rattle.kube_objects.specs.Document.{of_millis}
use Rattle.script_reader.proofs.LeaseLemmas.{span-is}
use Rattle.script_reader.proofs.premise.span_by.Goals as goal

pub returns-clause-is : goal.returns-clause-is
returns-clause-is c =
    λ doc p is.
    (λ i.
    of_millis
    (c.from-timeout.ensures i + c.from-2.ensures i + c.from-renew.ensures i
    + (c.min-late.ensures ∙ (λ j. min (c.from-timeout.ensures j * c.from.ensures j) (c.from-renew.ensures j))) i))
    ∙ span-is c.args.calls c.args.process.now doc p is
