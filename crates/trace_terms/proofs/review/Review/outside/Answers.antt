use Rattle.std.proofs.Common.{ap, ◌∙◌}
use Rattle.trace_terms.specs.Findings.{earlier}
use Rattle.trace_terms.specs.Seats.{first_acting}
use Rattle.trace_terms.proofs.ReviewLaws.{first-outside}
use Rattle.trace_terms.proofs.review.Review.outside.Goals as goal

pub returns : goal.returns
returns c millis end es h =
    c.earlier.ensures
    ∙ ap (λ l. earlier c.args.self.now.findings.outside l) (c.first_of.ensures ∙ ap (λ ss. first_acting ss) c.deref.ensures.value)
    ∙ first-outside millis end es c.args.self.now h
