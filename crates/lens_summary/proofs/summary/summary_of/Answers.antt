use Rattle.lens_summary.proofs.TogetherLaws.{beats-of-two-counted}
use Rattle.lens_summary.proofs.summary.summary_of.Goals as goal

pub returns-clause-together : goal.returns-clause-together
returns-clause-together c end ls = beats-of-two-counted end ls
