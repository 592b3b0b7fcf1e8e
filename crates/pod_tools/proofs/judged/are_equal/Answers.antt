use Rattle.std.proofs.Common.{sym, ◌∙◌}
use Rattle.taint_match.proofs.Same.{same_tolerations}
use Rattle.pod_tools.proofs.judged.are_equal.Goals as goal

pub returns : goal.returns
returns c is = same_tolerations c.args.some.now c.args.others.now (sym c.eq.ensures ∙ is)
