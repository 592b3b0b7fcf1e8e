use Rattle.std.proofs.Common.{Some, None, refl, sym, ap, ◌∙◌}
use Rattle.trace_audit.proofs.VerdictLaws.{judged-wrong, judged-crossed, judged-told, told}
use Rattle.trace_audit.proofs.audit_of.verdict.Goals as goal

pub returns-in-Some : goal.returns-in-Some
returns-in-Some c header text h count = judged-wrong header text c.args.pass.now c.in-Some.line h c.in-Some.is

pub returns-in-Some-crossed : goal.returns-in-Some-crossed
returns-in-Some-crossed c header text h count =
    judged-crossed header text c.args.pass.now c.in-Some-crossed.line h c.in_default.is c.in-Some-crossed.is

pub returns-in-Some-outside : goal.returns-in-Some-outside
returns-in-Some-outside c header text h count =
    judged-told header text c.args.pass.now c.outside.result None (Some c.in-Some-outside.line) _ h c.in_default.is c.outside.ensures c.in_default-crossed.is c.in-Some-outside.is refl

pub returns-in-Some-unspaced : goal.returns-in-Some-unspaced
returns-in-Some-unspaced c header text h count =
    judged-told header text c.args.pass.now c.outside.result None None (Some c.in-Some-unspaced.line) h c.in_default.is c.outside.ensures c.in_default-crossed.is c.in_default-outside.is c.in-Some-unspaced.is

pub returns : goal.returns
returns c header text h count =
    judged-told header text c.args.pass.now c.outside.result None None None h c.in_default.is c.outside.ensures c.in_default-crossed.is c.in_default-outside.is c.in_default-unspaced.is
    ∙ ap (λ n. told n None None None c.args.pass.now.review.leads c.args.pass.now.review.taints) (sym count)
