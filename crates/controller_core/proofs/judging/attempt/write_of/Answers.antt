use Rattle.std.proofs.Common.{◌≡◌, ◌∙◌, ◌&&◌, IfOk, false, true, ap, subst, sym}
use Rattle.std.specs.Prelude.{if◌then◌else◌}
use Rattle.kube_objects.specs.Judgement.{is_crossed}
use Rattle.kube_objects.specs.Tainting.{has_condition}
use Rattle.kube_objects.specs.Tick.{add_untaint}
use Rattle.node_taints.specs.Wanting.{wants_of}
use Rattle.controller_core.specs.Trying.{IsTryOf}
use Rattle.controller_core.proofs.Judgement.Trying.{judge_crossed, judge_uncrossed}
use Rattle.controller_core.proofs.judging.attempt.write_of.Goals as goal

pub returns-then-verdict : goal.returns-then-verdict
returns-then-verdict c doc k q x h time seen new turned crossed cleared =
    let v = c.args.verdict.now in
    let is : is_crossed (wants_of v.wants) c.args.node.now ≡ true = sym crossed ∙ c.if-verdict.true in
    subst (λ g. IfOk c.swap_of.result (λ tried. IsTryOf k q h g tried)) (judge_crossed doc k q c.args.name x c.args.given c.args.node.now (wants_of v.wants) h c.args.fresh new is) (c.swap_of.ensures doc k q h time seen)

pub returns : goal.returns
returns c doc k q x h time seen new turned crossed cleared =
    let v = c.args.verdict.now in
    let is : is_crossed (wants_of v.wants) c.args.node.now ≡ false = sym crossed ∙ c.if-verdict.false in
    subst (λ g. IfOk c.untaint_of.result (λ tried. IsTryOf k q h g tried))
    (ap (λ b. (if has_condition c.args.node.now && b then add_untaint k q c.args.name c.args.given c.args.node.now h else h)) c.loses_taints.ensures
    ∙ judge_uncrossed doc k q c.args.name x c.args.given c.args.node.now (wants_of v.wants) h c.args.fresh new v.cleared c.args.turned is cleared turned) (c.untaint_of.ensures k q h seen)
