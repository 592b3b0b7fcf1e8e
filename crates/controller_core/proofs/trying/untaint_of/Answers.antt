use Rattle.std.proofs.Common.{◌≡◌, true, rules}
use Rattle.kube_objects.specs.Tainting.{has_condition}
use Rattle.controller_core.proofs.Judgement.Trying.{untaint_where}
use Rattle.controller_core.proofs.trying.untaint_of.Goals as goal

pub returns : goal.returns
returns c k q h seen =
    let there : has_condition c.args.node.now ≡ true = search rules in
    let asked : c.args.untaints ≡ true = search rules in
    untaint_where k q c.args.name h c.args.given c.args.node.now c.in_ok-written.written seen c.args.untaints there asked c.in_ok-written.ensures
