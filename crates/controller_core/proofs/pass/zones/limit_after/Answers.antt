use Rattle.std.proofs.Common.{Some, subst, sym}
use Rattle.kube_objects.specs.Tick.{zone_as}
use Rattle.taint_zones.specs.Limits.{LimitStands}
use Rattle.controller_core.proofs.Passing.ZoneLimits.{begun, went_on}
use Rattle.controller_core.proofs.pass.zones.limit_after.Goals as goal

pub returns-in-None : goal.returns-in-None
returns-in-None c doc k q h place s same reading =
    subst (λ b. LimitStands doc q (zone_as k q place c.args.state c.args.rate h) place (Some (record { state = c.args.state; rate = c.args.rate; bucket = b })))
    (sym c.new_bucket.ensures)
    (begun doc k q h place c.args.state c.args.rate c.args.now.0 reading c.args.rule same (subst (LimitStands doc q h place) c.in-None.is s))

pub returns-in-Some : goal.returns-in-Some
returns-in-Some c doc k q h place s same reading =
    subst (λ b. LimitStands doc q (zone_as k q place c.args.state c.args.rate h) place (Some (record { state = c.args.state; rate = c.args.rate; bucket = b })))
    (sym c.with_rate.ensures)
    (went_on doc k q h place c.args.state c.args.rate c.args.now.0 reading c.args.rule same c.in-Some.old (subst (LimitStands doc q h place) c.in-Some.is s))
