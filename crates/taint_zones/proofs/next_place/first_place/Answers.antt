use Rattle.taint_zones.proofs.ZoneMaps.{none_before}
use Rattle.taint_zones.proofs.next_place.first_place.Goals as goal

pub returns-in-Some : goal.returns-in-Some
returns-in-Some g c = (tt, λ zone later less. none_before c.args.zones.now c.in-Some.first.now c.in-Some.ensures.least zone less)
