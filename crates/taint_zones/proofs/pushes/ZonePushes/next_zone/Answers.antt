use Rattle.taint_zones.proofs.PushMaps.{next_pushed}
use Rattle.taint_zones.proofs.pushes.ZonePushes.next_zone.Goals as goal

pub returns : goal.returns
returns c = next_pushed c.args.self.now c.args.after c.next_place.result c.next_place.ensures
