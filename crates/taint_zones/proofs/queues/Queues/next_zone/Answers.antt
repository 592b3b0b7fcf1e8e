use Rattle.taint_zones.proofs.ZoneMaps.{next_waits}
use Rattle.taint_zones.proofs.queues.Queues.next_zone.Goals as goal

pub returns : goal.returns
returns c = next_waits c.args.self.now c.args.after c.next_place.result c.next_place.ensures
