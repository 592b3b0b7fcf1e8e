use Rattle.taint_zones.proofs.Homing.{home_back}
use Rattle.taint_zones.proofs.queues.Queues.to_back.Goals as goal

pub invariant_of-self : goal.invariant_of-self
invariant_of-self c = record { at_home = home_back c.args.self.now.zones c.to_back.new.zones c.args.self.now.homes c.args.self.now.at_home c.args.node c.args.place c.args.at.0 c.to_back.ensures }
