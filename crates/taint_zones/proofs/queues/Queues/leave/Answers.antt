use Rattle.std.proofs.Common.{◌∙◌, sym}
use Rattle.taint_zones.proofs.Homing.{home_left, left, not_waiting}
use Rattle.taint_zones.proofs.queues.Queues.leave.Goals as goal

pub returns-in_default : goal.returns-in_default
returns-in_default c = not_waiting c.args.self.now.zones c.args.self.now.zones c.args.self.now.homes c.args.self.now.at_home c.args.node (sym c.home.ensures ∙ c.in_default.is)

pub invariant_of-self : goal.invariant_of-self
invariant_of-self c =
    record {
      at_home = home_left c.args.self.now.zones c.leave.new.zones c.args.self.now.homes c.args.self.now.at_home c.args.node
          (left c.args.self.now.zones c.leave.new.zones c.args.self.now.homes c.args.self.now.at_home c.args.node c.in-Some.place (sym c.home.ensures ∙ c.in-Some.is) c.leave.ensures);
    }

pub returns : goal.returns
returns c = left c.args.self.now.zones c.leave.new.zones c.args.self.now.homes c.args.self.now.at_home c.args.node c.in-Some.place (sym c.home.ensures ∙ c.in-Some.is) c.leave.ensures
