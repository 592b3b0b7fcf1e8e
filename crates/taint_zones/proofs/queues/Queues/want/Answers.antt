use Rattle.std.proofs.Common.{◌∙◌, sym}
use Rattle.taint_zones.proofs.Homing.{either_way, home_want}
use Rattle.taint_zones.proofs.queues.Queues.want.Goals as goal

pub invariant_of-self : goal.invariant_of-self
invariant_of-self c =
    record {
      at_home = either_way c.want.result _ _ _ c.want.ensures.ok c.want.ensures.err
          (home_want c.args.self.now.zones c.want.new.zones c.args.self.now.homes c.args.self.now.at_home c.args.node c.args.place c.args.at.0 c.requires)
          (λ same zone node at is. c.args.self.now.at_home zone node at (sym (same zone node) ∙ is));
    }
