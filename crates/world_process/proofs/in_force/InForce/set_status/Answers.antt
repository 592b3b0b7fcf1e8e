use Rattle.std.proofs.Common.{refl}
use Rattle.world_process.proofs.Forces.{past-end, status-kept, status-set}
use Rattle.world_process.proofs.in_force.InForce.set_status.Goals as goal

pub returns-in-Some : goal.returns-in-Some
returns-in-Some c doc k h s = status-set doc k c.args.who c.args.status h c.args.self.now _ c.in-Some.standing.now refl c.in-Some.ensures.value s

pub returns-in-None : goal.returns-in-None
returns-in-None c doc k h s =
    let standing = c.args.self.now.standing in
    status-kept doc k c.args.who c.args.status h c.args.self.now (past-end standing.items standing.len c.args.who.0 standing.ok.0 c.in-None.ensures.variant.1) s
