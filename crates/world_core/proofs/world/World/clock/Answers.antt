use Rattle.std.proofs.Common.{sym, subst}
use Rattle.world_process.specs.Clocked.{ClockStands}
use Rattle.world_core.proofs.Awake.{its-clock}
use Rattle.world_core.proofs.Moving.{read-at}
use Rattle.world_core.proofs.world.World.clock.Goals as goal

pub returns-clause-stands : goal.returns-clause-stands
returns-clause-stands c doc k h s =
    let p = c.args.who.0 in
    let x = c.index.result.now in
    let was = read-at c.args.self.now p x c.requires c.index.ensures in
    subst (ClockStands doc p) (sym c.clock.ensures) (its-clock doc p h x (s.within.processes p x was))
