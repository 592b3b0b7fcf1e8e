use Rattle.std.proofs.Common.{◌≤◌, arith}
use Rattle.world_core.proofs.Skipping.{world-skips}
use Rattle.world_core.proofs.world.World.skip_to.Goals as goal

pub returns-clause-stands : goal.returns-clause-stands
returns-clause-stands c doc k h s quiet =
    let most : k ≤ c.args.beat.0 = (let from = c.requires.ahead.0 in omega (arith, s.within.rest.document.at, from)) in
    world-skips doc k c.args.beat h c.args.self.now most quiet s
