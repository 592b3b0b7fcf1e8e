use Rattle.std.proofs.Common.{◌≡◌, arith}
use Rattle.kube_objects.specs.Stalls.{awake}
use Rattle.world_core.proofs.world.World.awake.Goals as goal

pub returns : goal.returns
returns c doc k h s end =
    let is : c.awake-wakes.result.0 ≡ awake doc c.args.beat.0 = c.awake-wakes.ensures doc s.within.rest.document.stalls in
    omega (arith, c.min.ensures, is, end)
