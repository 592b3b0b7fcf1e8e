use Rattle.std.proofs.Common.{option_map, ap, ◌∙◌}
use Rattle.world_core.proofs.Awake.{readings-alike}
use Rattle.world_core.proofs.Moving.{read-at}
use Rattle.world_core.proofs.world.World.turn_wakes.Goals as goal

pub returns : goal.returns
returns c doc k h s =
    let w = c.args.self.now in
    let p = c.args.who.0 in
    let x = c.index-process.result.now in
    let stands = s.within.processes p x (read-at w p x c.requires c.index-process.ensures) in
    record {
      at_once = ap (λ w. w.at_once) c.with.ensures;
      reading = ap (λ w. option_map (λ at. at.0) w.local) c.with.ensures ∙ readings-alike c.wake.result ∙ c.wake.ensures doc p h stands;
      time = ap (λ w. w.wall) c.with.ensures;
      room = ap (λ w. w.room) c.with.ensures;
    }
