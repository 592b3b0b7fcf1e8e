use Rattle.std.proofs.Common.{◌∙◌, refl, ap}
use Rattle.key_map.specs.Held.{held}
use Rattle.key_map.proofs.Keyed.{value_is}
use Rattle.key_map.proofs.map.KeyMap.get.Goals as goal

pub returns : goal.returns
returns g c = c.get.ensures ∙ ap (λ s. held s c.args.key.now.space c.args.key.now.name) c.shelf.ensures ∙ value_is c.args.self.now c.args.key.now c.args.key.now.kind refl
