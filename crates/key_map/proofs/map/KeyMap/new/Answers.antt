use Rattle.key_map.proofs.Keyed.{none_of}
use Rattle.key_map.proofs.map.KeyMap.new.Goals as goal

pub returns : goal.returns
returns g c = none_of _ c.new.ensures c.new-2.ensures c.new-3.ensures
