use Rattle.key_map.proofs.Shelves.{held_none}
use Rattle.key_map.proofs.shelf.Shelf.new.Goals as goal

pub returns : goal.returns
returns g c = held_none _ c.new.ensures.items c.new-3.ensures.empty
