use Rattle.std.proofs.Common.{◌∙◌}
use Rattle.key_map.proofs.Shelves.{held_aside, held_row, own_at, read_row}
use Rattle.key_map.proofs.shelf.Shelf.get.Goals as goal

pub returns-in-Some : goal.returns-in-Some
returns-in-Some g c =
    c.as_ref.ensures.value
    ∙ held_row c.args.self.now c.args.space c.args.name c.in-Some.row c.index.result.now (own_at _ _ _ _ _ _ _ c.deref.ensures.value c.deref-2.ensures.value c.in-Some.ensures.row)
    (read_row _ _ _ _ c.deref-2.ensures.value c.in-Some.ensures.within c.index.ensures)

pub returns-in-None : goal.returns-in-None
returns-in-None g c =
    c.get.ensures.value
    ∙ held_aside c.args.self.now c.args.space c.args.name c.place_of.result (own_at _ _ _ _ _ _ _ c.deref.ensures.value c.deref-2.ensures.value c.in-None.ensures.row)
    c.place_of.ensures.fits c.place_of.ensures.place
