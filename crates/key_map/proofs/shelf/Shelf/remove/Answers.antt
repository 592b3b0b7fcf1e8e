use Rattle.std.proofs.Common.{◌∙◌, None, ap, refl, set}
use Rattle.key_map.proofs.Shelves.{held_aside, held_row, own_at, put_aside, put_value, read_row}
use Rattle.key_map.proofs.shelf.Shelf.remove.Goals as goal

pub returns-in-Some-clause-old : goal.returns-in-Some-clause-old
returns-in-Some-clause-old g c =
    c.take.ensures.value
    ∙ held_row c.args.self.now c.args.space c.args.name c.in-Some.row c.index_mut.result.now (own_at _ _ _ _ _ _ _ c.deref.ensures.value c.deref-2.ensures.value c.in-Some.ensures.row)
    (read_row _ _ _ _ c.deref-2.ensures.value c.in-Some.ensures.within c.index_mut.ensures.value)

pub returns-in-Some-clause-taken : goal.returns-in-Some-clause-taken
returns-in-Some-clause-taken g c =
    put_value c.args.self.now _ c.args.space c.args.name c.in-Some.row c.index_mut.result.now None (own_at _ _ _ _ _ _ _ c.deref.ensures.value c.deref-2.ensures.value c.in-Some.ensures.row)
    (read_row _ _ _ _ c.deref-2.ensures.value c.in-Some.ensures.within c.index_mut.ensures.value) refl (ap (λ w. set c.args.self.now.rows.items c.in-Some.row (record c.index_mut.result.now { value = w })) c.take.ensures.after) refl

pub returns-in-None-clause-old : goal.returns-in-None-clause-old
returns-in-None-clause-old g c =
    c.remove.ensures.value
    ∙ held_aside c.args.self.now c.args.space c.args.name c.place_of.result (own_at _ _ _ _ _ _ _ c.deref.ensures.value c.deref-2.ensures.value c.in-None.ensures.row)
    c.place_of.ensures.fits c.place_of.ensures.place

pub returns-in-None-clause-taken : goal.returns-in-None-clause-taken
returns-in-None-clause-taken g c =
    put_aside c.args.self.now _ c.args.space c.args.name c.place_of.result None (own_at _ _ _ _ _ _ _ c.deref.ensures.value c.deref-2.ensures.value c.in-None.ensures.row)
    c.place_of.ensures.fits c.place_of.ensures.place c.remove.ensures.updates refl refl
