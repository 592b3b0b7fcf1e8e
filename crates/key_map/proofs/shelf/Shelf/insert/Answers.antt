use Rattle.std.proofs.Common.{◌∙◌, Some, ap, refl, set}
use Rattle.key_map.proofs.Shelves.{held_row, own_at, put_value, read_row}
use Rattle.key_map.proofs.shelf.Shelf.insert.Goals as goal

pub returns-in-Some-clause-old : goal.returns-in-Some-clause-old
returns-in-Some-clause-old g c =
    c.replace.ensures.value
    ∙ held_row c.args.self.now c.args.space c.args.name c.in-Some.row c.index_mut.result.now (own_at _ _ _ _ _ _ _ c.deref.ensures.value c.deref-2.ensures.value c.in-Some.ensures.row)
    (read_row _ _ _ _ c.deref-2.ensures.value c.in-Some.ensures.within c.index_mut.ensures.value)

pub returns-in-Some-clause-put : goal.returns-in-Some-clause-put
returns-in-Some-clause-put g c =
    put_value c.args.self.now _ c.args.space c.args.name c.in-Some.row c.index_mut.result.now (Some c.args.value)
    (own_at _ _ _ _ _ _ _ c.deref.ensures.value c.deref-2.ensures.value c.in-Some.ensures.row)
    (read_row _ _ _ _ c.deref-2.ensures.value c.in-Some.ensures.within c.index_mut.ensures.value)
    refl (ap (λ w. set c.args.self.now.rows.items c.in-Some.row (record c.index_mut.result.now { value = w })) c.replace.ensures.after) refl
