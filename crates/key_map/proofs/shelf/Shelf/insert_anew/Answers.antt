use Rattle.std.proofs.Common.{◌∙◌, Some, refl, sym}
use Rattle.key_map.proofs.Shelves.{held_aside, held_same, none_found, on_err, put_aside}
use Rattle.key_map.proofs.shelf.Shelf.insert_anew.Goals as goal

pub returns-in_err-insert-clause-absent : goal.returns-in_err-insert-clause-absent
returns-in_err-insert-clause-absent g c =
    on_err c.from_residual.result
    (sym (held_aside c.args.self.now c.args.space c.args.name c.place_of-place.result c.requires c.place_of-place.ensures.fits c.place_of-place.ensures.place) ∙ c.in_err-insert.ensures.absent)

pub returns-in_err-insert-clause-same : goal.returns-in_err-insert-clause-same
returns-in_err-insert-clause-same g c = on_err c.from_residual.result (held_same c.args.self.now _ (λ m. refl) refl c.in_err-insert.ensures.err)

pub returns-then-is_some-clause-old : goal.returns-then-is_some-clause-old
returns-then-is_some-clause-old g c =
    c.in_ok-insert.ensures.old ∙ held_aside c.args.self.now c.args.space c.args.name c.place_of-place.result c.requires c.place_of-place.ensures.fits c.place_of-place.ensures.place

pub returns-then-is_some-clause-put : goal.returns-then-is_some-clause-put
returns-then-is_some-clause-put g c =
    put_aside c.args.self.now _ c.args.space c.args.name c.place_of-place.result (Some c.args.value) c.requires c.place_of-place.ensures.fits c.place_of-place.ensures.place
    c.in_ok-insert.ensures.updates refl refl

pub returns-in_err-give_row-clause-absent : goal.returns-in_err-give_row-clause-absent
returns-in_err-give_row-clause-absent g c =
    on_err c.from_residual-in_err-give_row.result
    (sym (held_aside c.args.self.now c.args.space c.args.name c.place_of-place.result c.requires c.place_of-place.ensures.fits c.place_of-place.ensures.place)
    ∙ sym (none_found _ (sym c.is_aside.ensures ∙ c.if-is_aside.false)))

pub returns-clause-old : goal.returns-clause-old
returns-clause-old g c =
    none_found _ (sym c.is_aside.ensures ∙ c.if-is_aside.false)
    ∙ held_aside c.args.self.now c.args.space c.args.name c.place_of-place.result c.requires c.place_of-place.ensures.fits c.place_of-place.ensures.place
