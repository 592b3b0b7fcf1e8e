use Rattle.std.proofs.Common.{◌∙◌, ◌==◌, Some, arith, cond, refl, ap}
use Rattle.key_map.specs.Rows.{place_in}
use Rattle.key_map.proofs.Lists.{given}
use Rattle.key_map.proofs.Shelves.{held_same, on_err, put_row}
use Rattle.key_map.proofs.shelf.Shelf.give_row.Goals as goal

pub returns-in_err-make_places-clause-same : goal.returns-in_err-make_places-clause-same
returns-in_err-make_places-clause-same g c = on_err c.from_residual.result (held_same c.args.self.now _ c.make_places.ensures.same refl refl)

pub returns-in_err-push-clause-same : goal.returns-in_err-push-clause-same
returns-in_err-push-clause-same g c = on_err c.from_residual-in_err-push.result (held_same c.args.self.now _ c.make_places.ensures.same c.in_err-push.ensures.items refl)

pub returns-clause-put : goal.returns-clause-put
returns-clause-put g c =
    put_row c.args.self.now _ (record { space = c.args.space; name = c.args.name; value = Some c.args.value }) c.requires
    (λ m. given c.make_places.new.places.items c.args.name c.in-Ok.row m (omega (arith, c.in_ok-make_places.ensures.room, c.make_places.new.places.ok.0))
    ∙ ap (λ o. cond (c.args.name == m) (Some c.in-Ok.row) o) (c.make_places.ensures.same m)
    ∙ ap (λ r. cond (c.args.name == m) (Some r) (place_in c.args.self.now.places.items m)) (c.in-Ok.ensures.1 ∙ c.len.ensures ∙ c.args.self.now.rows.ok.0))
    c.in_ok-push.ensures.items refl
