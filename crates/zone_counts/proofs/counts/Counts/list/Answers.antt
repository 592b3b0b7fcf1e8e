use Rattle.std.proofs.Common.{◌≡◌, ◌++◌, [], map, ap, sym, ◌∙◌, rules}
use Rattle.std.proofs.lemmas.List.{append-nil}
use Rattle.zone_counts.proofs.Listed.{zone_of, zones_listed}
use Rattle.zone_counts.proofs.counts.Counts.list.Goals as goal

pub returns : goal.returns
returns c nodes s =
    let done : c.loop-place.place-iterator ≡ [] = c.in-None.ensures.steps.0 in
    sym (append-nil c.loop-place.list.items)
    ∙ ap (λ es. c.loop-place.list.items ++ map zone_of es) (sym done)
    ∙ c.loop-place.invariant
    ∙ zones_listed nodes c.args.self.now s c.iter-place-items.ensures.ordered
