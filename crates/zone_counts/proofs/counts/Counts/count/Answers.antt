use Rattle.std.proofs.Common.{Some, cond, ap, ◌∙◌, rules}
use Rattle.kube_objects.specs.Modes.{place_eq}
use Rattle.zone_counts.specs.Counted.{and_one, count_at}
use Rattle.taint_zones.specs.Places.{of_place, entry_place}
use Rattle.zone_counts.proofs.Totals.{and_first}
use Rattle.zone_counts.proofs.counts.Counts.count.Goals as goal

pub returns : goal.returns
returns c other =
    c.in_ok-insert.ensures.updates.0 (of_place other)
    ∙ ap (λ x. cond (place_eq (entry_place c.args.place) other) (Some x) (count_at c.args.self.now other))
    (c.and_one-count.ensures ∙ ap (λ x. and_one c.args.ready (Some x)) (search rules) ∙ and_first c.args.ready (count_at c.args.self.now (entry_place c.args.place)))
