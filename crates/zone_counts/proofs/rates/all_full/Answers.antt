use Rattle.std.proofs.Common.{◌≡◌, ◌&&◌, ◌∙◌, false, ◌∷◌, length, sym, ap, rules}
use Rattle.zone_counts.specs.Counted.{is_full}
use Rattle.zone_counts.proofs.RateLaws.{all_of, each_full, none_all, none_full, one_not}
use Rattle.zone_counts.proofs.rates.all_full.Goals as goal

pub returns-then-is_empty : goal.returns-then-is_empty
returns-then-is_empty c doc nodes are is =
    let none : length c.args.zones.now ≡ 0 = search rules in
    none_full doc nodes c.args.zones.now c.args.percent none are is

pub returns-then-not-is_full : goal.returns-then-not-is_full
returns-then-not-is_full c doc nodes are is =
    let head : c.loop-zone.rest.now ≡ c.in-Some.zone.now ∷ c.in-Some.others.now = search rules in
    let fails : is_full c.in-Some.zone.now c.args.percent ≡ false = search rules in
    one_not doc nodes c.args.zones.now c.args.percent
    (sym c.loop-zone.invariant ∙ ap (all_of c.args.percent) head ∙ ap (λ b. b && all_of c.args.percent c.in-Some.others.now) fails) are is

pub returns : goal.returns
returns c doc nodes are is =
    let none : length c.loop-zone.rest.now ≡ 0 = search rules in
    let some : length c.args.zones.now ≡ 0 → ⊥ = search rules in
    each_full doc nodes c.args.zones.now c.args.percent some (none_all c.args.percent c.loop-zone.rest.now none ∙ c.loop-zone.invariant) are is
