use Rattle.std.proofs.Common.{◌≡◌, ◌-◌, Some, true, false, subst, sym, ap, ◌∙◌, arith}
use Rattle.lens_tune.specs.Plans.{soon}
use Rattle.lens_tune.specs.Searches.{is_enough, plan, IsGreatestWith}
use Rattle.lens_tune.proofs.Misses.{no-longest, longest, not-enough}
use Rattle.lens_tune.proofs.searching.with_retry.Goals as goal

pub returns-then-too_long-eq0 : goal.returns-then-too_long-eq0
returns-then-too_long-eq0 c = no-longest c.args.w c.requires.wish c.args.lease c.args.retry c.first-too_long.result c.first-too_long.ensures.first c.if-too_long-eq0.true

pub returns-then-is_enough : goal.returns-then-is_enough
returns-then-is_enough c =
    let w = c.args.w in
    let too = c.first-too_long.result in
    let in-time : soon w (plan c.args.lease c.args.retry 0) ≡ true = ap (soon w) (sym c.plan.ensures) ∙ sym c.soon.ensures ∙ c.if-not-soon.false in
    let enough : is_enough w (plan c.args.lease c.args.retry (too - 1)) ≡ true = ap (is_enough w) (sym c.plan-found.ensures) ∙ sym c.is_enough.ensures ∙ c.if-is_enough.true in
    subst (λ p. IsGreatestWith w c.args.lease c.args.retry (Some p)) (sym c.plan-found.ensures)
    (longest w c.requires.wish c.args.lease c.args.retry too c.first-too_long.ensures.first (too - 1) (omega (arith, c.if-too_long-eq0.false)) in-time enough)

pub returns-else-is_enough : goal.returns-else-is_enough
returns-else-is_enough c =
    let w = c.args.w in
    let too = c.first-too_long.result in
    let isnt : is_enough w (plan c.args.lease c.args.retry (too - 1)) ≡ false = ap (is_enough w) (sym c.plan-found.ensures) ∙ sym c.is_enough.ensures ∙ c.if-is_enough.false in
    not-enough w c.requires.wish c.args.lease c.args.retry too c.first-too_long.ensures.first (too - 1) (omega (arith, c.if-too_long-eq0.false)) isnt
