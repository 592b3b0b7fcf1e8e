use Rattle.std.proofs.Common.{◌+◌, ◌/◌, ◌<◌, min, subst, sym, ap, ◌∙◌, arith}
use Rattle.lens_tune.specs.Greatest.{IsGreatestPlan, IsLeastFailover}
use Rattle.lens_tune.specs.Searches.{room}
use Rattle.lens_tune.proofs.Misses.{none-ever, none-in-time, leases-first}
use Rattle.lens_tune.proofs.searching.greatest_plan.Goals as goal

pub returns-in_err-least_failover : goal.returns-in_err-least_failover
returns-in_err-least_failover c =
    let w = c.args.w in
    let none = subst (IsLeastFailover w) c.in_err-least_failover.was c.least_failover.ensures in
    subst (IsGreatestPlan w) (sym c.from_residual.ensures) (none-ever w c.requires none)

pub returns-then-branch-failover : goal.returns-then-branch-failover
returns-then-branch-failover c =
    let w = c.args.w in
    let least = c.in_ok-least_failover.field-0 in
    let found = subst (IsLeastFailover w) c.in_ok-least_failover.was c.least_failover.ensures in
    none-in-time w c.requires least found (subst (λ f. f < least) c.from-failover.ensures c.if-branch-failover.true)

pub loop-lease-init : goal.loop-lease-init
loop-lease-init c =
    let w = c.args.w in
    let most = c.min.ensures ∙ ap (λ r. min (r / 1000) 86400) (c.room.ensures ∙ ap (room w) c.from-failover.ensures) in
    record {
      shorter = leases-first w c.requires (c.min.result + 1) (ap (λ n. n + 1) most);
      few = omega (arith, c.min.ensures);
    }
