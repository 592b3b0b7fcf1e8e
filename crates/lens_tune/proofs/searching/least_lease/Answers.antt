use Rattle.std.proofs.Common.{subst, sym, ap, ◌∙◌}
use Rattle.lens_tune.specs.Searches.{is_outlasted, IsLeastRenew}
use Rattle.lens_tune.proofs.Misses.{some-lease, lease-too-long}
use Rattle.lens_tune.proofs.searching.least_lease.Goals as goal

pub returns-then-is_outlasted : goal.returns-then-is_outlasted
returns-then-is_outlasted c =
    let least = subst (IsLeastRenew c.args.w c.args.retry) c.in_ok-renew.was c.least_renew.ensures in
    some-lease c.args.w c.requires.wish c.args.retry c.in_ok-renew.renew least c.first.result c.first.ensures.within c.first.ensures.first

pub returns-else-is_outlasted : goal.returns-else-is_outlasted
returns-else-is_outlasted c =
    let least = subst (IsLeastRenew c.args.w c.args.retry) c.in_ok-renew.was c.least_renew.ensures in
    lease-too-long c.args.w c.requires.wish c.args.retry c.in_ok-renew.renew least (ap (is_outlasted c.args.w) (sym c.plan.ensures) ∙ sym c.is_outlasted.ensures ∙ c.if-is_outlasted.false)
