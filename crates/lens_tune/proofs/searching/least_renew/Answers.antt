use Rattle.std.proofs.Common.{sym, ap, ◌∙◌}
use Rattle.lens_tune.specs.Searches.{is_enough}
use Rattle.lens_tune.proofs.Misses.{no-renew}
use Rattle.lens_tune.proofs.searching.least_renew.Goals as goal

pub returns-else-is_enough : goal.returns-else-is_enough
returns-else-is_enough c = no-renew c.args.w c.args.retry 864000 (ap (is_enough c.args.w) (sym c.plan.ensures) ∙ sym c.is_enough.ensures ∙ c.if-is_enough.false)
