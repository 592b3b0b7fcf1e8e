use Rattle.std.proofs.Common.{◌+◌, ◌-◌, subst, ap, ◌∙◌, arith}
use Rattle.lens_tune.specs.Searches.{longest_retry, IsGreatestWith}
use Rattle.lens_tune.proofs.Misses.{retries-first, retries-less}
use Rattle.lens_tune.proofs.searching.with_lease.Goals as goal

pub loop-retry-init : goal.loop-retry-init
loop-retry-init c =
    let w = c.args.w in
    let most = c.longest_retry-retry.ensures.is ∙ ap (λ f. longest_retry w f c.args.lease) c.from.ensures in
    record {
      below = retries-first w c.requires.wish c.args.lease (c.longest_retry-retry.result + 1) (ap (λ n. n + 1) most);
      few = omega (arith, c.longest_retry-retry.ensures.most);
    }

pub loop-retry-preserved : goal.loop-retry-preserved
loop-retry-preserved c =
    let w = c.args.w in
    let l = c.loop-retry in
    record {
      below = retries-less w c.requires.wish c.args.lease (l.retry - 1) l.retry (omega (arith, c.loop-retry-test.true)) (subst (IsGreatestWith w c.args.lease (l.retry - 1)) c.in_default.is c.with_retry.ensures) l.invariant.below;
      few = omega (arith, l.invariant.few);
    }
