use Rattle.std.proofs.Common.{ℕ, ◌+◌, ◌<◌, ◌≤◌, min, subst, sym, ap, ◌∙◌, arith}
use Rattle.lens_tune.specs.Plans.{bound}
use Rattle.lens_tune.specs.Searches.{plan, IsLeastLease}
use Rattle.lens_tune.proofs.Misses.{IsBest, best-first, best-none, best-some, best-last}
use Rattle.lens_tune.proofs.searching.least_failover.Goals as goal
use Rattle.lens_tune.proofs.searching.least_failover.Goals.{in-Some, in_default}

smaller : (x y z : ℕ) → y ≤ z → min x y ≤ z
smaller x y z less = omega arith

pub loop-retry-init : goal.loop-retry-init
loop-retry-init c =
    let w = c.args.w in
    let found = subst (IsLeastLease w w.retry_tenths) c.in_ok-shortest.was c.least_lease.ensures in
    let at = ap (bound w) (sym c.plan.ensures) ∙ sym c.bound-at_first.ensures.is in
    record {
      best = subst (λ b. IsBest w b w.retry_tenths) at (best-first w c.requires c.in_ok-shortest.shortest found);
      less = omega arith;
    }

pub loop-retry-preserved : goal.loop-retry-preserved
loop-retry-preserved c =
    let w = c.args.w in
    let l = c.loop-retry in
    elim c.match-least_lease.branch [
      | in-Some s ↦
          let found = subst (IsLeastLease w l.retry) s.in-Some.is c.least_lease-in-loop-retry.ensures in
          let at =
          ap (λ p. min (bound w p) l.least) (sym s.plan-in-Some.ensures)
          ∙ ap (λ b. min b l.least) (sym s.bound.ensures.is)
          ∙ sym s.min-least.ensures
          ∙ sym s.least-is in
          record {
            best = subst (λ b. IsBest w b (l.retry + 1)) at (best-some w c.requires l.least l.retry s.in-Some.lease l.auto.retry found l.invariant.best);
            less = subst (λ b. b ≤ c.bound-at_first.result) at (smaller (bound w (plan s.in-Some.lease l.retry 0)) l.least c.bound-at_first.result l.invariant.less);
          }
      | in_default s ↦
          let none = subst (IsLeastLease w l.retry) s.in_default.is c.least_lease-in-loop-retry.ensures in
          record {
            best = subst (λ b. IsBest w b (l.retry + 1)) (sym s.least-is) (best-none w c.requires l.least l.retry none l.invariant.best);
            less = subst (λ b. b ≤ c.bound-at_first.result) (sym s.least-is) l.invariant.less;
          }
    ]

pub returns : goal.returns
returns c =
    let w = c.args.w in
    let found = subst (IsLeastLease w w.retry_tenths) c.in_ok-shortest.was c.least_lease.ensures in
    let over = subst (λ n. n < c.loop-retry.retry) c.longest_retry-most.ensures.is (omega (arith, c.loop-retry-test.false)) in
    best-last w c.requires c.loop-retry.least c.bound-at_first.result c.in_ok-shortest.shortest c.loop-retry.retry found c.loop-retry.invariant.less over c.loop-retry.invariant.best
