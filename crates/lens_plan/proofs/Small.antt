-- A plan that fits is in the ranges of those that are asked about.
use Rattle.std.proofs.Common.{◌≡◌, ◌*◌, ◌<◌, ◌&&◌, nat_lt, nat_le, true, arith}
use Rattle.std.proofs.lemmas.Bool.{and_parts, ltb-true}
use Rattle.lens_tune.specs.declared.plan.Plan.{Plan}
use Rattle.lens_tune.specs.declared.wish.Wish.{Wish}
use Rattle.lens_tune.specs.Plans.{IsPlan, starts, safe, stays, soon, holds, fits}
use Rattle.lens_tune.specs.Searches.{IsSmall}
use Rattle.lens_tune.specs.Wishes.{renew_millis, retry_millis, timeout_of}
use Rattle.lens_plan.specs.declared.found.Found.{Found}
use Rattle.lens_plan.specs.declared.found.Found.TheVariants.{Fitting, Later, Never}
use Rattle.lens_plan.specs.Found.{ForPlan, IsFound}

fitting-starts : (w : Wish) (p : Plan) → fits w p ≡ true → starts w p ≡ true
fitting-starts w p fit =
    let held = and_parts (soon w p) (holds w p) fit in
    let first = and_parts (starts w p && safe w p) (stays w p) held.1 in
    (and_parts (starts w p) (safe w p) first.0).0

small-plan : (w : Wish) (p : Plan) → IsPlan w p → fits w p ≡ true → IsSmall p
small-plan w p plan fit =
    let timely = and_parts (nat_lt (renew_millis p) (p.lease_seconds * 1000) && nat_lt (6 * retry_millis p) (5 * renew_millis p)) (nat_le (timeout_of w p) 600000) (fitting-starts w p fit) in
    let orders = and_parts (nat_lt (renew_millis p) (p.lease_seconds * 1000)) (nat_lt (6 * retry_millis p) (5 * renew_millis p)) timely.0 in
    let shorter : renew_millis p < p.lease_seconds * 1000 = ltb-true _ _ orders.0 in
    let sooner : 6 * retry_millis p < 5 * renew_millis p = ltb-true _ _ orders.1 in
    record {
      lease = plan.lease;
      renew = omega (arith, shorter, plan.lease);
      retry = omega (arith, shorter, sooner, plan.lease);
    }

pub small-found : (w : Wish) (found : Found) → IsFound w found → ForPlan found IsSmall
small-found w (Fitting p) is = small-plan w p is.plan is.holds
small-found w (Later least) is = tt
small-found w Never is = tt
