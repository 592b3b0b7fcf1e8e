-- Plans by which somebody else leads soon enough after a crash, two leaders are ruled out, and a leader stays.
use Rattle.std.specs.Prelude.{ℕ, ◌*◌, ◌&&◌, ◌≤◌, nat_le, nat_lt, Bool}
use Rattle.history.specs.Premise.{lease_premise}
use Rattle.lens_bounds.specs.Elections.{crash_most, stays_by}
use Rattle.lens_tune.specs.declared.plan.Plan.{Plan}
use Rattle.lens_tune.specs.declared.wish.Wish.{Wish}
use Rattle.lens_tune.specs.Wishes.{renew_millis, retry_millis, timeout_of, calm_of, controller_of, stalled}

-- in whole steps, with a lease of at most a day, and a retry period that is long enough for who asks
pub record IsPlan (w : Wish) (p : Plan) : Type 0 where
  pub lease : p.lease_seconds ≤ 86400
  pub retry : w.retry_tenths ≤ p.retry_tenths

-- kube-controller-manager starts with it: the lease outlasts the renew deadline, and that the retry period by more than a fifth of it. A call
-- timeout is at most ten minutes, as in a document. Source: client-go's `NewLeaderElector`
abbrev pub starts : Wish → Plan → Bool
starts w p =
    nat_lt (renew_millis p) (p.lease_seconds * 1000) && nat_lt (6 * retry_millis p) (5 * renew_millis p) && nat_le (timeout_of w p) 600000

-- no two lead at once, whatever the network does and for all of a stall
abbrev pub safe : Wish → Plan → Bool
safe w p = lease_premise (stalled w p)

-- a leader in a calm span stays
abbrev pub stays : Wish → Plan → Bool
stays w p = stays_by (calm_of w p) (controller_of w p)

-- somebody else leads so many milliseconds after a crash at the latest
abbrev pub bound : Wish → Plan → ℕ
bound w p = crash_most (calm_of w p) (controller_of w p) (controller_of w p) * w.beat_millis

abbrev pub soon : Wish → Plan → Bool
soon w p = nat_le (bound w p) w.failover_millis

-- whatever the failover
abbrev pub holds : Wish → Plan → Bool
holds w p = starts w p && safe w p && stays w p

abbrev pub fits : Wish → Plan → Bool
fits w p = soon w p && holds w p
