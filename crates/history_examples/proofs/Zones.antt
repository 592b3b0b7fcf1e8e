-- Zones, their states and rates, and the all-Full mode. Each is shown by computation.
use Rattle.std.specs.Prelude.{refl}
use Rattle.kube_objects.specs.Document.{of_seconds, of_millis}
use Rattle.kube_objects.specs.Tokens.{token_size}
use Rattle.history_examples.specs.Zones.{ModeEnds, GentlePolicy, RateChanges, ZoneReturns, SwapAfterTheMode, RenewTimeReturns, HeartbeatReturns, NodeComesBack, NeverReady, ModeEndIsHeard, UnreadyLeftAlone, LateWatch}

pub mode_ends : ModeEnds
unfolding of_seconds of_millis token_size
mode_ends = refl

pub gentle_policy : GentlePolicy
unfolding of_seconds of_millis token_size
gentle_policy = refl

pub rate_changes : RateChanges
unfolding of_seconds of_millis token_size
rate_changes = refl

pub zone_returns : ZoneReturns
unfolding of_seconds of_millis token_size
zone_returns = refl

pub swap_after_the_mode : SwapAfterTheMode
unfolding of_seconds of_millis token_size
swap_after_the_mode = refl

pub renew_time_returns : RenewTimeReturns
unfolding of_seconds of_millis token_size
renew_time_returns = refl

pub heartbeat_returns : HeartbeatReturns
unfolding of_seconds of_millis token_size
heartbeat_returns = refl

pub node_comes_back : NodeComesBack
unfolding of_seconds of_millis token_size
node_comes_back = refl

pub never_ready : NeverReady
unfolding of_seconds of_millis token_size
never_ready = refl

pub mode_end_is_heard : ModeEndIsHeard
unfolding of_seconds of_millis token_size
mode_end_is_heard = refl

pub unready_left_alone : UnreadyLeftAlone
unfolding of_seconds of_millis token_size
unready_left_alone = refl

pub late_watch : LateWatch
unfolding of_seconds of_millis token_size
late_watch = refl
