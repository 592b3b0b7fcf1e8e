-- Queued taints, and swaps. Each is shown by computation.
use Rattle.std.specs.Prelude.{refl}
use Rattle.kube_objects.specs.Document.{of_seconds, of_millis}
use Rattle.kube_objects.specs.Tokens.{token_size}
use Rattle.history_examples.specs.Queues.{TaintAfterFailover, SwapNeedsNoToken, ZonesApart, ReadyAndMarkedAtOnce, WaitingInAnotherZone, LostTaintGoesBack}

pub taint_after_failover : TaintAfterFailover
unfolding of_seconds of_millis token_size
taint_after_failover = refl

pub swap_needs_no_token : SwapNeedsNoToken
unfolding of_seconds of_millis token_size
swap_needs_no_token = refl

pub zones_apart : ZonesApart
unfolding of_seconds of_millis token_size
zones_apart = refl

pub ready_and_marked_at_once : ReadyAndMarkedAtOnce
unfolding of_seconds of_millis token_size
ready_and_marked_at_once = refl

pub waiting_in_another_zone : WaitingInAnotherZone
unfolding of_seconds of_millis token_size
waiting_in_another_zone = refl

pub lost_taint_goes_back : LostTaintGoesBack
unfolding of_seconds of_millis token_size
lost_taint_goes_back = refl
