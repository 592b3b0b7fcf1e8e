-- When attempts come, and whose lease duration is respected. Each is shown by computation.
use Rattle.std.specs.Prelude.{refl}
use Rattle.kube_objects.specs.Document.{of_seconds, of_millis}
use Rattle.kube_objects.specs.Tokens.{token_size}
use Rattle.history_examples.specs.Attempts.{WaitsInTurn, GridOfRetries, RetriesAfterFailures, TicksOfRetries, GridOfFastRetries, OwnDuration, ShortestDurationCounts}

pub waits_in_turn : WaitsInTurn
unfolding of_seconds of_millis token_size
waits_in_turn = (refl, refl)

pub grid_of_retries : GridOfRetries
unfolding of_seconds of_millis token_size
grid_of_retries = (refl, refl)

pub retries_after_failures : RetriesAfterFailures
unfolding of_seconds of_millis token_size
retries_after_failures = (refl, refl)

pub ticks_of_retries : TicksOfRetries
unfolding of_seconds of_millis token_size
ticks_of_retries = (refl, refl)

pub grid_of_fast_retries : GridOfFastRetries
unfolding of_seconds of_millis token_size
grid_of_fast_retries = (refl, refl)

pub own_duration : OwnDuration
unfolding of_seconds of_millis token_size
own_duration = (refl, refl)

pub shortest_duration_counts : ShortestDurationCounts
unfolding of_seconds of_millis token_size
shortest_duration_counts = (refl, refl, refl)
