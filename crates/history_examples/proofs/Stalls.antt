-- A store that stands still, and writes that block a pass. Each is shown by computation.
use Rattle.std.specs.Prelude.{refl}
use Rattle.kube_objects.specs.Document.{of_seconds, of_millis}
use Rattle.kube_objects.specs.Tokens.{token_size}
use Rattle.history_examples.specs.Stalls.{FailoverByAStall, DueInAStall, StallOverTheGrace, PassAtWork}

pub failover_by_a_stall : FailoverByAStall
unfolding of_seconds of_millis token_size
failover_by_a_stall = (refl, refl)

pub due_in_a_stall : DueInAStall
unfolding of_seconds of_millis token_size
due_in_a_stall = (refl, refl)

pub stall_over_the_grace : StallOverTheGrace
unfolding of_seconds of_millis token_size
stall_over_the_grace = (refl, refl)

pub pass_at_work : PassAtWork
unfolding of_seconds of_millis token_size
pass_at_work = (refl, refl)
