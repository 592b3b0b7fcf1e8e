-- Evictions, and writes that are refused or lost. Each is shown by computation.
use Rattle.std.specs.Prelude.{refl}
use Rattle.kube_objects.specs.Document.{of_seconds, of_millis}
use Rattle.kube_objects.specs.Tokens.{token_size}
use Rattle.history_examples.specs.Evictions.{UnseenPut, UnseenPutOfTheSame, LostDeletes, RefusedByTheNode, RefusedByThePod, StaleUntaint, DueMovesWhileLost, ExactlyDue, NotYetDue}

pub unseen_put : UnseenPut
unfolding of_seconds of_millis token_size
unseen_put = refl

pub unseen_put_of_the_same : UnseenPutOfTheSame
unfolding of_seconds of_millis token_size
unseen_put_of_the_same = refl

pub lost_deletes : LostDeletes
unfolding of_seconds of_millis token_size
lost_deletes = refl

pub refused_by_the_node : RefusedByTheNode
unfolding of_seconds of_millis token_size
refused_by_the_node = refl

pub refused_by_the_pod : RefusedByThePod
unfolding of_seconds of_millis token_size
refused_by_the_pod = refl

pub stale_untaint : StaleUntaint
unfolding of_seconds of_millis token_size
stale_untaint = refl

pub due_moves_while_lost : DueMovesWhileLost
unfolding of_seconds of_millis token_size
due_moves_while_lost = refl

pub exactly_due : ExactlyDue
unfolding of_seconds of_millis token_size
exactly_due = refl

pub not_yet_due : NotYetDue
unfolding of_seconds of_millis token_size
not_yet_due = refl
