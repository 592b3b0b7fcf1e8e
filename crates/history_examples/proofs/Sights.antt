-- Evictions counted from when they are seen, and within a limit. Each is shown by computation.
use Rattle.std.specs.Prelude.{refl}
use Rattle.kube_objects.specs.Document.{of_seconds, of_millis}
use Rattle.kube_objects.specs.Tokens.{token_size}
use Rattle.history_examples.specs.Sights.{CountedFromSight, WithinTheLimit}

pub counted_from_sight : CountedFromSight
unfolding of_seconds of_millis token_size
counted_from_sight = (refl, refl)

pub within_the_limit : WithinTheLimit
unfolding of_seconds of_millis token_size
within_the_limit = (refl, refl)
