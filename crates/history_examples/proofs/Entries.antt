-- The first entries of a history, shown by computation.
use Rattle.std.specs.Prelude.{refl}
use Rattle.kube_objects.specs.Document.{of_seconds, of_millis}
use Rattle.history_examples.specs.Entries.{TwelveEntries}

pub twelve_entries : TwelveEntries
unfolding of_seconds of_millis
twelve_entries = refl
