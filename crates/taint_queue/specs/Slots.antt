-- What a tournament tree holds.
use Rattle.std.specs.Prelude.{List}
use Rattle.taint_queue.specs.declared.tournament.Tournament.{Tournament}
use Rattle.taint_queue.specs.declared.waiting.Waiting.{Waiting}

-- the nodes in the order of their slots
abbrev pub slots : Tournament → List Waiting
slots tournament = tournament.waiting.items
