-- What a queue of waiting nodes keeps (profile).
use Rattle.std.specs.Prelude.{ℕ, Option}
use Rattle.kube_base.specs.declared.numbers.Beat.{Beat}
use Rattle.taint_queue.specs.Placed.{beat_at, place}
use Rattle.taint_queue.specs.Slots.{slots}
use Rattle.taint_queue.specs.declared.queue.Queue.{Queue}

-- the beat since which a node waits, if it does
abbrev pub waits_since : Queue → ℕ → Option Beat
waits_since queue node = beat_at (place queue.places) (slots queue.tree) node
