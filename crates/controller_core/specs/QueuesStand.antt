-- The queues of zones stand for a history.
use Rattle.std.specs.Prelude.{◌≡◌, ℕ, List}
use Rattle.kube_objects.specs.Entry.{Entry, Identity, Place}
use Rattle.taint_zones.specs.declared.queues.Queues.{Queues}
use Rattle.taint_zones.specs.Places.{of_place}
use Rattle.taint_zones.specs.Waiting.{since}
use Rattle.tick_laws.specs.Judged.{waits_since}
use Rattle.tick_laws.specs.Rows.{IsFresh}

-- a node waits in a zone's queue since the beat by which it has its place there
abbrev pub QueuesStand : Identity → List Entry → Queues → Type 0
QueuesStand q h queues = (place : Place) (n : ℕ) → since queues (of_place place) n ≡ waits_since q place n h

-- nodes that didn't wait before the tick wait since its beat, if at all
abbrev pub AreFresh : Identity → ℕ → List Entry → Type 0
AreFresh q k h = (place : Place) (n : ℕ) → IsFresh q k place n h
