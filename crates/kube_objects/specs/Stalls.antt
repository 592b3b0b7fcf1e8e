-- Stalls: the beats at which the store stands still. What is sent to it waits, and leaders don't tick. They are read from the document
-- alone, as pauses are. Source: etcd on a slow disk; profile.
use Rattle.std.specs.Prelude.{ℕ, Bool, List, Option, Some, None}
use Rattle.kube_objects.specs.declared.script.Event.{Event}
use Rattle.kube_objects.specs.declared.script.What.{What}
use Rattle.kube_objects.specs.declared.script.What.TheVariants.{Stall}
use Rattle.kube_objects.specs.Document.{Doc}
use Rattle.kube_objects.specs.Newest.{has, or_else}
use Rattle.kube_objects.specs.Pauses.{last_end}

-- for how many beats an event stops the store
abbrev pub stall_of : What → Option ℕ
stall_of (Stall beats) = Some beats
stall_of _ = None

abbrev pub last_stall : ℕ → List Event → Option ℕ
last_stall k es = last_end stall_of k es

-- the beat at which the stall is over in which beat k lies
abbrev pub stall_end : Doc → ℕ → Option ℕ
stall_end doc k = last_stall k doc.events

abbrev pub is_stalled : Doc → ℕ → Bool
is_stalled doc k = has (stall_end doc k)

-- the first beat from k on at which the store goes
abbrev pub awake : Doc → ℕ → ℕ
awake doc k = or_else k (stall_end doc k)

-- when what is sent to the store arrives there
abbrev pub at_store : Doc → Option ℕ → Option ℕ
at_store doc None = None
at_store doc (Some k) = Some (awake doc k)
