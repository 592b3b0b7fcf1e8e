-- The events that were read beside the latest end of each process's pauses, and of the store's stalls.
use Rattle.std.specs.Prelude.{◌≡◌, ℕ, nat_le, Bool, false, List, Option, Some, None}
use Rattle.std.specs.BTreeMap.{BTreeMap, get}
use Rattle.std.specs.Ordering.{nat_cmp}
use Rattle.kube_objects.specs.declared.script.Event.{Event}
use Rattle.script_reader.specs.declared.script.Script.{Script}
use Rattle.script_reader.specs.Walk.{is_paused_up_to, is_stalled_up_to}

-- an end at this beat or later
abbrev pub is_by : ℕ → Option ℕ → Bool
is_by k None = false
is_by k (Some end) = nat_le k end

-- of each process the latest end of the pauses that these events begin
abbrev pub AreEnds : BTreeMap ℕ ℕ → List Event → Type 0
AreEnds ends events = (p k : ℕ) → is_by k (get nat_cmp ends p) ≡ is_paused_up_to p k events

-- the latest end of the stalls that these events begin
abbrev pub IsEnd : Option ℕ → List Event → Type 0
IsEnd end events = (k : ℕ) → is_by k end ≡ is_stalled_up_to k events

abbrev pub IsIndexed : Script → Type 0
IsIndexed script = AreEnds script.pause_ends script.events × IsEnd script.stall_end script.events
