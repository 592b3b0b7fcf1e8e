-- Where waiting nodes stand, and since when they wait.
use Rattle.std.specs.Prelude.{◌≡◌, ℕ, List, Option, Some, slice_get, option_and_then}
use Rattle.std.specs.BTreeMap.{get, BTreeMap}
use Rattle.std.specs.Option.{option_map}
use Rattle.std.specs.Ordering.{nat_cmp}
use Rattle.kube_base.specs.declared.numbers.Beat.{Beat}
use Rattle.taint_queue.specs.declared.waiting.Waiting.{Waiting}

-- the slot that is kept for a node
abbrev pub place : BTreeMap ℕ ℕ → ℕ → Option ℕ
place places node = get nat_cmp places node

abbrev pub node_of : Option Waiting → Option ℕ
node_of entry = option_map (λ w. w.node) entry

abbrev pub beat_of : Option Waiting → Option Beat
beat_of entry = option_map (λ w. w.at) entry

-- a slot that is kept for a node has it
abbrev pub HasItsNode : (ℕ → Option ℕ) → List Waiting → Type 0
HasItsNode place entries = (node slot : ℕ) → place node ≡ Some slot → node_of (slice_get entries slot) ≡ Some node

-- each slot is kept for its node
abbrev pub IsKept : (ℕ → Option ℕ) → List Waiting → Type 0
IsKept place entries = (slot : ℕ) (entry : Waiting) → slice_get entries slot ≡ Some entry → place entry.node ≡ Some slot

-- the beat since which a node waits
abbrev pub beat_at : (ℕ → Option ℕ) → List Waiting → ℕ → Option Beat
beat_at place entries node = option_and_then (λ slot. beat_of (slice_get entries slot)) (place node)
