-- The disruption state of a zone, and the rate at which its nodes are tainted.
-- Source: the node lifecycle controller of Kubernetes; the rate policies gentle and halt are the profile's.
use Rattle.std.specs.Prelude.{ℕ, Bool, nat_lt, nat_le, ◌==◌, ◌&&◌, ◌+◌, ◌*◌, if◌then◌else◌}
use Rattle.kube_objects.specs.declared.node.ZoneState.{ZoneState}
use Rattle.kube_objects.specs.declared.node.ZoneState.TheVariants.{Normal, Partial, Full}
use Rattle.kube_objects.specs.declared.settings.RatePolicy.{RatePolicy}
use Rattle.kube_objects.specs.declared.settings.RatePolicy.TheVariants.{Standard, Gentle, Halt}

-- a zone of so many ready and so many other nodes: Full where none is ready and at least one isn't, else Partial where
-- more than two aren't ready and they are at least this percentage of all, else Normal
abbrev pub state_of : ℕ → ℕ → ℕ → ZoneState
state_of ready other percent =
    if ready == 0 && nat_lt 0 other then Full
    else (if nat_lt 2 other && nat_le (percent * (ready + other)) (100 * other) then Partial else Normal)

-- the rate of a Partial zone of this size
abbrev pub partial_rate : RatePolicy → ℕ → ℕ → ℕ → ℕ
partial_rate Standard secondary threshold size = if nat_lt threshold size then secondary else 0
partial_rate Gentle secondary threshold size = secondary
partial_rate Halt secondary threshold size = 0

-- the rate of a Full zone
abbrev pub full_rate : RatePolicy → ℕ → ℕ → ℕ
full_rate Standard primary secondary = primary
full_rate Gentle primary secondary = secondary
full_rate Halt primary secondary = 0

-- the rate of a zone in a state, where not every zone is Full
abbrev pub state_rate : ZoneState → RatePolicy → ℕ → ℕ → ℕ → ℕ → ℕ
state_rate Normal policy primary secondary threshold size = primary
state_rate Partial policy primary secondary threshold size = partial_rate policy secondary threshold size
state_rate Full policy primary secondary threshold size = full_rate policy primary secondary

-- the rate of a zone: 0 where every zone is Full
abbrev pub rate_of : Bool → ZoneState → RatePolicy → ℕ → ℕ → ℕ → ℕ → ℕ
rate_of all_full state policy primary secondary threshold size =
    if all_full then 0 else state_rate state policy primary secondary threshold size
