-- What a step of a tick costs.
use Rattle.std.specs.Prelude.{◌≤◌, ◌+◌, ℕ, List}
use Rattle.kube_objects.specs.Entry.{Entry, Identity}
use Rattle.tick_laws.specs.Steps.{tick_cost}

-- from one history to the other no more steps were counted than what was added concerns
abbrev pub HaveCost : Identity → ℕ → List Entry → List Entry → ℕ → ℕ → Type 0
HaveCost q k h g old new = new + tick_cost q k h ≤ old + tick_cost q k g
