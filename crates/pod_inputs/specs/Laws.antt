-- What holds of all inputs that are read.
use Rattle.std.specs.Prelude.{◌≡◌, ℕ, List, Ok}
use Rattle.pod_inputs.specs.Walk.{collect_walk, place_walk}
use Rattle.pod_tools.specs.declared.rows.CollectInput.{CollectInput}
use Rattle.pod_tools.specs.declared.rows.PlaceInput.{PlaceInput}
use Rattle.pod_tools.specs.Feasible.{AreFew}

-- they keep the limits of a document
abbrev pub CollectInputsAreFew : Type 0
CollectInputsAreFew = (bytes : List ℕ) (input : CollectInput) → collect_walk bytes ≡ Ok input → AreFew input.nodes input.pods

abbrev pub PlaceInputsAreFew : Type 0
PlaceInputsAreFew = (bytes : List ℕ) (input : PlaceInput) → place_walk bytes ≡ Ok input → AreFew input.nodes input.pods
