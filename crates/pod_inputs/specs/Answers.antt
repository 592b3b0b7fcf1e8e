-- What the two commands write of some bytes, or the first refusal.
use Rattle.std.specs.Prelude.{ℕ, List, Result, Ok}
use Rattle.manifest_json.specs.declared.fault.Refusal.{Refusal}
use Rattle.manifest_json.specs.Faults.{◌>>=◌}
use Rattle.pod_inputs.specs.Walk.{collect_walk, place_walk}
use Rattle.pod_tools.specs.Texts.{collect_text, place_text}

unfoldable pub collect_answer : List ℕ → Result (List ℕ) Refusal
collect_answer bytes = do
  input ← collect_walk bytes
  Ok (collect_text input)

unfoldable pub place_answer : List ℕ → Result (List ℕ) Refusal
place_answer bytes = do
  input ← place_walk bytes
  Ok (place_text input)
