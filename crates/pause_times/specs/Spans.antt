-- Pauses in order, and the last one that has begun.
use Rattle.std.specs.Prelude.{ℕ, ◌<◌, ◌≤◌, ◌&&◌, nat_le, nat_lt, List, [], ◌∷◌, Option, Some, None, length, get_or}
use Rattle.kube_objects.specs.Newest.{when}
use Rattle.pause_times.specs.declared.spans.Pause.{Pause}

-- the end of a pause, where beat k lies in it
abbrev pub end_in : ℕ → Pause → Option ℕ
end_in k x = when (nat_le x.begins.0 k && nat_lt k x.ends.0) x.ends.0

-- the end of the last one in which beat k lies
abbrev pub last_in : ℕ → List Pause → Option ℕ
last_in k [] = None
last_in k (x ∷ xs) = elim (last_in k xs) [ None ↦ end_in k x | Some at ↦ Some at ]

-- each begins no earlier than those before it are over
abbrev pub AreInOrder : List Pause → Type 0
AreInOrder [] = Unit {0}
AreInOrder (x ∷ xs) = (x.begins.0 ≤ x.ends.0) × ((i : ℕ) (d : Pause) → i < length xs → x.ends.0 ≤ (get_or xs i d).begins.0) × AreInOrder xs
