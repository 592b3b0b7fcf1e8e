-- Dues that are set together (profile).
use Rattle.std.specs.Prelude.{◌≡◌, ℕ, Bool, false, ◌==◌, ◌&&◌, ◌||◌, List, [], ◌∷◌, if◌then◌else◌}
use Rattle.kube_objects.specs.declared.key.Key.{Key}
use Rattle.kube_objects.specs.declared.pod.Due.{Due}
use Rattle.kube_objects.specs.declared.pod.Due.TheVariants.{Never, At}
use Rattle.kube_objects.specs.Keys.{key_eq}

-- the due of a pod after the dues of a list are set, where it was this one before
abbrev pub changed : List (Key × Due) → Due → Key → Due
changed [] old key = old
changed (pair ∷ pairs) old key = if key_eq pair.0 key then pair.1 else changed pairs old key

-- whether a list has a due for a pod
abbrev pub names_key : List (Key × Due) → Key → Bool
names_key [] key = false
names_key (pair ∷ pairs) key = key_eq pair.0 key || names_key pairs key

-- no two dues of a list are for one pod
abbrev pub KeysDiffer : List (Key × Due) → Type 0
KeysDiffer [] = Unit {0}
KeysDiffer (pair ∷ pairs) = (names_key pairs pair.0 ≡ false) × KeysDiffer pairs

-- whether a due is at this time
abbrev pub is_time : ℕ → Due → Bool
is_time time Never = false
is_time time (At other) = other == time

-- whether a list sets a pod's due to this time
abbrev pub sets_time : List (Key × Due) → ℕ → Key → Bool
sets_time [] time key = false
sets_time (pair ∷ pairs) time key = (key_eq pair.0 key && is_time time pair.1) || sets_time pairs time key
