-- Tolerations in slots by their keys.
use Rattle.std.specs.Prelude.{◌≡◌, ℕ, ◌*◌, ◌/◌, ◌%◌, ◌^◌, ◌||◌, Bool, List, [], Option, Some, None, slice_get}
use Rattle.std.specs.List.{list_any}
use Rattle.kube_objects.specs.declared.node.Taint.{Taint}
use Rattle.kube_objects.specs.declared.pod.Toleration.{Toleration}
use Rattle.kube_objects.specs.Tolerations.{tolerates}
use Rattle.pod_tools.specs.declared.by_key.Slots.{Slots}

-- the slot of a key: the upper eight bits of its product with a number
abbrev pub slot : ℕ → ℕ → ℕ
slot mix key = ((mix * key) % 2 ^ 64) / 72057594037927936

abbrev pub or_empty : Option (List Toleration) → List Toleration
or_empty None = []
or_empty (Some tolerations) = tolerations

-- what is in a slot
abbrev pub in_slot : List (List Toleration) → ℕ → List Toleration
in_slot slots place = or_empty (slice_get slots place)

-- a toleration without a key, or one in the slot of the taint's key, tolerates the taint
abbrev pub is_told : Slots → Taint → Bool
is_told s taint =
    list_any (λ t. tolerates t taint) s.keyless || list_any (λ t. tolerates t taint) (in_slot s.slots.items (slot s.mix taint.key))

-- these are all that count
abbrev pub IsRight : List Toleration → Slots → Type 0
IsRight tolerations s = (taint : Taint) → is_told s taint ≡ list_any (λ t. tolerates t taint) tolerations
