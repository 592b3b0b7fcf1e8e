-- A tournament tree in slots: slot 1 is the root, and the slots 2 * i and 2 * i + 1 stand below slot i.
use Rattle.std.specs.Prelude.{◌≡◌, ◌≢◌, ℕ, zero, suc, ◌+◌, ◌*◌, ◌/◌, ◌<◌, ◌≤◌, nat_lt, Bool, true, false, List, Option, Some, None, length, slice_get, if◌then◌else◌}
use Rattle.kube_base.specs.declared.numbers.Beat.{Beat}

-- a beat comes before another; one that isn't there never comes, and comes after all others
abbrev pub comes_before : Option Beat → Option Beat → Bool
comes_before None other = false
comes_before (Some one) None = true
comes_before (Some one) (Some other) = nat_lt one.0 other.0

abbrev pub earlier : Option Beat → Option Beat → Option Beat
earlier one other = if comes_before other one then other else one

abbrev pub joined : Option (Option Beat) → Option Beat
joined None = None
joined (Some beat) = beat

-- the beat in a slot, where there is such a slot
abbrev pub beat_at : List (Option Beat) → ℕ → Option Beat
beat_at slots i = joined (slice_get slots i)

-- a slot above others has the earlier beat of the two below it
abbrev pub IsTidyAt : List (Option Beat) → ℕ → Type 0
IsTidyAt slots i = beat_at slots i ≡ earlier (beat_at slots (2 * i)) (beat_at slots (2 * i + 1))

-- each has
abbrev pub IsTidy : List (Option Beat) → Type 0
IsTidy slots = (i : ℕ) → 1 ≤ i → 2 * i + 1 < length slots → IsTidyAt slots i

-- each but one has
abbrev pub IsTidyBut : List (Option Beat) → ℕ → Type 0
IsTidyBut slots but = (i : ℕ) → 1 ≤ i → 2 * i + 1 < length slots → i ≢ but → IsTidyAt slots i

-- as many leaves as a tree of this depth has
abbrev pub doubled : ℕ → ℕ
doubled zero = 1
doubled (suc n) = 2 * doubled n

-- ---- ways up

-- the slot so many above another
abbrev pub up : ℕ → ℕ → ℕ
up zero slot = slot
up (suc d) slot = up d slot / 2

-- a slot stands so many above another, and is the first one below it at each step
abbrev pub IsFirstBelow : ℕ → ℕ → ℕ → Type 0
IsFirstBelow zero slot next = slot ≡ next
IsFirstBelow (suc d) slot next = IsFirstBelow d slot (2 * next)

-- the uppermost slot that the one after another is the first below: an odd one
abbrev pub IsAcross : ℕ → ℕ → Type 0
IsAcross slot next = ((d : ℕ) × IsFirstBelow d (slot + 1) next) × ((half : ℕ) × (next ≡ 2 * half + 1))
