-- The last entry such that, and how many.
use Rattle.std.specs.Prelude.{ℕ, ◌+◌, Bool, true, false, List, [], ◌∷◌, Option, Some, None}
use Rattle.kube_objects.specs.Entry.{Entry}

-- what the newest entry says that says something; it is read with the history before it
abbrev pub newest : {A : Type 0} → (Entry → List Entry → Option A) → List Entry → Option A
newest f [] = None
newest f (e ∷ h) = elim (f e h) [ None ↦ newest f h | Some x ↦ Some x ]

abbrev pub added : Bool → ℕ → ℕ
added true n = n + 1
added false n = n

-- how many entries pass a test
abbrev pub count : (Entry → Bool) → List Entry → ℕ
count f [] = 0
count f (e ∷ h) = added (f e) (count f h)

abbrev pub when : {A : Type 0} → Bool → A → Option A
when true x = Some x
when false x = None

abbrev pub only_if : {A : Type 0} → Bool → Option A → Option A
only_if true x = x
only_if false x = None

abbrev pub join : {A : Type 0} → Option (Option A) → Option A
join None = None
join (Some x) = x

abbrev pub has : {A : Type 0} → Option A → Bool
has None = false
has (Some x) = true

abbrev pub or_else : {A : Type 0} → A → Option A → A
or_else x None = x
or_else x (Some y) = y

abbrev pub or_zero : Option ℕ → ℕ
or_zero = or_else 0
