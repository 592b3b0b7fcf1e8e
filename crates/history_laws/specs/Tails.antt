-- Entries of a history, and its positions.
use Rattle.std.specs.Prelude.{◌≡◌, ◌⊎◌, List, [], ◌∷◌}
use Rattle.kube_objects.specs.Entry.{Entry}

-- one of some things
abbrev pub Among : {A : Type 0} → A → List A → Type 0
Among x [] = ⊥
Among x (y ∷ ys) = (x ≡ y) ⊎ Among x ys

-- an entry stands in a history
abbrev pub In : Entry → List Entry → Type 0
In e [] = ⊥
In e (x ∷ h) = (e ≡ x) ⊎ In e h

-- a position of a history: what stood at some moment, with everything before it
abbrev pub IsTail : List Entry → List Entry → Type 0
IsTail g [] = g ≡ []
IsTail g (e ∷ h) = (g ≡ e ∷ h) ⊎ IsTail g h
