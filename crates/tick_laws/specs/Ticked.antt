-- A history with own entries of one tick on top.
use Rattle.std.specs.Prelude.{◌≡◌, ℕ, List, [], ◌∷◌}
use Rattle.kube_objects.specs.Entry.{Entry, Identity, Tick}
use Rattle.kube_objects.specs.Tick.{add}

-- these entries on top, the newest first
abbrev pub ticked : ℕ → Identity → List Tick → List Entry → List Entry
ticked k q [] h = h
ticked k q (t ∷ ts) h = add k q t (ticked k q ts h)

-- g is h with entries of the identity's tick at this beat on top
pub record IsTicked (q : Identity) (k : ℕ) (h g : List Entry) : Type 0 where
  pub ticks : List Tick
  pub is : g ≡ ticked k q ticks h
