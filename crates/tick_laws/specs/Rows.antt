-- Since when nodes wait, within a tick.
use Rattle.std.specs.Prelude.{◌≡◌, ◌⊎◌, ℕ, ◌&&◌, Bool, true, false, List, [], ◌∷◌, Option, Some, None}
use Rattle.kube_objects.specs.Entry.{Entry, Identity, Place, Fact, Ticks, Head}
use Rattle.kube_objects.specs.Tainting.{is_tick_of, waits, before_tick}
use Rattle.tick_laws.specs.Judged.{waits_since}

abbrev pub is_no_head : Fact → Bool
is_no_head (Ticks (Head place node wanted given written tried)) = false
is_no_head _ = true

-- the tick at a beat has had no queued taint so far
abbrev pub no_heads : Identity → ℕ → List Entry → Bool
no_heads q k [] = true
no_heads q k (e ∷ h) = elim (is_tick_of q k e.beat e.actor e.fact) [ true ↦ is_no_head e.fact && no_heads q k h | false ↦ true ]

-- since when a node waits, where it waits: since the beat by which it did before the tick, else since this beat
abbrev pub settled : Option ℕ → ℕ → Option ℕ → Option ℕ
settled None k old = None
settled (Some wanted) k None = Some k
settled (Some wanted) k (Some at) = Some at

-- a node that didn't wait before the tick waits since this beat, if at all
abbrev pub IsFresh : Identity → ℕ → Place → ℕ → List Entry → Type 0
IsFresh q k place name h =
    waits q place name (before_tick q k h) ≡ None → (waits_since q place name h ≡ None) ⊎ (waits_since q place name h ≡ Some k)
