-- Histories that end in no tick: nothing of a tick at these beats stands on top, and no pass of these beats.
use Rattle.std.specs.Prelude.{◌≡◌, ◌≤◌, ℕ, false, List}
use Rattle.kube_objects.specs.Entry.{Entry, Identity}
use Rattle.kube_objects.specs.Health.{is_pass_tick}
use Rattle.kube_objects.specs.Tainting.{before_tick}

-- of a term at a beat
pub record HasNoTick (k : ℕ) (q : Identity) (h : List Entry) : Type 0 where
  pub before : before_tick q k h ≡ h
  pub passed : is_pass_tick k q h ≡ false

-- of no term at this beat or a later one
abbrev pub IsUnticked : ℕ → List Entry → Type 0
IsUnticked k h = (j : ℕ) (q : Identity) → k ≤ j → HasNoTick j q h

-- of no term of this process or a later one, at this beat
abbrev pub IsUntickedFrom : ℕ → ℕ → List Entry → Type 0
IsUntickedFrom k p h = (q : Identity) → p ≤ q.process → HasNoTick k q h
