-- The reading that a process waits for, and the beat at which its clock reads it.
use Rattle.std.specs.Prelude.{◌≡◌, ℕ, ◌≤◌, Bool, true, false, List, Option, Some, None, IfSome}
use Rattle.kube_base.specs.declared.numbers.Beat.{Beat}
use Rattle.kube_base.specs.declared.numbers.Local.{Local}
use Rattle.kube_objects.specs.Document.{Doc, is_controller}
use Rattle.kube_objects.specs.Entry.{Entry}
use Rattle.agenda_laws.specs.Times.{is_early, elector_reading, kubelet_reading}
use Rattle.skew_clock.specs.Clocking.{Clocking, reading}

abbrev pub reading_of : Option Local → Option ℕ
reading_of None = None
reading_of (Some at) = Some at.0

abbrev pub beat_in : Option Beat → Option ℕ
beat_in None = None
beat_in (Some beat) = Some beat.0

-- the first beat, up to its end, at which a clock reads something; None where it reads that at none, or nothing is asked for
pub record IsBeatOf (clock : Clocking) (beat : Option Beat) (at : Option Local) : Type 0 where
  pub tells : (j : ℕ) → j ≤ clock.end → is_early j (beat_in beat) ≡ is_early (reading clock j) (reading_of at)
  pub within : IfSome beat (λ b. b.0 ≤ clock.end)

-- the least reading from which on a turn, its tick aside, adds an entry, by the sort of the process
abbrev pub own_reading_as : Doc → ℕ → Bool → List Entry → Option ℕ
own_reading_as doc p true h = elector_reading doc p h
own_reading_as doc p false h = kubelet_reading doc p h

abbrev pub own_reading : Doc → ℕ → List Entry → Option ℕ
own_reading doc p h = own_reading_as doc p (is_controller doc p) h
