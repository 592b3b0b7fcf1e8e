-- A process's tick while the store goes, and none while it stands still.
use Rattle.std.proofs.Common.{◌≡◌, ℕ, Bool, true, false, List, ap}
use Rattle.std.specs.Prelude.{if◌then◌else◌}
use Rattle.kube_objects.specs.Document.{Doc}
use Rattle.kube_objects.specs.Elector.{acts}
use Rattle.kube_objects.specs.Entry.{Entry}
use Rattle.kube_objects.specs.Process.{alive}
use Rattle.kube_objects.specs.Stalls.{is_stalled}
use Rattle.kube_objects.specs.Tick.{tick}
use Rattle.history.specs.Steps.{if_up, ticks, ticks_while}

pub ticks_go : (doc : Doc) (k p : ℕ) (h : List Entry) → is_stalled doc k ≡ false
    → ticks doc k p h ≡ if_up p (λ q T. (if (acts doc q k T) then tick doc k q T else T)) (alive p h) h
ticks_go doc k p h goes = ap (λ b. ticks_while b doc k p h) goes

pub ticks_stall : (doc : Doc) (k p : ℕ) (h : List Entry) → is_stalled doc k ≡ true → ticks doc k p h ≡ h
ticks_stall doc k p h stands = ap (λ b. ticks_while b doc k p h) stands

-- what holds before a tick and after it
pub ticks_keep : (doc : Doc) (k p : ℕ) (h : List Entry) (P : List Entry → Type 0) → P h
    → P (if_up p (λ q T. (if (acts doc q k T) then tick doc k q T else T)) (alive p h) h) → P (ticks doc k p h)
ticks_keep doc k p h P before after = by_stall (is_stalled doc k)
  where
    by_stall : (b : Bool) → P (ticks_while b doc k p h)
    by_stall true = before
    by_stall false = after
