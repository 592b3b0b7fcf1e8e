-- A leader whose ticks are all prompt. Source: profile.
use Rattle.std.specs.Prelude.{◌≡◌, ◌≤◌, ℕ, true, false}
use Rattle.kube_objects.specs.Document.{Doc}
use Rattle.kube_objects.specs.Entry.{Identity}
use Rattle.kube_objects.specs.InForce.{watches}
use Rattle.kube_objects.specs.Stalls.{is_stalled}
use Rattle.kube_objects.specs.Tick.{has_settled}
use Rattle.kube_objects.specs.Wire.{loses_requests}
use Rattle.history.specs.History.{at_turn}
use Rattle.history.specs.Safe.{Acts}

-- it acts as the leader at its turn in beat k, its watch is on, its requests pass, it has waited so long since its lead as its first
-- sync takes, which is no time at all by the project's own rules, and the store goes
abbrev pub IsAttended : Doc → Identity → ℕ → Type 0
IsAttended doc q k =
    Acts doc q k × (watches doc q.process (at_turn doc q.process k) ≡ true) × (loses_requests q.process (at_turn doc q.process k) ≡ false)
    × (has_settled doc k q (at_turn doc q.process k) ≡ true) × (is_stalled doc k ≡ false)

-- so it does at each beat from a to e
abbrev pub Attends : Doc → Identity → ℕ → ℕ → Type 0
Attends doc q a e = (k : ℕ) → a ≤ k → k ≤ e → IsAttended doc q k
