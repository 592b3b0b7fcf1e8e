-- The passes over the nodes of a leader that attends to them. Source: the node lifecycle controller of Kubernetes, its monitor of node health; the
-- profile.
use Rattle.std.specs.Prelude.{◌≡◌, ◌≤◌, ◌<◌, ℕ, ◌+◌, ◌-◌, Bool, true, List}
use Rattle.kube_objects.specs.Clocks.{local}
use Rattle.kube_objects.specs.Document.{Doc, of_millis}
use Rattle.kube_objects.specs.Entry.{Entry, Identity}
use Rattle.kube_objects.specs.Health.{is_pass_due}
use Rattle.kube_objects.specs.Own.{ReleasesByStop, PassesTakeNoWork}
use Rattle.kube_objects.specs.Tick.{sync}
use Rattle.history.specs.History.{at_turn}
use Rattle.history.specs.Steps.{elector_turn}
use Rattle.span_laws.specs.Spans.{RunsAtLeast, RunsAtMost, IsEnough, IsNeeded}
use Rattle.span_laws.specs.Looks.{IsAtMost, IsAtLeast, IsGreatest}
use Rattle.outage_laws.specs.Attended.{Attends}

-- what a leader's tick in beat k goes by: the history as the tick begins, with its sync
abbrev pub synced_at : Doc → Identity → ℕ → List Entry
synced_at doc q k = sync doc k q (elector_turn doc k q.process (at_turn doc q.process k))

-- whether the tick has a pass
abbrev pub has_pass : Doc → Identity → ℕ → Bool
has_pass doc q k = is_pass_due doc k q (synced_at doc q k)

abbrev pub monitor_period : Doc → ℕ
monitor_period doc = of_millis doc.settings.monitor_period_millis

-- the first pass that finds a time over since the pass at beat a
pub record IsFoundBy (doc : Doc) (q : Identity) (time a m : ℕ) : Type 0 where
  pub after : a < m
  pub pass : has_pass doc q m ≡ true
  pub over : local doc q.process a + time ≤ local doc q.process m
  pub first : (k : ℕ) → a < k → k < m → has_pass doc q k ≡ true → local doc q.process k < local doc q.process a + time

-- with the project's own rules, where the writes of passes take no time, of a leader that attends to the beats from a pass on: the first pass that finds a time over comes within the
-- bounds of looks that are as many beats apart as the monitor period takes on its clock
abbrev pub PassesFind : Type 0
PassesFind =
    (doc : Doc) → ReleasesByStop doc → PassesTakeNoWork doc → (q : Identity) (a e : ℕ) → Attends doc q a e → has_pass doc q a ≡ true
    → (slow fast near far : ℕ) → RunsAtLeast doc q.process a e slow → RunsAtMost doc q.process a e fast → IsNeeded fast (monitor_period doc) near → IsEnough slow (monitor_period doc) far → 1 ≤ far
    → (time enough needed most : ℕ) → 1 ≤ time → IsEnough slow time enough → IsNeeded fast time needed → IsGreatest near far enough most → a + most ≤ e
    → (m : ℕ) × IsFoundBy doc q time a m × (m ≤ e) × IsAtMost near far enough (m - a) × IsAtLeast near far needed (m - a)
