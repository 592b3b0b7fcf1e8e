-- When a node that isn't heard of is marked Unknown. Source: the node lifecycle controller of Kubernetes, its monitor of node health; the profile.
use Rattle.std.specs.Prelude.{◌≡◌, ◌≤◌, ◌<◌, ℕ, suc, ◌+◌, ◌-◌, true, false, ◌∷◌, List, Option, Some, None}
use Rattle.kube_base.specs.declared.numbers.Version.{Version}
use Rattle.kube_objects.specs.declared.call.Answer.TheVariants as answer
use Rattle.kube_objects.specs.declared.node.Node.{Node}
use Rattle.kube_objects.specs.declared.node.Ready.{Ready}
use Rattle.kube_objects.specs.Document.{Doc, of_millis}
use Rattle.kube_objects.specs.Entry.{Entry, Identity, Ticks, Mark, Mode, entry}
use Rattle.kube_objects.specs.Health.{hears, is_unknown_status}
use Rattle.kube_objects.specs.Own.{ReleasesByStop, PassesTakeNoWork, ProbesByRun}
use Rattle.history.specs.Evictions.{stored_node}
use Rattle.history.specs.History.{history}
use Rattle.history_laws.specs.Tails.{IsTail}
use Rattle.span_laws.specs.Spans.{RunsAtLeast, RunsAtMost, IsEnough, IsNeeded}
use Rattle.span_laws.specs.Looks.{IsAtMost, IsAtLeast, IsGreatest}
use Rattle.outage_laws.specs.Attended.{Attends}
use Rattle.outage_laws.specs.Passes.{synced_at, has_pass, monitor_period}

abbrev pub grace_period : Doc → ℕ
grace_period doc = of_millis doc.settings.grace_period_millis

-- a node is stored with a Ready that isn't Unknown
abbrev pub IsReadyKnown : Option Ready → Type 0
IsReadyKnown None = ⊥
IsReadyKnown (Some r) = is_unknown_status r.status ≡ false

abbrev pub IsPosted : Option (Version × Node) → Type 0
IsPosted None = ⊥
IsPosted (Some x) = IsReadyKnown x.1.ready

-- so it is as the leader's ticks of the beats from a to m begin
abbrev pub StaysPosted : Doc → Identity → ℕ → ℕ → ℕ → Type 0
StaysPosted doc q name a m = (k : ℕ) → a ≤ k → k ≤ m → IsPosted (stored_node name (synced_at doc q k))

-- the leader marks the node in beat m, and the store accepts it
pub record IsMarked (doc : Doc) (q : Identity) (name m : ℕ) : Type 0 where
  pub given : Version
  pub written : Node
  pub version : Version
  pub before : List Entry
  pub stands : IsTail (entry m 4 q (Ticks (Mark name given written (Some (answer.Done version)))) ∷ before) (history doc (suc m))

-- the pass of beat a is the last one up to beat e that hears of the node, and the all-Full mode doesn't end after it
pub record IsLastHeard (doc : Doc) (q : Identity) (name a e : ℕ) : Type 0 where
  pub pass : has_pass doc q a ≡ true
  pub heard : hears q name (synced_at doc q a) ≡ true
  pub silent : (k : ℕ) → a < k → k ≤ e → has_pass doc q k ≡ true → hears q name (synced_at doc q k) ≡ false
  pub mode : (k : ℕ) (before : List Entry) → a < k → k ≤ e → IsTail (entry k 4 q (Ticks (Mode false)) ∷ before) (history doc (suc k)) → ⊥

-- with the project's own rules, that of probes too, while a leader attends to its nodes: some beats after the last pass that heard of a node it marks it Unknown,
-- where it stays stored with a Ready that isn't Unknown until then. These beats are within the bounds of looks a monitor period apart that find
-- more than the grace period over
abbrev pub NodesAreMarked : Type 0
NodesAreMarked =
    (doc : Doc) → ReleasesByStop doc → PassesTakeNoWork doc → ProbesByRun doc → (q : Identity) (name a e : ℕ) → Attends doc q a e → IsLastHeard doc q name a e
    → (slow fast near far : ℕ) → RunsAtLeast doc q.process a e slow → RunsAtMost doc q.process a e fast → IsNeeded fast (monitor_period doc) near → IsEnough slow (monitor_period doc) far → 1 ≤ far
    → (enough needed most : ℕ) → IsEnough slow (grace_period doc + 1) enough → IsNeeded fast (grace_period doc + 1) needed → IsGreatest near far enough most → a + most ≤ e
    → (m : ℕ) × IsAtMost near far enough (m - a) × IsAtLeast near far needed (m - a) × (a < m) × (StaysPosted doc q name a m → IsMarked doc q name m)
