-- Within a pass.
use Rattle.std.specs.Prelude.{◌≡◌, ◌≤◌, ℕ, Bool, false, List, Option, Some, None, IfSome, option_map}
use Rattle.kube_base.specs.Bounds.{most_local}
use Rattle.kube_base.specs.declared.numbers.Local.{Local}
use Rattle.kube_objects.specs.declared.deed.Deed.{Deed}
use Rattle.kube_objects.specs.Clocks.{local}
use Rattle.kube_objects.specs.Document.{Doc}
use Rattle.kube_objects.specs.Entry.{Entry, Identity, Pass}
use Rattle.kube_objects.specs.Health.{last_pass, lease_of, pass_period}
use Rattle.kube_objects.specs.Seen.{seen_lease}
use Rattle.kube_objects.specs.Tick.{add}
use Rattle.node_health.specs.Stands.{AreAlike, PassStands}
use Rattle.node_health.specs.declared.health.Health.{Health}
use Rattle.object_store.specs.declared.store.Store.{Store}
use Rattle.term_state.specs.MidTick.{MidTick}
use Rattle.tick_laws.specs.Steps.{pods_on}
use Rattle.term_state.specs.declared.cluster.Cluster.{Cluster}
use Rattle.term_state.specs.declared.told.Told.{Told}
use Rattle.controller_core.specs.Working.{kept}
use Rattle.controller_core.specs.declared.pass.work.LastPass.{LastPass}

abbrev pub reading_of : Option Local → Option ℕ
reading_of None = None
reading_of (Some at) = Some at.0

abbrev pub reading_in : Option LastPass → Option ℕ
reading_in None = None
reading_in (Some last) = Some last.at.0

-- the reading of the last pass, and how long after it the next one is due
pub record LastStands (doc : Doc) (q : Identity) (h : List Entry) (last : Option LastPass) : Type 0 where
  pub reading : reading_in last ≡ option_map (local doc q.process) (last_pass q h)
  pub period : IfSome last (λ x. x.period ≡ kept (pass_period doc q h))

-- it is in the range of readings, so a reading that is due in it is a number that can be kept
abbrev pub IsLastInRange : Option LastPass → Type 0
IsLastInRange last = IfSome last (λ x. x.at.0 ≤ most_local)

-- h is the history before the pass, and now has the marks so far; some nodes were looked at. Leases and the pods on each node are as they
-- were before the pass, and what was kept of the other nodes as after its entry
pub record IsPassing (doc : Doc) (k : ℕ) (q : Identity) (before : List Deed) (h now : List Entry) (looked : ℕ → Bool)
    (c : Cluster) (x : Health) (s : Store) (t : Told) : Type 0 where
  pub running : MidTick doc q k before now c s t
  pub health : PassStands doc q h now looked x
  pub leases : (name : ℕ) → lease_of (seen_lease q name now) ≡ lease_of (seen_lease q name h)
  pub pods : (name : ℕ) → pods_on q name now ≡ pods_on q name h
  pub alike : (name : ℕ) → looked name ≡ false → AreAlike q name (add k q Pass h) now
