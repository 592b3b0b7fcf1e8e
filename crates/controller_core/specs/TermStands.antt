-- A term stands for a history.
use Rattle.std.specs.Prelude.{◌≡◌, ◌++◌, ℕ, true, false, List}
use Rattle.history.specs.Printed.{printed}
use Rattle.kube_objects.specs.declared.deed.Deed.{Deed}
use Rattle.kube_objects.specs.Document.{Doc}
use Rattle.kube_objects.specs.Entry.{Entry, Identity}
use Rattle.kube_objects.specs.Health.{is_pass_tick}
use Rattle.kube_objects.specs.Tick.{evicted, tick}
use Rattle.node_health.specs.Stands.{HealthStands}
use Rattle.object_store.specs.Stands.{StoreStands}
use Rattle.object_store.specs.declared.store.Store.{Store}
use Rattle.taint_zones.specs.Limits.{LimitsStand}
use Rattle.controller_core.specs.Allowing.{AllowanceStands}
use Rattle.controller_core.specs.FirstSync.{SettlesStand}
use Rattle.controller_core.specs.Passing.{IsLastInRange, LastStands}
use Rattle.term_state.specs.declared.told.Told.{Told}
use Rattle.term_state.specs.ClusterStands.{ClusterStands, no_pod}
use Rattle.term_state.specs.MidTick.{IsTold, MidTick}
use Rattle.term_state.specs.Sights.{SettledBy}
use Rattle.controller_core.specs.Deleting.{Deleting}
use Rattle.controller_core.specs.HeadsStand.{HeadsBegin, HeadsStand}
use Rattle.controller_core.specs.Looking.{HeldStand}
use Rattle.tick_laws.specs.Rows.{no_heads}
use Rattle.tick_laws.specs.Since.{AreReached}
use Rattle.zone_counts.specs.Settings.{AreSettings}
use Rattle.controller_core.specs.Turning.{headed}
use Rattle.controller_core.specs.declared.term.Term.{Term}

-- what it keeps beside its cluster: one clause for each field, and that the last pass was at a reading in range; of the queues there is one by when nodes
-- are judged
pub record PartsStand (doc : Doc) (q : Identity) (h : List Entry) (t : Term) : Type 0 where
  pub allowance : AllowanceStands doc q h t.allowance
  pub health : HealthStands doc q h t.health
  pub limits : LimitsStand doc q h t.zones
  pub queues : HeadsStand doc q h t.zones
  pub held : HeldStand q h t.held
  pub last : LastStands doc q h t.last
  pub range : IsLastInRange t.last
  pub settles : SettlesStand doc q h t.settles
  pub settings : AreSettings doc t.settings

-- the cluster has the document's rule and its rows, and stale keys were written since the last sync
pub record TermStands (doc : Doc) (q : Identity) (h : List Entry) (t : Term) : Type 0 where
  pub cluster : ClusterStands q h t.cluster
  pub from : t.cluster.evict_from ≡ doc.settings.rules.evict_from
  pub sights : SettledBy doc.settings.rules.evict_from doc q h no_pod t.cluster
  pub reached : AreReached q h
  pub parts : PartsStand doc q h t

-- after a tick: the term and the store stand for the history with the tick, and the deeds are those that are printed for it
pub record Ticked (doc : Doc) (k : ℕ) (q : Identity) (h : List Entry) (deeds : List Deed) (t : Term) (s : Store) : Type 0 where
  pub term : TermStands doc q (tick doc k q h) t
  pub store : StoreStands (tick doc k q h) s
  pub told : printed h ++ deeds ≡ printed (tick doc k q h)

-- ---- within a tick

-- after the sync, with no pass yet; who waits is as before the tick
pub record Begun (doc : Doc) (k : ℕ) (q : Identity) (before : List Deed) (h : List Entry) (t : Term) (s : Store) (o : Told) : Type 0 where
  pub running : MidTick doc q k before h t.cluster s o
  pub allowance : AllowanceStands doc q h t.allowance
  pub health : HealthStands doc q h t.health
  pub limits : LimitsStand doc q h t.zones
  pub queues : HeadsBegin doc k q h t.zones
  pub held : HeldStand q h t.held
  pub passed : is_pass_tick k q h ≡ false
  pub heads : no_heads q k h ≡ true
  pub last : LastStands doc q h t.last
  pub range : IsLastInRange t.last
  pub settles : SettlesStand doc q h t.settles
  pub settings : AreSettings doc t.settings

-- after the evictions
pub record Acted (doc : Doc) (k : ℕ) (q : Identity) (before : List Deed) (h : List Entry) (t : Term) (s : Store) (o : Told) : Type 0 where
  pub running : Deleting doc q k before h no_pod t.cluster s o
  pub parts : PartsStand doc q h t

-- at the end
pub record Went (doc : Doc) (k : ℕ) (q : Identity) (before : List Deed) (h : List Entry) (t : Term) (s : Store) (o : Told) : Type 0 where
  pub term : TermStands doc q h t
  pub store : StoreStands h s
  pub told : IsTold q k before h o

-- what a tick does after its sync
abbrev pub acted : Doc → ℕ → Identity → List Entry → List Entry
acted doc k q h = evicted doc k q (headed doc k q h)
