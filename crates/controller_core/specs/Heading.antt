-- What the queued taints of a tick keep.
use Rattle.std.specs.Prelude.{ℕ, List}
use Rattle.kube_objects.specs.declared.deed.Deed.{Deed}
use Rattle.kube_objects.specs.Document.{Doc}
use Rattle.kube_objects.specs.Entry.{Entry, Identity}
use Rattle.object_store.specs.declared.store.Store.{Store}
use Rattle.taint_zones.specs.declared.zones.Zones.{Zones}
use Rattle.taint_zones.specs.Limits.{LimitsStand}
use Rattle.term_state.specs.declared.cluster.Cluster.{Cluster}
use Rattle.term_state.specs.declared.told.Told.{Told}
use Rattle.term_state.specs.MidTick.{MidTick}
use Rattle.controller_core.specs.QueuesStand.{AreFresh, QueuesStand}

-- within a tick, once it is settled who waits
pub record Heading (doc : Doc) (q : Identity) (k : ℕ) (before : List Deed) (h : List Entry)
    (z : Zones) (c : Cluster) (s : Store) (t : Told) : Type 0 where
  pub running : MidTick doc q k before h c s t
  pub limits : LimitsStand doc q h z
  pub queues : QueuesStand q h z.queues
  pub fresh : AreFresh q k h
