-- What the phases of a tick keep.
use Rattle.std.specs.Prelude.{◌≡◌, ℕ, ◌++◌, not, true, false, List}
use Rattle.kube_objects.specs.declared.deed.Deed.{Deed}
use Rattle.kube_objects.specs.Clocks.{local, wall}
use Rattle.kube_objects.specs.Document.{Doc}
use Rattle.kube_objects.specs.Entry.{Entry, Identity, Place, actor_of}
use Rattle.kube_objects.specs.InForce.{watches}
use Rattle.kube_objects.specs.Seen.{is_synced}
use Rattle.kube_objects.specs.Tainting.{waits, before_tick}
use Rattle.kube_objects.specs.Wire.{loses_requests}
use Rattle.history.specs.Printed.{printed}
use Rattle.object_store.specs.Stands.{StoreStands}
use Rattle.object_store.specs.declared.store.Store.{Store}
use Rattle.term_state.specs.declared.cluster.Cluster.{Cluster}
use Rattle.term_state.specs.declared.told.Told.{Told}
use Rattle.term_state.specs.declared.view.View.{View}
use Rattle.term_state.specs.ClusterStands.{ClusterStands, has_moved}
use Rattle.term_state.specs.Sights.{SightedBy}

-- each node that waits otherwise than before the tick is among the moved ones
abbrev pub IsMoved : Identity → ℕ → List Entry → Cluster → Type 0
IsMoved q k h c = (n : ℕ) → has_moved c n ≡ false → (place : Place) → waits q place n h ≡ waits q place n (before_tick q k h)

pub record IsView (doc : Doc) (k : ℕ) (q : Identity) (h : List Entry) (v : View) : Type 0 where
  pub watch : v.watch ≡ watches doc q.process h
  pub passes : v.passes ≡ not (loses_requests q.process h)
  pub beat : v.beat.0 ≡ k
  pub reading : v.now.0 ≡ local doc q.process k
  pub time : v.wall.0 ≡ wall doc q.process k

abbrev pub deeds_in : Told → List Deed
deeds_in t = t.deeds

-- the deeds of a tick after those that were printed before
pub record IsTold (q : Identity) (k : ℕ) (before : List Deed) (h : List Entry) (t : Told) : Type 0 where
  pub who : t.who ≡ actor_of q
  pub beat : t.beat.0 ≡ k
  pub told : before ++ t.deeds ≡ printed h

-- within a tick, after its sync and before its deletes
pub record MidTick (doc : Doc) (q : Identity) (k : ℕ) (before : List Deed) (h : List Entry) (c : Cluster) (s : Store) (t : Told) : Type 0 where
  pub cluster : ClusterStands q h c
  pub from : c.evict_from ≡ doc.settings.rules.evict_from
  pub sights : SightedBy doc.settings.rules.evict_from doc k q h c
  pub moved : IsMoved q k h c
  pub store : StoreStands h s
  pub told : IsTold q k before h t
  pub synced : is_synced q h ≡ true
