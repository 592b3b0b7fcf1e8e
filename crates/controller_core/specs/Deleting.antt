-- Within the evictions of a tick.
use Rattle.std.specs.Prelude.{◌≡◌, ℕ, Bool, true, List, Option, Some, None}
use Rattle.kube_base.specs.declared.numbers.Version.{Version}
use Rattle.kube_objects.specs.declared.call.Answer.{Answer}
use Rattle.kube_objects.specs.declared.deed.Deed.{Deed}
use Rattle.kube_objects.specs.declared.key.Key.{Key}
use Rattle.kube_objects.specs.Deletes.{no_version}
use Rattle.kube_objects.specs.Document.{Doc}
use Rattle.kube_objects.specs.Entry.{Entry, Identity}
use Rattle.kube_objects.specs.Seen.{is_synced}
use Rattle.kube_objects.specs.Tries.{try_delete, try_delete_alone}
use Rattle.object_store.specs.Stands.{StoreStands}
use Rattle.object_store.specs.declared.store.Store.{Store}
use Rattle.term_state.specs.declared.cluster.Cluster.{Cluster}
use Rattle.term_state.specs.declared.eviction.Eviction.{Eviction}
use Rattle.term_state.specs.declared.told.Told.{Told}
use Rattle.term_state.specs.ClusterStands.{ClusterBut, no_node}
use Rattle.term_state.specs.MidTick.{IsMoved, IsTold}
use Rattle.term_state.specs.Sights.{SettledBy}

-- the version of the node that an eviction names, and how it is answered
abbrev pub named_version : Option (ℕ × Version) → Version
named_version None = no_version
named_version (Some x) = x.1

abbrev pub answered_as : Identity → Key → Version → Option (ℕ × Version) → List Entry → Option Answer
answered_as q pod given None h = try_delete_alone q pod given h
answered_as q pod given (Some x) h = try_delete q pod given x.0 x.1 h

abbrev pub answered : Identity → Key → Eviction → List Entry → Option Answer
answered q pod e h = answered_as q pod e.given e.node h

-- a cluster whose rows are settled, and from which the dues of these pods are taken out
pub record DuesBut (doc : Doc) (q : Identity) (h : List Entry) (pods : Key → Bool) (c : Cluster) : Type 0 where
  pub cluster : ClusterBut q h no_node pods c
  pub from : c.evict_from ≡ doc.settings.rules.evict_from
  pub settled : SettledBy doc.settings.rules.evict_from doc q h pods c

-- with the store, and what was told
pub record Deleting (doc : Doc) (q : Identity) (k : ℕ) (before : List Deed) (h : List Entry)
    (pods : Key → Bool) (c : Cluster) (s : Store) (t : Told) : Type 0 where
  pub dues : DuesBut doc q h pods c
  pub moved : IsMoved q k h c
  pub store : StoreStands h s
  pub told : IsTold q k before h t
  pub synced : is_synced q h ≡ true
