-- The rows of pods stand for a history, where dues count from what is seen. Within a tick they are those from before it, until they are settled.
use Rattle.std.specs.Prelude.{◌≡◌, ℕ, ◌+◌, ◌&&◌, ◌||◌, not, Bool, true, false, cond, List, Option, Some, None}
use Rattle.std.specs.BTreeSet.{btree_set_len, contains}
use Rattle.kube_objects.specs.declared.key.Key.{Key}
use Rattle.kube_objects.specs.declared.pod.Bears.{Bears}
use Rattle.kube_objects.specs.declared.pod.Bears.TheVariants.{For}
use Rattle.kube_objects.specs.declared.pod.Due.{Due}
use Rattle.kube_objects.specs.declared.pod.Due.TheVariants.{Never, At}
use Rattle.kube_objects.specs.declared.rules.EvictRule.{EvictRule}
use Rattle.kube_objects.specs.declared.rules.EvictRule.TheVariants as evictions
use Rattle.kube_objects.specs.Clocks.{wall}
use Rattle.kube_objects.specs.Document.{Doc}
use Rattle.kube_objects.specs.Entry.{Entry, Identity}
use Rattle.kube_objects.specs.Keys.{key_cmp, key_eq}
use Rattle.kube_objects.specs.Newest.{has}
use Rattle.kube_objects.specs.Seen.{is_pod, is_stale, seen_pod}
use Rattle.kube_objects.specs.Sightings.{last_sight, micros_of, row, sight}
use Rattle.kube_objects.specs.Tainting.{before_tick}
use Rattle.evict_queue.specs.Queue.{due_in}
use Rattle.evict_queue.specs.Rows.{row_in}
use Rattle.evict_queue.specs.declared.rows.Going.{Going}
use Rattle.evict_queue.specs.declared.rows.Going.TheVariants.{Now, After}
use Rattle.evict_queue.specs.declared.rows.Row.{Row}
use Rattle.tick_laws.specs.Judged.{due_by}
use Rattle.watch_cache.specs.Stands.{stale_in}
use Rattle.term_state.specs.declared.cluster.Cluster.{Cluster}

abbrev pub going_of : Bears → Going
going_of (For micros) = After
going_of _ = Now

-- a row by the beat of its first tick, and by how long the pod bore its node's taints then
abbrev pub row_from : Doc → Identity → Option (ℕ × Bears) → Option Row
row_from doc q None = None
row_from doc q (Some x) = Some (record { going = going_of x.1; due = wall doc q.process x.0 + micros_of x.1 })

abbrev pub row_of : Doc → Identity → Key → List Entry → Option Row
row_of doc q key h = row_from doc q (row q key h)

-- whether a tick may see of a pod otherwise how long it bears its node's taints
abbrev pub has_touched : Cluster → Key → Bool
has_touched c key = contains key_cmp c.touched key

abbrev pub touched_len : Cluster → ℕ
touched_len c = btree_set_len c.touched

-- the steps that were counted, and one for each pod whose row is still to be settled
abbrev pub spent : Cluster → ℕ → ℕ
spent c steps = steps + touched_len c

-- the rows, and the dues by them but for some pods
pub record SightsBut (doc : Doc) (q : Identity) (h : List Entry) (pods : Key → Bool) (c : Cluster) : Type 0 where
  pub rows : (key : Key) → row_in c.rows key ≡ row_of doc q key h
  pub dues : (key : Key) → pods key ≡ false → due_in c.dues key ≡ due_by evictions.Seen doc q key h

-- what is seen of a pod is what was seen before; nothing is where its node isn't seen
abbrev pub KeepsSight : Option Bears → Option Bears → Type 0
KeepsSight old None = Unit {0}
KeepsSight old (Some b) = old ≡ Some b

-- whether a pod is due never, whatever its row
abbrev pub is_undue : Identity → Key → List Entry → Bool
is_undue q key h = not (is_pod key.kind) || is_stale q key h

-- from h to g a pod is seen as before
pub record IsAlike (q : Identity) (h g : List Entry) (key : Key) : Type 0 where
  pub sees : KeepsSight (sight q key h) (sight q key g)
  pub undue : is_undue q key g ≡ is_undue q key h
  pub there : has (seen_pod q key g) ≡ has (seen_pod q key h)

-- each pod that isn't touched is seen as before the tick
abbrev pub AreTouched : Identity → ℕ → List Entry → Cluster → Type 0
AreTouched q k h c = (key : Key) → has_touched c key ≡ false → IsAlike q (before_tick q k h) h key

pub record AreSighted (doc : Doc) (k : ℕ) (q : Identity) (h : List Entry) (c : Cluster) : Type 0 where
  pub before : SightsBut doc q (before_tick q k h) (λ key. false) c
  pub touched : AreTouched q k h c

pub record AreRowsSettled (doc : Doc) (q : Identity) (h : List Entry) (pods : Key → Bool) (c : Cluster) : Type 0 where
  pub sights : SightsBut doc q h pods c
  pub none : (key : Key) → has_touched c key ≡ false

-- by the rule of a cluster: within a tick before its rows are settled, and then but for the dues of some pods that are taken out
abbrev pub SightedBy : EvictRule → Doc → ℕ → Identity → List Entry → Cluster → Type 0
SightedBy evictions.Added doc k q h c = (key : Key) → has_touched c key ≡ false
SightedBy evictions.Seen doc k q h c = AreSighted doc k q h c

abbrev pub SettledBy : EvictRule → Doc → Identity → List Entry → (Key → Bool) → Cluster → Type 0
SettledBy evictions.Added doc q h pods c = (key : Key) → has_touched c key ≡ false
SettledBy evictions.Seen doc q h pods c = AreRowsSettled doc q h pods c

-- ---- what a call changes of it

-- from one cluster to another the rows are kept, and the dues by them
pub record IsRetained (old new : Cluster) : Type 0 where
  pub from : new.evict_from ≡ old.evict_from
  pub rows : (key : Key) → row_in new.rows key ≡ row_in old.rows key
  pub dues : old.evict_from ≡ evictions.Seen → (key : Key) → due_in new.dues key ≡ due_in old.dues key

-- whether dues count from what is seen
abbrev pub is_by_sight : EvictRule → Bool
is_by_sight evictions.Added = false
is_by_sight evictions.Seen = true

-- where they do, these pods are touched too
abbrev pub IsTouchedBy : (Key → Bool) → Cluster → Cluster → Type 0
IsTouchedBy pods old new = (key : Key) → has_touched new key ≡ ((is_by_sight old.evict_from && pods key) || has_touched old key)

-- when a row is due, where its pod isn't stale
abbrev pub due_of_row : Option Row → Due
due_of_row None = Never
due_of_row (Some row) = At row.due

abbrev pub due_if_fresh : Bool → Option Row → Due
due_if_fresh true row = Never
due_if_fresh false row = due_of_row row

-- a pod has this row, and is due by it
pub record SetsRow (pod : Key) (row : Option Row) (old new : Cluster) : Type 0 where
  pub rows : (key : Key) → row_in new.rows key ≡ cond (key_eq pod key) row (row_in old.rows key)
  pub dues : (key : Key) → due_in new.dues key ≡ cond (key_eq pod key) (due_if_fresh (stale_in old.cache pod) row) (due_in old.dues key)
  pub touched : (key : Key) → has_touched new key ≡ has_touched old key

-- what was last seen of a pod whose node isn't seen is what was before the tick
abbrev pub IsSightKept : Identity → ℕ → List Entry → Type 0
IsSightKept q k h = (pod : Key) → sight q pod h ≡ None → last_sight q pod h ≡ last_sight q pod (before_tick q k h)
