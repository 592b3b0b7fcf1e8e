-- The store stands for a history.
use Rattle.std.specs.Prelude.{◌≡◌, ℕ, ◌+◌, cond, List, [], ◌∷◌, ◌++◌, Option, Some, None, vec_len, drop}
use Rattle.key_map.specs.Values.{value_at}
use Rattle.kube_base.specs.declared.numbers.Version.{Version}
use Rattle.kube_objects.specs.declared.key.Key.{Key}
use Rattle.kube_objects.specs.declared.object.Object.{Object}
use Rattle.kube_objects.specs.declared.node.Node.{Node}
use Rattle.kube_objects.specs.Answers.{node_in}
use Rattle.kube_objects.specs.Entry.{Entry}
use Rattle.kube_objects.specs.Keys.{key_eq}
use Rattle.kube_objects.specs.Stored.{stored, writes}
use Rattle.object_store.specs.declared.since.Since.{Since}
use Rattle.object_store.specs.declared.store.Store.{Store}
use Rattle.object_store.specs.StoreAnswers.{changed_keys, kept_of}

-- one clause for each field
pub record StoreStands (h : List Entry) (s : Store) : Type 0 where
  pub objects : (key : Key) → value_at s.objects key ≡ kept_of (stored key h)
  pub changes : s.changes.items ≡ changed_keys h
  pub count : vec_len s.changes ≡ writes h

-- what a write leaves at its key
abbrev pub kept_as : ℕ → Option Object → Option (Version × Object)
kept_as n None = None
kept_as n (Some object) = Some (record { 0 = n }, object)

-- the map and the list after one write
pub record Writes (old new : Store) (key : Key) (content : Option Object) : Type 0 where
  pub objects : (q : Key) → value_at new.objects q
      ≡ cond (key_eq key q) (kept_as (vec_len old.changes + 1) content) (value_at old.objects q)
  pub changes : new.changes.items ≡ old.changes.items ++ key ∷ []
  pub count : vec_len new.changes ≡ vec_len old.changes + 1

-- what callers see is as before
pub record SameStore (old new : Store) : Type 0 where
  pub objects : (q : Key) → value_at new.objects q ≡ value_at old.objects q
  pub changes : new.changes.items ≡ old.changes.items
  pub count : vec_len new.changes ≡ vec_len old.changes

-- ---- what a look-up finds

abbrev pub version_in : Option (Version × Object) → Option Version
version_in None = None
version_in (Some p) = Some p.0

abbrev pub node_in_pair : Option (Version × Object) → Option Node
node_in_pair None = None
node_in_pair (Some p) = node_in p.1

abbrev pub object_in_pair : Option (Version × Object) → Option Object
object_in_pair None = None
object_in_pair (Some p) = Some p.1

-- ---- as a feed

abbrev pub changed_in : Store → List Key
changed_in s = s.changes.items

abbrev pub shown_in : Store → Key → Option (Version × Object)
shown_in s key = value_at s.objects key

abbrev pub start_since : Since → ℕ
start_since s = s.position

abbrev pub changed_since : Since → List Key
changed_since s = changed_in s.store.now

abbrev pub keys_since : Since → List Key
keys_since s = drop s.position (changed_since s)

abbrev pub shown_since : Since → Key → Option (Version × Object)
shown_since s = shown_in s.store.now
