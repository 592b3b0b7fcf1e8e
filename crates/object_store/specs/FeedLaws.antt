-- What a store shows, by what it keeps.
use Rattle.std.specs.Prelude.{◌≡◌, ℕ, ◌+◌, ◌≤◌, true, List, length, drop, Some}
use Rattle.std.proofs.Common.{ap, ◌∙◌}
use Rattle.std.proofs.lemmas.List.{length-drop}
use Rattle.std.proofs.Math.Nat.{add-sub_of_le}
use Rattle.kube_base.specs.declared.numbers.Version.{Version}
use Rattle.kube_objects.specs.declared.key.Key.{Key}
use Rattle.kube_objects.specs.declared.object.Object.{Object}
use Rattle.kube_objects.specs.Feeds.{is_among}
use Rattle.kube_objects.specs.Kinds.{IsOfKind}
use Rattle.kube_objects.specs.Newest.{has}
use Rattle.object_store.specs.declared.since.Since.{Since}
use Rattle.object_store.specs.declared.store.Store.{Store}
use Rattle.object_store.specs.Stands.{changed_in, shown_in, changed_since, keys_since, shown_since, start_since}

pub listed_in : (store : Store) (key : Key) → has (shown_in store key) ≡ true → is_among (changed_in store) key ≡ true
listed_in store = store.among

pub kinds_in : (store : Store) (key : Key) (version : Version) (object : Object) → shown_in store key ≡ Some (version, object)
    → IsOfKind key object
kinds_in store = store.kinds

pub listed_since : (since : Since) (key : Key) → has (shown_since since key) ≡ true → is_among (changed_since since) key ≡ true
listed_since since = since.store.now.among

pub kinds_since : (since : Since) (key : Key) (version : Version) (object : Object) → shown_since since key ≡ Some (version, object)
    → IsOfKind key object
kinds_since since = since.store.now.kinds

total : {A : Type 0} (position : ℕ) (changes : List A) → position ≤ length changes
    → position + length (drop position changes) ≡ length changes
total position changes within = ap (λ n. position + n) (length-drop position changes) ∙ add-sub_of_le within

pub total_since : (since : Since) → start_since since + length (keys_since since) ≡ length (changed_since since)
total_since since = total since.position (changed_since since) since.within
