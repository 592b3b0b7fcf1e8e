-- What a cache answers. Before the term's first sync it answers nothing.
use Rattle.std.specs.Prelude.{◌≡◌, ℕ, Bool, true, false, List, Option, Some, None, Result, Ok, Err}
use Rattle.std.specs.Borrow.{Bor}
use Rattle.std.specs.List.Sorted.{IsStrictlySortedBy}
use Rattle.std.specs.Ordering.{nat_cmp}
use Rattle.kube_base.specs.declared.numbers.Version.{Version}
use Rattle.kube_objects.specs.declared.key.Key.{Key}
use Rattle.kube_objects.specs.Feeds.{is_among}
use Rattle.kube_objects.specs.Keys.{key_cmp}
use Rattle.watch_cache.specs.declared.faults.NotSynced.{NotSynced}
use Rattle.watch_cache.specs.declared.faults.ListFault.{ListFault}
use Rattle.watch_cache.specs.declared.faults.ListFault.TheVariants as list_fault
use Rattle.watch_cache.specs.Listed.{is_named}

-- what is found, where there was a sync
abbrev pub if_synced : {A : Type 0} → Bool → A → Result A NotSynced
if_synced false found = Err (record {})
if_synced true found = Ok found

abbrev pub found_pair : {A : Type 0} → Option (Version × Bor A) → Option (Version × A)
found_pair None = None
found_pair (Some x) = Some (x.0, x.1.now)

-- what a look-up found, without where it lies
abbrev pub found : {A : Type 0} → Result (Option (Version × Bor A)) NotSynced → Result (Option (Version × A)) NotSynced
found (Err fault) = Err fault
found (Ok x) = Ok (found_pair x)

-- the numbers that pass a test, each once and in order
pub record AreNamed (test : ℕ → Bool) (names : List ℕ) : Type 0 where
  pub ascend : IsStrictlySortedBy nat_cmp names
  pub named : (n : ℕ) → is_named names n ≡ test n

-- the keys that pass a test, each once and in order
pub record AreListed (test : Key → Bool) (keys : List Key) : Type 0 where
  pub ascend : IsStrictlySortedBy key_cmp keys
  pub listed : (key : Key) → is_among keys key ≡ test key

-- where there was a sync a list of which this holds, and else none; or memory ran out
abbrev pub Lists : {A : Type 0} → Bool → (A → Type 0) → Result A ListFault → Type 0
Lists synced holds (Ok list) = (synced ≡ true) × holds list
Lists synced holds (Err list_fault.NotSynced) = synced ≡ false
Lists synced holds (Err list_fault.NoMemory) = Unit {0}
