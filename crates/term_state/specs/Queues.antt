-- What comes next in a set of names, and which pod is due first.
use Rattle.std.specs.Prelude.{◌≡◌, ℕ, ◌<◌, ◌≤◌, Bool, true, false, List, Option, Some, None}
use Rattle.kube_objects.specs.declared.key.Key.{Key}
use Rattle.kube_objects.specs.declared.pod.Due.TheVariants.{At}
use Rattle.kube_objects.specs.Document.{Doc}
use Rattle.kube_objects.specs.Entry.{Entry, Identity}
use Rattle.evict_queue.specs.Order.{IsNotAfter}
use Rattle.tick_laws.specs.Judged.{term_due}

-- every name comes after none
abbrev pub ComesAfter : Option ℕ → ℕ → Type 0
ComesAfter None n = Unit {0}
ComesAfter (Some c) n = c < n

-- the least name after a place that passes a test; none where no such name does
abbrev pub IsNextAfter : (ℕ → Bool) → Option ℕ → Option ℕ → Type 0
IsNextAfter test after None = (m : ℕ) → ComesAfter after m → test m ≡ false
IsNextAfter test after (Some n) = ComesAfter after n × (test n ≡ true) × ((m : ℕ) → ComesAfter after m → m < n → test m ≡ false)

-- a pod is due by now, and no other one before it, nor at its time with a lesser key
pub record IsFirstDue (doc : Doc) (q : Identity) (h : List Entry) (now : ℕ) (pod : Key) : Type 0 where
  pub at : ℕ
  pub due : term_due doc q pod h ≡ At at
  pub by_now : at ≤ now
  pub first : (key : Key) (other : ℕ) → term_due doc q key h ≡ At other → IsNotAfter (at, pod) (other, key)
