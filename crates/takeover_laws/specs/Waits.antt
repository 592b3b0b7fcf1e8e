-- How long a candidate waits between a failed attempt and the next one at most and at least, and for how long a record blocks it.
-- Source: client-go, package `leaderelection`, its JitterFactor and its record's duration; profile.
use Rattle.std.specs.Prelude.{◌≡◌, ◌≤◌, ℕ, ◌*◌, ◌/◌, min, max, List, [], ◌∷◌}
use Rattle.kube_objects.specs.declared.rules.RespectRule.{RespectRule}
use Rattle.kube_objects.specs.declared.rules.RespectRule.TheVariants.{Record, Own}
use Rattle.kube_objects.specs.Document.{Doc, lease_duration, retry_period, waits_of}
use Rattle.kube_objects.specs.Retries.{wait_after}
use Rattle.kube_objects.specs.Rules.{own_waits}

-- ---- waits, in thousandths of a retry period

abbrev pub greatest_from : ℕ → List ℕ → ℕ
greatest_from most [] = most
greatest_from most (w ∷ ws) = greatest_from (max w most) ws

abbrev pub least_from : ℕ → List ℕ → ℕ
least_from least [] = least
least_from least (w ∷ ws) = least_from (min w least) ws

-- where there are none, a candidate waits for a whole retry period
abbrev pub greatest_of : List ℕ → ℕ
greatest_of [] = 1000
greatest_of (w ∷ ws) = greatest_from w ws

abbrev pub least_of : List ℕ → ℕ
least_of [] = 1000
least_of (w ∷ ws) = least_from w ws

-- the longest wait of a controller that doesn't lead, and the shortest one
abbrev pub longest_wait : Doc → ℕ → ℕ
longest_wait doc p = retry_period doc p * greatest_of (waits_of doc p) / 1000

abbrev pub shortest_wait : Doc → ℕ → ℕ
shortest_wait doc p = retry_period doc p * least_of (waits_of doc p) / 1000

-- each wait lies between them
abbrev pub WaitsAreBetween : Type 0
WaitsAreBetween =
    (doc : Doc) (p failures : ℕ)
    → (shortest_wait doc p ≤ wait_after (retry_period doc p) (waits_of doc p) failures)
    × (wait_after (retry_period doc p) (waits_of doc p) failures ≤ longest_wait doc p)

-- both are the retry period where the document says no waits
abbrev pub OwnWaitsAreWhole : Type 0
OwnWaitsAreWhole = (doc : Doc) (p : ℕ) → waits_of doc p ≡ own_waits → (longest_wait doc p ≡ retry_period doc p) × (shortest_wait doc p ≡ retry_period doc p)

-- ---- for how long a record blocks

-- a record of process q blocks process p for q's lease duration, or, where each goes by its own, for p's
abbrev pub blocked_under : RespectRule → Doc → (p q : ℕ) → ℕ
blocked_under Record doc p q = lease_duration doc q
blocked_under Own doc p q = lease_duration doc p

abbrev pub blocked_for : Doc → (p q : ℕ) → ℕ
blocked_for doc p q = blocked_under doc.settings.rules.respect doc p q
