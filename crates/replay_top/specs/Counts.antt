-- What is counted of the lines of a trace.
use Rattle.std.specs.Prelude.{ℕ, ◌≤◌, Bool, true, false, List, length}
use Rattle.std.specs.List.{filter}
use Rattle.kube_objects.specs.declared.call.Answer.TheVariants as answer
use Rattle.kube_objects.specs.declared.deed.Act.{Act}
use Rattle.kube_objects.specs.declared.deed.Act.TheVariants as act
use Rattle.kube_objects.specs.declared.deed.Deed.{Deed}
use Rattle.replay_top.specs.declared.counts.Counts.{Counts}

-- a controller begins to lead
abbrev pub is_lead : Act → Bool
is_lead (act.Lead version) = true
is_lead _ = false

-- a taint that the store took
abbrev pub is_taint : Act → Bool
is_taint (act.Tainted node key (answer.Done version)) = true
is_taint _ = false

-- an eviction that the store took
abbrev pub is_eviction : Act → Bool
is_eviction (act.Evicted pod due (answer.Done version)) = true
is_eviction _ = false

-- how many lines are of a kind
abbrev pub count_of : (Act → Bool) → List Deed → ℕ
count_of is_counted deeds = length (filter (λ deed. is_counted deed.act) deeds)

abbrev pub counts_of : List Deed → Counts
counts_of deeds = record { leads = count_of is_lead deeds; taints = count_of is_taint deeds; evictions = count_of is_eviction deeds }

-- no count is more than n
pub record AreAtMost (n : ℕ) (c : Counts) : Type 0 where
  pub leads : c.leads ≤ n
  pub taints : c.taints ≤ n
  pub evictions : c.evictions ≤ n
