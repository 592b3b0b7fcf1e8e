-- For how many seconds others wait for a controller's lease. Source: client-go, package `leaderelection`; profile.
use Rattle.std.specs.Prelude.{◌≡◌, ℕ, zero, suc, ◌-◌, length}
use Rattle.kube_objects.specs.declared.rules.RespectRule.{RespectRule}
use Rattle.kube_objects.specs.declared.rules.RespectRule.TheVariants as respects
use Rattle.kube_objects.specs.declared.script.Proc.{Proc}
use Rattle.kube_objects.specs.Document.{Doc, lease_seconds, call_timeout, retry_period, renew_deadline, of_millis}
use Rattle.history.specs.Premise.{less, longest}

-- the least of the controllers' lease durations up to p
abbrev pub least_up_to : Doc → ℕ → ℕ
least_up_to doc zero = lease_seconds doc 0
least_up_to doc (suc p) = less (least_up_to doc p) (lease_seconds doc (suc p))

-- a controller's own, or, where each goes by its own, at least the least of all
abbrev pub waited_seconds : RespectRule → Doc → ℕ → ℕ
waited_seconds respects.Record doc p = lease_seconds doc p
waited_seconds respects.Own doc p = least_up_to doc (length doc.controllers - 1)

-- these are the times of a process
pub record IsProcess (doc : Doc) (p : ℕ) (x : Proc) : Type 0 where
  pub timeout : call_timeout doc p ≡ of_millis x.timeout_millis
  pub retry : retry_period doc p ≡ of_millis x.retry_millis
  pub renew : renew_deadline doc p ≡ of_millis x.renew_millis

-- the beats of pauses that count beside a further one, longer than all
abbrev pub beside_by : (calls : ℕ) → Doc → ℕ → ℕ
beside_by zero doc p = 0
beside_by (suc calls) doc p = longest doc p
