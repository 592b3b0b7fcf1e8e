-- For how long a record blocks. Source: client-go, package `leaderelection`; of 1.20 its own lease duration; profile.
use Rattle.std.specs.Prelude.{ℕ}
use Rattle.kube_objects.specs.declared.lease.Lease.{Lease}
use Rattle.kube_objects.specs.Document.{Doc, of_seconds, lease_seconds}
use Rattle.kube_objects.specs.Elector.{respected}
use Rattle.kube_objects.specs.Newest.{or_zero}

-- a process takes a record for valid for so long: for the record's duration, or, where each goes by its own, for its own lease duration
abbrev pub respected_time : Doc → ℕ → Lease → ℕ
respected_time doc p lease = of_seconds (or_zero (respected doc.settings.rules.respect (lease_seconds doc p) lease).duration)
