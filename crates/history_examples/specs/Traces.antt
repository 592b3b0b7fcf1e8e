-- What the worked examples of rules are made of: the clusters of the other examples, with some rules set.
use Rattle.std.specs.Prelude.{◌≡◌, ℕ, ◌+◌, ◌*◌, Bool, false, List}
use Rattle.kube_base.specs.declared.numbers.Wall.{Wall}
use Rattle.kube_objects.specs.declared.deed.Deed.{Deed}
use Rattle.kube_objects.specs.declared.rules.Rules.{Rules}
use Rattle.kube_objects.specs.declared.rules.RetryRule.TheVariants as retries
use Rattle.kube_objects.specs.declared.rules.RespectRule.TheVariants as respects
use Rattle.kube_objects.specs.declared.rules.ProbeRule.TheVariants as probes
use Rattle.kube_objects.specs.declared.rules.JudgeRule.TheVariants as judges
use Rattle.kube_objects.specs.declared.rules.SightRule.TheVariants as sights
use Rattle.kube_objects.specs.declared.rules.QueueRule.TheVariants as queues
use Rattle.kube_objects.specs.declared.rules.BucketRule.TheVariants as buckets
use Rattle.kube_objects.specs.declared.rules.EvictRule.TheVariants as evictions
use Rattle.kube_objects.specs.declared.script.Proc.{Proc}
use Rattle.kube_objects.specs.declared.script.What.{What}
use Rattle.kube_objects.specs.declared.script.What.TheVariants as what
use Rattle.kube_objects.specs.declared.settings.Settings.{Settings}
use Rattle.kube_objects.specs.Document.{Doc}
use Rattle.kube_objects.specs.Rules.{own_rules}
use Rattle.history.specs.History.{whole_history}
use Rattle.history.specs.Premise.{lease_premise}
use Rattle.history.specs.Printed.{printed}
use Rattle.history_examples.specs.Documents.{controller}

-- ---- rules

-- those of Kubernetes 1.20
abbrev pub upstream_rules : Rules
upstream_rules = record own_rules {
  retries = retries.Grid;
  respect = respects.Own;
  first_sync_millis = 700;
  probe = probes.Record;
  judge = judges.Pass;
  first_sight = sights.Strip;
  queue = queues.Again;
  bucket = buckets.Full;
  evict_from = evictions.Seen;
  evict_burst = 30;
  evict_rate = 20000;
  ready_millis = 100;
  ready_burst = 15;
}

abbrev pub ruled : Rules → Settings → Settings
ruled rules set = record set { rules = rules }

-- ---- processes

-- 14 is the number of c3
abbrev pub c3 : Proc
c3 = controller 14

abbrev pub down : Proc → Proc
down proc = record proc { up = false }

abbrev pub leased : ℕ → Proc → Proc
leased seconds proc = record proc { lease_seconds = seconds }

abbrev pub retrying : ℕ → Proc → Proc
retrying millis proc = record proc { retry_millis = millis }

abbrev pub timed : ℕ → Proc → Proc
timed millis proc = record proc { timeout_millis = millis }

-- with a lease of a day one controller renews once a minute
abbrev pub daily : Proc → Proc
daily proc = record proc { lease_seconds = 86400; renew_millis = 86399000; retry_millis = 60000 }

-- ---- events, times and lines

abbrev pub stall : ℕ → What
stall beats = what.Stall beats

-- so many tenths of a second after the epoch
abbrev pub tenth : ℕ → Wall
tenth n = record { 0 = 1704067200000000 + n * 100000 }

-- ---- the trace of a document, and whether its lease premise holds
abbrev pub HasTrace : Doc → Bool → List Deed → Type 0
HasTrace doc premise lines = (lease_premise doc ≡ premise) × (printed (whole_history doc) ≡ lines)
