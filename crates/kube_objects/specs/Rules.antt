-- The project's own rules, which hold where a document says nothing else. Source: profile.
use Rattle.std.specs.Prelude.{ℕ, List, [], ◌∷◌}
use Rattle.kube_objects.specs.declared.rules.Rules.{Rules}
use Rattle.kube_objects.specs.declared.rules.RetryRule.TheVariants as retries
use Rattle.kube_objects.specs.declared.rules.RespectRule.TheVariants as respects
use Rattle.kube_objects.specs.declared.rules.ProbeRule.TheVariants as probes
use Rattle.kube_objects.specs.declared.rules.JudgeRule.TheVariants as judges
use Rattle.kube_objects.specs.declared.rules.SightRule.TheVariants as sights
use Rattle.kube_objects.specs.declared.rules.QueueRule.TheVariants as queues
use Rattle.kube_objects.specs.declared.rules.BucketRule.TheVariants as buckets
use Rattle.kube_objects.specs.declared.rules.EvictRule.TheVariants as evictions
use Rattle.kube_objects.specs.declared.rules.ReleaseRule.TheVariants as releases
use Rattle.kube_objects.specs.declared.rules.ReleaseActing.TheVariants as acting

abbrev pub own_rules : Rules
own_rules = record {
  retries = retries.After;
  respect = respects.Record;
  first_sync_millis = 0;
  probe = probes.Run;
  judge = judges.Tick;
  first_sight = sights.Keep;
  queue = queues.Once;
  bucket = buckets.Empty;
  evict_from = evictions.Added;
  evict_burst = 0;
  evict_rate = 20_000;
  release = releases.Stop;
  in_release = acting.Still;
  ready_millis = 0;
  ready_burst = 0;
}

-- a controller's waits in thousandths of its retry period: after each failed attempt a whole one
abbrev pub own_waits : List ℕ
own_waits = 1000 ∷ []
