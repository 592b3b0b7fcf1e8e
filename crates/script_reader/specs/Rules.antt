-- The rules of a document: those of its preset, and what it says otherwise. Source: the node lifecycle controller of Kubernetes and
-- client-go, package `leaderelection`, as measured in docs/upstream.md; profile.
use Rattle.std.specs.Prelude.{ℕ, ◌&&◌, Bool, true, false, List, codes, Result, Ok}
use Rattle.serde_json.specs.Data.{Data}
use Rattle.kube_objects.specs.declared.rules.BucketRule.TheVariants as bucket_words
use Rattle.kube_objects.specs.declared.rules.EvictRule.TheVariants as evict_from_words
use Rattle.kube_objects.specs.declared.rules.JudgeRule.{JudgeRule}
use Rattle.kube_objects.specs.declared.rules.JudgeRule.TheVariants as judge_words
use Rattle.kube_objects.specs.declared.rules.ProbeRule.TheVariants as probe_words
use Rattle.kube_objects.specs.declared.rules.QueueRule.{QueueRule}
use Rattle.kube_objects.specs.declared.rules.QueueRule.TheVariants as queue_words
use Rattle.kube_objects.specs.declared.rules.ReleaseActing.{ReleaseActing}
use Rattle.kube_objects.specs.declared.rules.ReleaseActing.TheVariants as in_release_words
use Rattle.kube_objects.specs.declared.rules.ReleaseRule.{ReleaseRule}
use Rattle.kube_objects.specs.declared.rules.ReleaseRule.TheVariants as release_words
use Rattle.kube_objects.specs.declared.rules.RespectRule.TheVariants as respect_words
use Rattle.kube_objects.specs.declared.rules.RetryRule.TheVariants as retries_words
use Rattle.kube_objects.specs.declared.rules.SightRule.TheVariants as first_sight_words
use Rattle.kube_objects.specs.declared.rules.Rules.{Rules}
use Rattle.kube_objects.specs.Rules.{own_rules}
use Rattle.manifest_json.specs.declared.fault.Refusal.{Refusal}
use Rattle.manifest_json.specs.Faults.{◌>>=◌}
use Rattle.script_reader.specs.declared.choice.Preset.{Preset}
use Rattle.script_reader.specs.declared.choice.Preset.TheVariants as preset_words
use Rattle.script_reader.specs.Choices.{choice_at, retries_of, respect_of, probe_of, judge_of, first_sight_of, queue_of, bucket_of}
use Rattle.script_reader.specs.Choices.{evict_from_of, release_of, in_release_of}
use Rattle.script_reader.specs.Fields.{whole_at}

abbrev pub upstream_120 : Rules
upstream_120 = record {
  retries = retries_words.Grid;
  respect = respect_words.Own;
  first_sync_millis = 700;
  probe = probe_words.Record;
  judge = judge_words.Pass;
  first_sight = first_sight_words.Strip;
  queue = queue_words.Again;
  bucket = bucket_words.Full;
  evict_from = evict_from_words.Seen;
  evict_burst = 30;
  evict_rate = 20_000;
  release = release_words.Stop;
  in_release = in_release_words.Still;
  ready_millis = 100;
  ready_burst = 15;
}

-- those of 1.20 but for six
abbrev pub upstream_136 : Rules
upstream_136 = record upstream_120 {
  retries = retries_words.Ticks;
  respect = respect_words.Record;
  evict_burst = 15;
  evict_rate = 10_000;
  release = release_words.Reread;
  in_release = in_release_words.Acts;
}

abbrev pub rules_of : Preset → Rules
rules_of preset_words.Own = own_rules
rules_of preset_words.Upstream120 = upstream_120
rules_of preset_words.Upstream136 = upstream_136

-- how a lease is taken, and how nodes are judged
unfoldable pub judging_at : Rules → List ℕ → Data → Result Rules Refusal
judging_at r path d = do
  retries ← choice_at retries_of r.retries path (codes "retries") d
  respect ← choice_at respect_of r.respect path (codes "respect") d
  wait ← whole_at r.first_sync_millis 0 604_800_000 path (codes "firstSyncMillis") d
  probe ← choice_at probe_of r.probe path (codes "probe") d
  judge ← choice_at judge_of r.judge path (codes "judge") d
  sight ← choice_at first_sight_of r.first_sight path (codes "firstSight") d
  Ok (record r { retries = retries; respect = respect; first_sync_millis = wait; probe = probe; judge = judge; first_sight = sight })

-- how nodes are tainted and pods evicted
unfoldable pub tainting_at : Rules → List ℕ → Data → Result Rules Refusal
tainting_at r path d = do
  queue ← choice_at queue_of r.queue path (codes "queue") d
  bucket ← choice_at bucket_of r.bucket path (codes "bucket") d
  from ← choice_at evict_from_of r.evict_from path (codes "evictFrom") d
  burst ← whole_at r.evict_burst 0 30_000 path (codes "evictBurst") d
  rate ← whole_at r.evict_rate 0 1_000_000_000 path (codes "evictRate") d
  Ok (record r { queue = queue; bucket = bucket; evict_from = from; evict_burst = burst; evict_rate = rate })

-- how a term ends, and what the marks of a pass cost
unfoldable pub ending_at : Rules → List ℕ → Data → Result Rules Refusal
ending_at r path d = do
  release ← choice_at release_of r.release path (codes "release") d
  acting ← choice_at in_release_of r.in_release path (codes "inRelease") d
  millis ← whole_at r.ready_millis 0 60_000 path (codes "readyMillis") d
  burst ← whole_at r.ready_burst 0 30_000 path (codes "readyBurst") d
  Ok (record r { release = release; in_release = acting; ready_millis = millis; ready_burst = burst })

unfoldable pub rules_at : Preset → List ℕ → Data → Result Rules Refusal
rules_at preset path d = do
  judging ← judging_at (rules_of preset) path d
  tainting ← tainting_at judging path d
  ending_at tainting path d

-- a queue that holds a node again and again is filled at passes alone
abbrev pub is_filled_at_passes : QueueRule → JudgeRule → Bool
is_filled_at_passes queue_words.Again judge_words.Tick = false
is_filled_at_passes _ _ = true

-- who acts in a release has one
abbrev pub has_release : ReleaseActing → ReleaseRule → Bool
has_release in_release_words.Acts release_words.Stop = false
has_release _ _ = true

abbrev pub agree : Rules → Bool
agree r = is_filled_at_passes r.queue r.judge && has_release r.in_release r.release
