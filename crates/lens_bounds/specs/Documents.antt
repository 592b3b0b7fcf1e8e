-- What a document's processes and events let messages and clocks do. Source: profile.
use Rattle.std.specs.Prelude.{ℕ, ◌*◌, ◌==◌, ◌&&◌, min, max, nat_lt, not, Bool, true, false, List, [], ◌∷◌, length}
use Rattle.kube_objects.specs.declared.rules.BucketRule.{BucketRule}
use Rattle.kube_objects.specs.declared.rules.BucketRule.TheVariants as buckets
use Rattle.kube_objects.specs.declared.rules.EvictRule.{EvictRule}
use Rattle.kube_objects.specs.declared.rules.EvictRule.TheVariants.{Added, Seen}
use Rattle.kube_objects.specs.declared.rules.JudgeRule.{JudgeRule}
use Rattle.kube_objects.specs.declared.rules.JudgeRule.TheVariants as judges
use Rattle.kube_objects.specs.declared.rules.ProbeRule.{ProbeRule}
use Rattle.kube_objects.specs.declared.rules.ProbeRule.TheVariants as probes
use Rattle.kube_objects.specs.declared.rules.ReleaseActing.{ReleaseActing}
use Rattle.kube_objects.specs.declared.rules.ReleaseActing.TheVariants as acting
use Rattle.kube_objects.specs.declared.rules.ReleaseRule.{ReleaseRule}
use Rattle.kube_objects.specs.declared.rules.ReleaseRule.TheVariants as releases
use Rattle.kube_objects.specs.declared.rules.SightRule.{SightRule}
use Rattle.kube_objects.specs.declared.rules.SightRule.TheVariants as sights
use Rattle.kube_objects.specs.declared.script.Event.{Event}
use Rattle.kube_objects.specs.declared.script.Proc.{Proc}
use Rattle.kube_objects.specs.declared.script.What.{What}
use Rattle.kube_objects.specs.declared.script.What.TheVariants.{Rate, Delay, Loss, Crash, Start, Stop, Watch, Ready, Pause, Stall, Put, Remove}
use Rattle.kube_objects.specs.Document.{Doc, beat_micros}
use Rattle.takeover_laws.specs.Waits.{least_from, greatest_from}
use Rattle.lens_bounds.specs.declared.calm.Calm.{Calm}
use Rattle.lens_bounds.specs.declared.calm.Waits.{Waits}
use Rattle.lens_bounds.specs.declared.calm.Waits.TheVariants.{Between}
use Rattle.lens_bounds.specs.declared.outages.Outage.{Outage}
use Rattle.lens_bounds.specs.declared.reach.Reach.{Reach}

-- one way takes a beat where no event says else
abbrev pub nothing : Reach
nothing = record { far = 1; least = 4294967295; greatest = 0 }

abbrev pub with_rate : ℕ → Reach → Reach
with_rate ppm r = record { far = r.far; least = min ppm r.least; greatest = max ppm r.greatest }

abbrev pub with_delay : ℕ → ℕ → Reach → Reach
with_delay requests replies r = record { far = max requests (max replies r.far); least = r.least; greatest = r.greatest }

abbrev pub with_processes : List Proc → Reach → Reach
with_processes [] r = r
with_processes (p ∷ ps) r = with_processes ps (with_rate p.rate_ppm r)

-- whether a process is one of so many controllers, or a kubelet
abbrev pub is_meant : ℕ → Bool → ℕ → Bool
is_meant count true p = nat_lt p count
is_meant count false p = not (nat_lt p count)

abbrev pub rate_if : Bool → ℕ → Reach → Reach
rate_if true ppm r = with_rate ppm r
rate_if false ppm r = r

abbrev pub delay_if : Bool → ℕ → ℕ → Reach → Reach
delay_if true requests replies r = with_delay requests replies r
delay_if false requests replies r = r

abbrev pub with_event : ℕ → Bool → What → Reach → Reach
with_event count controllers (Rate id ppm) r = rate_if (is_meant count controllers id.0) ppm r
with_event count controllers (Delay id requests replies) r = delay_if (is_meant count controllers id.0) requests replies r
with_event count controllers (Loss id requests replies) r = r
with_event count controllers (Crash id) r = r
with_event count controllers (Start id) r = r
with_event count controllers (Stop id) r = r
with_event count controllers (Watch id on) r = r
with_event count controllers (Ready id status) r = r
with_event count controllers (Pause id beats) r = r
with_event count controllers (Stall beats) r = r
with_event count controllers (Put key object) r = r
with_event count controllers (Remove key) r = r

abbrev pub with_events : ℕ → Bool → List Event → Reach → Reach
with_events count controllers [] r = r
with_events count controllers (e ∷ es) r = with_events count controllers es (with_event count controllers e.what r)

abbrev pub processes_of : Doc → Bool → List Proc
processes_of doc true = doc.controllers
processes_of doc false = doc.kubelets

-- the greatest delay, and the least and greatest rate, that the document sets for its controllers, or for its kubelets
unfoldable pub reach_of : Doc → Bool → Reach
reach_of doc controllers = with_events (length doc.controllers) controllers doc.events (with_processes (processes_of doc controllers) nothing)

-- the least and the greatest wait that the document says of a controller, in thousandths of its retry period
abbrev pub least_in : ℕ → List (List ℕ) → ℕ
least_in least [] = least
least_in least (ws ∷ more) = least_in (least_from least ws) more

abbrev pub greatest_in : ℕ → List (List ℕ) → ℕ
greatest_in most [] = most
greatest_in most (ws ∷ more) = greatest_in (greatest_from most ws) more

-- they lie between 1 and 2.2 retry periods
abbrev pub waits_in : List (List ℕ) → Waits
waits_in lists = Between (least_in 2200 lists) (greatest_in 1000 lists)

abbrev pub is_stop : ReleaseRule → Bool
is_stop releases.Stop = true
is_stop releases.Own = false
is_stop releases.Checked = false
is_stop releases.Reread = false

abbrev pub is_still : ReleaseActing → Bool
is_still acting.Still = true
is_still acting.Acts = false

-- calm spans with these delays and clocks
abbrev pub calm_with : Doc → Reach → Calm
calm_with doc r = record {
  beat_millis = doc.settings.beat_millis;
  near = 1;
  far = r.far;
  slow = beat_micros doc * r.least;
  fast = beat_micros doc * r.greatest;
  waits = waits_in doc.waits;
  respect = doc.settings.rules.respect;
  fast_renew = doc.settings.fast_renew;
  releases_by_stop = is_stop doc.settings.rules.release && is_still doc.settings.rules.in_release;
}

abbrev pub calm_of : Doc → Calm
calm_of doc = calm_with doc (reach_of doc true)

abbrev pub with_far : ℕ → Reach → Reach
with_far far r = record { far = max far r.far; least = r.least; greatest = r.greatest }

abbrev pub is_added : EvictRule → Bool
is_added Added = true
is_added Seen = false

abbrev pub is_run : ProbeRule → Bool
is_run probes.Run = true
is_run probes.Record = false

abbrev pub is_tick : JudgeRule → Bool
is_tick judges.Tick = true
is_tick judges.Pass = false

abbrev pub is_keep : SightRule → Bool
is_keep sights.Keep = true
is_keep sights.Strip = false

abbrev pub is_empty : BucketRule → Bool
is_empty buckets.Empty = true
is_empty buckets.Full = false

-- for nodes the delays of kubelets count too
abbrev pub outage_with : Doc → Reach → Reach → Outage
outage_with doc own posts = record {
  calm = calm_with doc (with_far posts.far own);
  kubelets = nat_lt 0 (length doc.kubelets);
  passes_take_no_work = doc.settings.rules.ready_millis == 0;
  probes_by_run = is_run doc.settings.rules.probe;
  judges_by_own = is_tick doc.settings.rules.judge && is_keep doc.settings.rules.first_sight;
  starts_empty = is_empty doc.settings.rules.bucket;
  evicts_by_own = is_added doc.settings.rules.evict_from && doc.settings.rules.evict_burst == 0;
  posts_slow = beat_micros doc * posts.least;
  posts_fast = beat_micros doc * posts.greatest;
  timeout_millis = doc.settings.call_timeout_millis;
  monitor_millis = doc.settings.monitor_period_millis;
  grace_millis = doc.settings.grace_period_millis;
  node_lease_seconds = doc.settings.node_lease_duration_seconds;
  rate = doc.settings.primary_rate;
  ahead = 0;
}

abbrev pub outage_of : Doc → Outage
outage_of doc = outage_with doc (reach_of doc true) (reach_of doc false)
