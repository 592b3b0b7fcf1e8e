-- From a kubelet's death to the end of its node's pods, at least and at most, in beats: the formulas of the laws on outages. Source: profile.
use Rattle.std.specs.Int.{div_ceil}
use Rattle.std.specs.Prelude.{ℕ, zero, suc, ◌+◌, ◌-◌, ◌*◌, ◌/◌, ◌==◌, ◌&&◌, ◌≤◌, not, nat_le, max, Bool, true, false, Option, Some, None}
use Rattle.kube_objects.specs.Document.{of_seconds, of_millis}
use Rattle.kube_objects.specs.Tokens.{token_size}
use Rattle.span_laws.specs.Quotients.{most_beats, least_beats}
use Rattle.lens_bounds.specs.declared.outages.Marked.{Marked}
use Rattle.lens_bounds.specs.declared.outages.Outage.{Outage}
use Rattle.lens_bounds.specs.declared.outages.Since.{Since}
use Rattle.lens_bounds.specs.declared.outages.Tainted.{Tainted}
use Rattle.lens_bounds.specs.Elections.{IsCalm, enough, needed}

pub record IsOutage (o : Outage) : Type 0 where
  pub calm : IsCalm o.calm
  pub posts : 1000 ≤ o.posts_slow
  pub monitor : 1 ≤ o.monitor_millis

-- ---- marks

-- from one pass to the next, at least and at most
abbrev pub near_period : Outage → ℕ
near_period o = needed o.calm (of_millis o.monitor_millis)

abbrev pub far_period : Outage → ℕ
far_period o = enough o.calm (of_millis o.monitor_millis)

-- from the last pass that hears of the node to the one that finds more than the grace period over
abbrev pub mark_most : Outage → ℕ
mark_most o = most_beats (near_period o) (far_period o) (suc (of_millis o.grace_millis / o.calm.slow))

abbrev pub mark_least : Outage → ℕ
mark_least o = least_beats (near_period o) (far_period o) (of_millis o.grace_millis / o.calm.fast + 1)

-- so long before a kubelet's death its last write may have arrived, but for five ways
abbrev pub silent : Outage → ℕ
silent o = 4 * o.calm.far + max (div_ceil (of_seconds o.node_lease_seconds / 4) o.posts_slow) (6 * o.calm.far)

abbrev pub unknown_most : Outage → ℕ
unknown_most o = o.calm.far + far_period o + mark_most o - 2

-- less silent
abbrev pub unknown_least : Outage → ℕ
unknown_least o = 5 * o.calm.near + mark_least o

-- ---- taints

-- a token's interval
abbrev pub interval : Outage → ℕ
interval o = div_ceil token_size o.rate

-- what comes of so many intervals on a clock that goes so far in a beat
abbrev pub tokens : ℕ → ℕ → ℕ → ℕ
tokens count time speed = count * div_ceil time speed

-- less silent
abbrev pub tainted_least : Outage → ℕ
tainted_least o = unknown_least o + tokens o.ahead (interval o) o.calm.fast

abbrev pub tainted_most : Outage → ℕ
tainted_most o = unknown_most o + tokens (o.ahead + 1) (interval o) o.calm.slow

-- where the zone's token is there as the node is marked
abbrev pub tainted_soon : Outage → ℕ
tainted_soon o = unknown_most o + tokens o.ahead (interval o) o.calm.slow

-- ---- evictions, by the seconds of a toleration

abbrev pub evict_least : Outage → ℕ → ℕ
evict_least o zero = 0
evict_least o (suc seconds) = of_seconds seconds / o.calm.fast + 1

abbrev pub evict_most : Outage → ℕ → ℕ
evict_most o seconds = enough o.calm (of_seconds seconds)

-- ---- in milliseconds

-- the kubelets' replies come within their call timeout
abbrev pub posts : Outage → Bool
posts o = nat_le (2 * o.calm.far * o.posts_fast) (of_millis o.timeout_millis)

abbrev pub since_death : Outage → ℕ → Since
since_death o beats = record { added = beats * o.calm.beat_millis; taken = silent o * o.calm.beat_millis }

abbrev pub marked_if : Outage → Bool → Option Marked
marked_if o true = Some (record { least = since_death o (unknown_least o); most = unknown_most o * o.calm.beat_millis })
marked_if o false = None

-- and passes take no time, nodes are silent by the run, and leaders give up their Leases at stops alone
abbrev pub marks : Outage → Bool
marks o = (((o.kubelets && posts o) && o.passes_take_no_work) && o.probes_by_run) && o.calm.releases_by_stop

-- from the death of a node's kubelet until the node is marked Unknown
unfoldable pub until_unknown : Outage → Option Marked
until_unknown o = marked_if o (marks o)

abbrev pub tainted_after : Outage → ℕ → ℕ → Tainted
tainted_after o least most = record {
  least = since_death o (tainted_least o + least);
  most = (tainted_most o + most) * o.calm.beat_millis;
  with_token = (tainted_soon o + most) * o.calm.beat_millis;
}

abbrev pub tainted_if : Outage → Bool → ℕ → ℕ → Option Tainted
tainted_if o true least most = Some (tainted_after o least most)
tainted_if o false least most = None

-- until it is tainted, where nodes are judged at each tick and buckets start empty
abbrev pub taints : Outage → Bool
taints o = ((marks o && o.judges_by_own) && o.starts_empty) && not (o.rate == 0)

unfoldable pub until_tainted : Outage → Option Tainted
until_tainted o = tainted_if o (taints o) 0 0

abbrev pub gone_if : Outage → Bool → ℕ → Option Tainted
gone_if o true seconds = tainted_if o (taints o) (evict_least o seconds) (evict_most o seconds)
gone_if o false seconds = None

-- and until its pods are gone that tolerate the taint for so many seconds
unfoldable pub until_gone : Outage → ℕ → Option Tainted
until_gone o seconds = gone_if o o.evicts_by_own seconds
