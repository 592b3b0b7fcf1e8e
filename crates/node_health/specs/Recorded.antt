-- What is kept of the nodes by the record, and what a look makes of it. Source: the node lifecycle controller of Kubernetes 1.20,
-- `tryUpdateNodeHealth`.
use Rattle.std.specs.Prelude.{ℕ, ◌&&◌, ◌||◌, not, Bool, true, false, cond, Option, Some, None, option_map}
use Rattle.kube_base.specs.declared.numbers.Wall.{Wall}
use Rattle.kube_objects.specs.declared.lease.Lease.{Lease}
use Rattle.kube_objects.specs.declared.node.Ready.{Ready}
use Rattle.kube_objects.specs.declared.rules.ProbeRule.{ProbeRule}
use Rattle.kube_objects.specs.declared.rules.ProbeRule.TheVariants as probes
use Rattle.kube_objects.specs.Health.{is_later_renewal, is_same_time, ready_heartbeat}
use Rattle.kube_objects.specs.Newest.{has}
use Rattle.node_health.specs.declared.known.Known.{Known}
use Rattle.node_health.specs.Kept.{after_look, at_reading, renewal_in}

-- ---- what is kept

-- the heartbeat of Ready as it was left, where it was there
abbrev pub left_in : Known → Option (Option Wall)
left_in known = cond known.has_ready (Some known.heartbeat) None

-- the renew time of the kept Lease, where one is kept
abbrev pub lease_in : Known → Option (Option Wall)
lease_in known = cond known.has_lease (Some known.renewal) None

abbrev pub kept_in : Option Known → Option (Option Wall)
kept_in None = None
kept_in (Some known) = lease_in known

-- ---- a look

abbrev pub renewed_of : Option Lease → Option Wall
renewed_of None = None
renewed_of (Some lease) = lease.renewed

-- Ready is there and wasn't, or was and isn't, or its heartbeat isn't what it was
abbrev pub is_changed : Option (Option Wall) → Option Ready → Bool
is_changed None None = false
is_changed None (Some r) = true
is_changed (Some was) None = true
is_changed (Some was) (Some r) = not (is_same_time was r.heartbeat)

abbrev pub is_counted : Option (Option Wall) → Option Lease → Bool
is_counted kept None = false
is_counted None (Some lease) = true
is_counted (Some kept) (Some lease) = is_later_renewal kept lease.renewed

-- whether a look renews the node: it is the first one, or Ready or its heartbeat changed
abbrev pub renews_in : Option Known → Option Ready → Bool
renews_in None ready = true
renews_in (Some known) ready = is_changed (left_in known) ready

abbrev pub lease_after : (counts renews : Bool) (kept seen : Option Wall) → Option Wall
lease_after counts renews kept seen = cond counts seen (cond renews None kept)

abbrev pub has_after : (counts renews had : Bool) → Bool
has_after counts renews had = counts || (had && not renews)

abbrev pub had_lease : Option Known → Bool
had_lease None = false
had_lease (Some known) = known.has_lease

abbrev pub recorded_at : Option Known → Bool → ℕ → ℕ
recorded_at None news now = now
recorded_at (Some known) news now = cond news now known.probe.0

abbrev pub after_record : Option Known → Option Ready → Option Lease → ℕ → Known
after_record x ready lease now = record {
  heartbeat = ready_heartbeat ready;
  renewal = lease_after (is_counted (kept_in x) lease) (renews_in x ready) (renewal_in x) (renewed_of lease);
  probe = record { 0 = recorded_at x (renews_in x ready || is_counted (kept_in x) lease) now };
  has_ready = has ready;
  has_lease = has_after (is_counted (kept_in x) lease) (renews_in x ready) (had_lease x);
}

-- an accepted mark leaves Ready, and the Lease that is seen
abbrev pub marked_known : Option Lease → Known → Known
marked_known lease known = record known { has_ready = true; has_lease = has lease; renewal = renewed_of lease }

-- ---- by the rule

abbrev pub after_seen : ProbeRule → Option Known → Option Ready → Option Lease → ℕ → Known
after_seen probes.Run x ready lease now = after_look x (ready_heartbeat ready) (renewed_of lease) now
after_seen probes.Record x ready lease now = after_record x ready lease now

abbrev pub after_mark : ProbeRule → Option Lease → Option Known → Option Known
after_mark probes.Run lease x = x
after_mark probes.Record lease x = option_map (marked_known lease) x

-- where the all-Full mode ends at a reading
abbrev pub after_mode : ProbeRule → (listed : Bool) → ℕ → Option Known → Option Known
after_mode probes.Run listed now x = option_map (at_reading now) x
after_mode probes.Record listed now x = cond listed (option_map (at_reading now) x) x

-- where nodes that aren't listed are forgotten
abbrev pub after_others : ProbeRule → (listed : Bool) → Option Known → Option Known
after_others probes.Run listed x = cond listed x None
after_others probes.Record listed x = x
