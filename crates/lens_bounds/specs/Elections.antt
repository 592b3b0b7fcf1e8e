-- How long nobody leads, at least and at most, in beats: the bounds of the laws on calm spans, in their own words. Source: profile.
use Rattle.std.specs.Int.{div_ceil}
use Rattle.std.specs.List.{list_all}
use Rattle.std.specs.Prelude.{ℕ, ◌+◌, ◌-◌, ◌*◌, ◌/◌, ◌==◌, ◌&&◌, ◌≤◌, nat_le, nat_lt, min, max, Bool, true, false, List, [], ◌∷◌, Option, Some, None}
use Rattle.kube_objects.specs.declared.rules.RespectRule.{RespectRule}
use Rattle.kube_objects.specs.declared.rules.RespectRule.TheVariants.{Record, Own}
use Rattle.kube_objects.specs.declared.script.Proc.{Proc}
use Rattle.kube_objects.specs.Document.{of_seconds, of_millis}
use Rattle.span_laws.specs.Quotients.{most_beats}
use Rattle.calm_laws.specs.Bounds.{takeover_beats}
use Rattle.settle_laws.specs.Settles.{settle_beats}
use Rattle.silence_laws.specs.Least.{renewal_ways, takes_beats}
use Rattle.succession_laws.specs.Successions.{ways_after, succession_beats}
use Rattle.release_laws.specs.Releases.{release_beats}
use Rattle.lens_bounds.specs.declared.calm.Calm.{Calm}
use Rattle.lens_bounds.specs.declared.calm.Waits.{Waits}
use Rattle.lens_bounds.specs.declared.calm.Waits.TheVariants.{UpTo, Between}
use Rattle.lens_bounds.specs.declared.elections.Election.{Election}
use Rattle.lens_bounds.specs.declared.elections.Handover.{Handover}
use Rattle.lens_bounds.specs.declared.elections.Span.{Span}

-- a wait in thousandths is at most 2.2 retry periods
abbrev pub AreShort : Waits → Type 0
AreShort (UpTo millis) = Unit {0}
AreShort (Between least most) = (least ≤ 2200) × (most ≤ 2200)

-- a message takes a beat or more, and a clock goes on in each
pub record IsCalm (c : Calm) : Type 0 where
  pub near : 1 ≤ c.near
  pub far : 1 ≤ c.far
  pub slow : 1000 ≤ c.slow
  pub fast : 1000 ≤ c.fast
  pub beat : c.beat_millis ≤ 1000
  pub waits : AreShort c.waits

-- so many beats are enough for a time on the slowest clock
abbrev pub enough : Calm → ℕ → ℕ
enough c time = div_ceil time c.slow

-- and so many are needed on the fastest
abbrev pub needed : Calm → ℕ → ℕ
needed c time = div_ceil time c.fast

-- ---- timings. A candidate waits between two attempts for so many thousandths of its retry period, or from that up to the longest wait that is given

abbrev pub share : (retry_millis thousandths : ℕ) → ℕ
share retry_millis thousandths = of_millis retry_millis * thousandths / 1000

abbrev pub longest_by : Waits → ℕ → ℕ
longest_by (UpTo millis) retry_millis = of_millis millis
longest_by (Between least most) retry_millis = share retry_millis most

abbrev pub shortest_by : Waits → ℕ → ℕ
shortest_by (UpTo millis) retry_millis = of_millis retry_millis
shortest_by (Between least most) retry_millis = share retry_millis least

abbrev pub wait : Calm → Proc → ℕ
wait c p = enough c (longest_by c.waits p.retry_millis)

abbrev pub least_wait : Calm → Proc → ℕ
least_wait c p = needed c (shortest_by c.waits p.retry_millis)

-- a leader's own wait
abbrev pub retry : Calm → Proc → ℕ
retry c p = enough c (of_millis p.retry_millis)

-- from one look at the Lease to the next, at least and at most
abbrev pub near_step : Calm → Proc → ℕ
near_step c p = least_wait c p + 2 * c.near

abbrev pub far_step : Calm → Proc → ℕ
far_step c p = wait c p + 2 * c.far

-- the seconds of a lease, as a candidate finds them over
abbrev pub most_looks : Calm → Proc → ℕ → ℕ
most_looks c p seconds = most_beats (near_step c p) (far_step c p) (enough c (of_seconds seconds))

abbrev pub least_looks : Calm → Proc → ℕ → ℕ
least_looks c p seconds = takes_beats c.near c.far (least_wait c p) (wait c p) (needed c (of_seconds seconds))

-- ---- premises

-- replies come within the call timeout
abbrev pub replies_count : Calm → Proc → Bool
replies_count c p = nat_le (2 * c.far * c.fast) (of_millis p.timeout_millis)

-- a renewal comes within the renew deadline
abbrev pub renews : Calm → Proc → Bool
renews c p = nat_le (4 * c.far * c.fast) (of_millis p.renew_millis)

-- and before others find the record over
abbrev pub outlasts : Calm → Proc → Bool
outlasts c p = nat_lt ((retry c p + 5 * c.far - c.near) * c.fast) (of_seconds p.lease_seconds)

abbrev pub stays_by : Calm → Proc → Bool
stays_by c p = replies_count c p && renews c p && outlasts c p

-- somebody comes to lead, where leaders give up their Leases at stops alone
abbrev pub all_count : Calm → List Proc → Bool
all_count c ps = list_all (replies_count c) ps

abbrev pub lead : Calm → List Proc → Bool
lead c ps = c.releases_by_stop && all_count c ps

-- a leader as somebody respects it whose own lease has so many seconds
abbrev pub as_respected : RespectRule → ℕ → Proc → Proc
as_respected Record seconds leader = leader
as_respected Own seconds leader = record leader { lease_seconds = seconds }

abbrev pub shortest_from : ℕ → List Proc → ℕ
shortest_from least [] = least
shortest_from least (p ∷ ps) = shortest_from (min p.lease_seconds least) ps

abbrev pub shortest_lease : List Proc → ℕ
shortest_lease ps = shortest_from 4294967295 ps

-- and whoever leads stays, also where others respect its records for the shortest lease alone
abbrev pub all_stay : Calm → List Proc → Bool
all_stay c ps = list_all (λ p. stays_by c (as_respected c.respect (shortest_lease ps) p)) ps

abbrev pub stay : Calm → List Proc → Bool
stay c ps = c.releases_by_stop && all_stay c ps

-- ---- the bounds, of a leader and of another candidate

-- after the leader crashes, the other leads no sooner than in so many beats, and no later. A leader that renews without a Get does so sooner
abbrev pub gets : Calm → ℕ
gets c = renewal_ways c.fast_renew c.far

abbrev pub crash_least : Calm → Proc → Proc → ℕ
crash_least c leader p = least_looks c p leader.lease_seconds + 3 * c.near - (retry c leader + gets c)

abbrev pub crash_most : Calm → Proc → Proc → ℕ
crash_most c leader p =
    succession_beats c.near c.far (wait c p) (least_wait c p) (enough c (of_seconds leader.lease_seconds)) (ways_after c.fast_renew c.far)

-- after it stops, and its release is accepted
abbrev pub stop_least : Calm → ℕ
stop_least c = 4 * c.near

abbrev pub stop_most : Calm → Proc → ℕ
stop_most c p = release_beats c.far (wait c p)

-- a leader that is cut off acts on for so long
abbrev pub acts_on : Calm → ℕ → ℕ
acts_on c millis = 2 * c.far + enough c (of_millis millis) - 1

-- what a leader may act on by its own deadline alone, in milliseconds
abbrev pub own_term : Proc → ℕ
own_term p = p.retry_millis + p.renew_millis

-- from the beginning of a calm the other leads by then, where a lease of so many seconds blocks it, and it is free of what it had begun by beat old
abbrev pub leads_by : Calm → ℕ → ℕ → Proc → ℕ
leads_by c old seconds p =
    takeover_beats c.near c.far 0 (max (of_millis p.timeout_millis / c.slow) old) (wait c p) (least_wait c p) (enough c (of_seconds seconds))

abbrev pub leads : Calm → Proc → Proc → ℕ
leads c leader p = leads_by c 0 leader.lease_seconds p

-- by then one of them leads that stays: the longest term of before is over, and so is the longest lease
abbrev pub stays_from : Calm → ℕ → ℕ → Proc → ℕ
stays_from c term seconds p =
    settle_beats c.near c.far (acts_on c term) (acts_on c term) (of_millis p.timeout_millis / c.slow) (wait c p) (least_wait c p) (enough c (of_seconds seconds))

-- ---- of all that may follow a leader

abbrev pub longest_term : List Proc → ℕ
longest_term [] = 0
longest_term (p ∷ ps) = max (own_term p) (longest_term ps)

abbrev pub longest_lease : List Proc → ℕ
longest_lease [] = 0
longest_lease (p ∷ ps) = max p.lease_seconds (longest_lease ps)

abbrev pub handed_over : Calm → ℕ → ℕ → Proc → Proc → Handover
handed_over c term seconds leader p = record {
  crash_least = crash_least c leader p;
  crash_most = crash_most c leader p;
  stop_most = stop_most c p;
  leads = leads c leader p;
  stays_from = stays_from c term seconds p;
}

-- few enough beats to be counted in milliseconds
pub record AreFew (h : Handover) : Type 0 where
  pub crash_least : h.crash_least ≤ 100000000000000000000000000000000000
  pub crash_most : h.crash_most ≤ 100000000000000000000000000000000000
  pub stop_most : h.stop_most ≤ 100000000000000000000000000000000000
  pub leads : h.leads ≤ 100000000000000000000000000000000000
  pub stays_from : h.stays_from ≤ 100000000000000000000000000000000000

-- whichever of two follows
abbrev pub either : Handover → Handover → Handover
either a b = record {
  crash_least = min a.crash_least b.crash_least;
  crash_most = max a.crash_most b.crash_most;
  stop_most = max a.stop_most b.stop_most;
  leads = max a.leads b.leads;
  stays_from = max a.stays_from b.stays_from;
}

abbrev pub or_either : Option Handover → Handover → Option Handover
or_either None b = Some b
or_either (Some a) b = Some (either a b)

-- a leader doesn't follow itself
abbrev pub with_other : Bool → Option Handover → Handover → Option Handover
with_other true found b = found
with_other false found b = or_either found b

-- of these controllers, of which the first stands at this place, all but the one at the leader's
abbrev pub others_from : Calm → ℕ → ℕ → ℕ → Proc → ℕ → List Proc → Option Handover → Option Handover
others_from c term seconds place leader at [] found = found
others_from c term seconds place leader at (p ∷ ps) found =
    others_from c term seconds place leader (at + 1) ps (with_other (at == place) found (handed_over c term seconds (as_respected c.respect p.lease_seconds leader) p))

-- whoever may lead after the leader; where nobody else is there, it may itself lead again
abbrev pub others : Calm → ℕ → Proc → List Proc → Option Handover
others c place leader ps = others_from c (longest_term ps) (longest_lease ps) place leader 0 ps None

abbrev pub followers : Calm → Proc → List Proc → Option Handover → Handover
followers c leader ps None = handed_over c (longest_term ps) (longest_lease ps) leader leader
followers c leader ps (Some h) = h

-- ---- in milliseconds

abbrev pub number_if : Bool → ℕ → Option ℕ
number_if true n = Some n
number_if false n = None

abbrev pub span_if : Bool → ℕ → ℕ → Option Span
span_if true least most = Some (record { least = least; most = most })
span_if false least most = None

-- nobody else leads after it where it is the only one
abbrev pub crash_of : Calm → Bool → Option Handover → Option Span
crash_of c holds None = None
crash_of c holds (Some h) = span_if holds (h.crash_least * c.beat_millis) (h.crash_most * c.beat_millis)

abbrev pub stop_of : Calm → Bool → Option Handover → Option Span
stop_of c holds None = None
stop_of c holds (Some h) = span_if holds (stop_least c * c.beat_millis) (h.stop_most * c.beat_millis)

abbrev pub election_by : Calm → Proc → List Proc → Option Handover → Election
election_by c leader ps found = record {
  crash = crash_of c (stay c ps) found;
  stop = stop_of c (stay c ps) found;
  acts_on = number_if (lead c ps) (acts_on c (own_term leader) * c.beat_millis);
  leads = number_if (lead c ps) ((followers c leader ps found).leads * c.beat_millis);
  stays_from = number_if (stay c ps) ((followers c leader ps found).stays_from * c.beat_millis);
}

-- the bounds of a leader, which stands at a place of these controllers
unfoldable pub election_of : Calm → ℕ → Proc → List Proc → Election
election_of c place leader ps = election_by c leader ps (others c place leader ps)
