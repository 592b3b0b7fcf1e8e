-- A kubelet's rounds, read from the history. A round posts the node's status, and then creates or renews the node's Lease.
-- Source: KEP-589, node heartbeats, for the Lease and its renewal; the order of a round's calls is the profile's.
use Rattle.std.specs.Prelude.{ℕ, ◌+◌, ◌/◌, ◌&&◌, not, nat_lt, Bool, true, false, List, Option, Some, None}
use Rattle.kube_objects.specs.declared.call.Reply.{Reply}
use Rattle.kube_objects.specs.declared.call.Reply.TheVariants.{Found, Absent}
use Rattle.kube_objects.specs.declared.call.Request.{Request}
use Rattle.kube_objects.specs.declared.call.Request.TheVariants.{Get, Create, Update, PostStatus}
use Rattle.kube_objects.specs.declared.deed.Actor.{Actor}
use Rattle.kube_objects.specs.declared.lease.Holder.TheVariants as holder
use Rattle.kube_objects.specs.declared.lease.Lease.{Lease}
use Rattle.kube_objects.specs.Clocks.{local, wall}
use Rattle.kube_objects.specs.Document.{Doc, field, process_at, of_seconds}
use Rattle.kube_objects.specs.Entry.{Entry, Identity, Call, Plain, Fact, Starts, Sends, Delivers, Expires}
use Rattle.kube_objects.specs.Identities.{is_by}
use Rattle.kube_objects.specs.InForce.{posted_status}
use Rattle.kube_objects.specs.Newest.{newest, when, or_else, or_zero}
use Rattle.kube_objects.specs.Stored.{node_lease}
use Rattle.kube_objects.specs.Turns.{just_expired}
use Rattle.kube_objects.specs.Wire.{send}

-- the name of a kubelet's node
abbrev pub node_of : Doc → ℕ → ℕ
node_of doc p = field (λ x. x.name) 0 (process_at doc p)

-- ---- rounds

abbrev pub is_post : Request → Bool
is_post (PostStatus name status at) = true
is_post _ = false

-- whether a reply leaves nothing more to ask: any to the write, and one to the Get that is neither Found nor Absent
abbrev pub ends_round : Request → Reply → Bool
ends_round (PostStatus name status at) reply = false
ends_round (Get key) (Found version lease) = false
ends_round (Get key) Absent = false
ends_round _ _ = true

-- the last entry on an identity's round began one or ended it; the expiry of a post ends none
abbrev pub round_says : Identity → Actor → Fact → Option Bool
round_says q who (Sends call arrives) = when (is_post call.request && is_by q who) true
round_says q who (Delivers call reply counted) = when (ends_round call.request reply && (counted && is_by q who)) false
round_says q who (Expires call) = when (not (is_post call.request) && is_by q who) false
round_says q who _ = None

-- whether a round runs
abbrev pub has_round : Identity → List Entry → Bool
has_round q h = or_else false (newest (λ e T. round_says q e.actor e.fact) h)

-- a quarter of the duration of a node's Lease
abbrev pub round_period : Doc → ℕ
round_period doc = of_seconds doc.settings.node_lease_duration_seconds / 4

abbrev pub round_timer_says : Doc → Identity → ℕ → Actor → Fact → Option ℕ
round_timer_says doc q k who Starts = when (is_by q who) (local doc q.process k)
round_timer_says doc q k who (Sends call arrives) = when (is_post call.request && is_by q who) (local doc q.process k + round_period doc)
round_timer_says doc q k who _ = None

-- the reading from which the next round may begin: that of the start, or a period after that of the last round's beginning
abbrev pub round_timer : Doc → Identity → List Entry → ℕ
round_timer doc q h = or_zero (newest (λ e T. round_timer_says doc q e.beat e.actor e.fact) h)

-- ---- requests

-- the Lease of a kubelet's node at beat k; what a found one has besides stays
abbrev pub heartbeat_lease : Doc → Identity → ℕ → Option Lease → Lease
heartbeat_lease doc q k None = record {
  holder = holder.Foreign (node_of doc q.process);
  duration = Some doc.settings.node_lease_duration_seconds;
  acquired = None;
  renewed = Some (record { 0 = wall doc q.process k });
  transitions = None;
}
heartbeat_lease doc q k (Some lease) = record {
  holder = holder.Foreign (node_of doc q.process);
  duration = Some doc.settings.node_lease_duration_seconds;
  acquired = lease.acquired;
  renewed = Some (record { 0 = wall doc q.process k });
  transitions = lease.transitions;
}

-- what a counted reply is followed by
abbrev pub next_request : Doc → Identity → ℕ → Request → Reply → Option Request
next_request doc q k (PostStatus name status at) reply = Some (Get (node_lease (node_of doc q.process)))
next_request doc q k (Get key) Absent = Some (Create key (heartbeat_lease doc q k None))
next_request doc q k (Get key) (Found version lease) = Some (Update key version (heartbeat_lease doc q k (Some lease)))
next_request doc q k _ _ = None

abbrev pub post : Doc → Identity → ℕ → List Entry → Request
post doc q k h = PostStatus (node_of doc q.process) (posted_status doc q.process h) (record { 0 = wall doc q.process k })

-- ---- what a kubelet adds to the history at a counted reply, and in its turn

abbrev pub send_next : Doc → ℕ → Identity → Option Request → List Entry → List Entry
send_next doc k q None h = h
send_next doc k q (Some request) h = send doc k 3 q Plain request h

abbrev pub is_post_call : Option Call → Bool
is_post_call None = false
is_post_call (Some call) = is_post call.request

-- a post that expired is followed by the Get; else a round begins where it is time
abbrev pub round_if : Doc → ℕ → Identity → Bool → Bool → List Entry → List Entry
round_if doc k q true due h = send doc k 4 q Plain (Get (node_lease (node_of doc q.process))) h
round_if doc k q false true h = send doc k 4 q Plain (post doc q k h) h
round_if doc k q false false h = h

-- whether none runs and its time has come
abbrev pub is_round_due : Doc → ℕ → Identity → List Entry → Bool
is_round_due doc k q h = not (has_round q h) && not (nat_lt (local doc q.process k) (round_timer doc q h))

abbrev pub round : Doc → ℕ → Identity → List Entry → List Entry
round doc k q h = round_if doc k q (is_post_call (just_expired q k h)) (is_round_due doc k q h) h
