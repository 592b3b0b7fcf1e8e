-- What a kubelet does by what it keeps, whatever the document: at every reading, and in every state.
-- Source: KEP-589, node heartbeats; the order of a round's calls and the timeout of a call are the profile's.
use Rattle.std.specs.Prelude.{◌≡◌, ℕ, ◌+◌, ◌&&◌, not, nat_lt, Bool, true, false, cond, Option, Some, None, option_map}
use Rattle.kube_objects.specs.declared.call.Ask.{Ask}
use Rattle.kube_objects.specs.declared.call.Reply.{Reply}
use Rattle.kube_objects.specs.declared.call.Reply.TheVariants.{Found, Absent}
use Rattle.kube_objects.specs.declared.call.Request.{Request}
use Rattle.kube_objects.specs.declared.call.Request.TheVariants.{Get, Create, Update, PostStatus}
use Rattle.kube_objects.specs.declared.key.Key.{Key}
use Rattle.kube_objects.specs.declared.lease.Holder.TheVariants as holder
use Rattle.kube_objects.specs.declared.lease.Lease.{Lease}
use Rattle.kube_objects.specs.declared.node.ReadyStatus.{ReadyStatus}
use Rattle.kube_objects.specs.CallSlots.{calls_of, held_call, is_awaited, is_overdue, next_number}
use Rattle.kube_objects.specs.Newest.{has, when}
use Rattle.kube_objects.specs.Stored.{node_lease}
use Rattle.kubelet_node.specs.declared.kubelet.Kubelet.{Kubelet}
use Rattle.kubelet_node.specs.declared.waiting.Awaited.{Awaited}
use Rattle.kubelet_node.specs.declared.waiting.Awaited.TheVariants as awaited
use Rattle.kubelet_node.specs.Requests.{awaited_in, period_of}
use Rattle.kubelet_node.specs.Stands.{Wait, waiting_of}

-- how many calls were begun; number and sending of the call that waits, and what it asked; and the reading from which the
-- next round may begin
pub record KubeletState : Type 0 where
  pub calls : ℕ
  pub held : Option (ℕ × ℕ)
  pub wait : Option Wait
  pub timer : ℕ

abbrev pub state_of : Kubelet → KubeletState
state_of x = record { calls = calls_of x.slot; held = held_call x.slot; wait = waiting_of x.waiting; timer = x.timer.0 }

-- who it is and its timings stay
pub record IsSame (old new : Kubelet) : Type 0 where
  pub node : new.node ≡ old.node
  pub incarnation : new.incarnation ≡ old.incarnation
  pub timing : new.timing ≡ old.timing

-- ---- requests

-- number and request
abbrev pub asked_of : Option Ask → Option (ℕ × Request)
asked_of = option_map (λ ask. (ask.number, ask.request))

-- a request gets the next number
abbrev pub numbered : KubeletState → Option Request → Option (ℕ × Request)
numbered k = option_map (λ request. (next_number k.calls, request))

-- a call has begun, where one is sent
abbrev pub with_call : (timeout now : ℕ) → KubeletState → Option Request → KubeletState
with_call timeout now k None = k
with_call timeout now k (Some request) = record k {
  calls = next_number k.calls;
  held = Some (next_number k.calls, now);
  wait = Some (record { awaited = awaited_in request; late = now + timeout + 1 });
}

-- this call has begun
pub record BeginsCall (old : Kubelet) (now : ℕ) (wanted : Request) (new : Kubelet) (ask : Ask) : Type 0 where
  pub number : ask.number ≡ next_number (calls_of old.slot)
  pub request : ask.request ≡ wanted
  pub kept : state_of new ≡ with_call old.timing.timeout now (state_of old) (Some wanted)

-- the Lease of the node at a time of day; what a found one has besides stays
abbrev pub heartbeat_at : Kubelet → (wall : ℕ) → Option Lease → Lease
heartbeat_at x wall None = record {
  holder = holder.Foreign x.node;
  duration = Some x.timing.lease_seconds;
  acquired = None;
  renewed = Some (record { 0 = wall });
  transitions = None;
}
heartbeat_at x wall (Some lease) = record {
  holder = holder.Foreign x.node;
  duration = Some x.timing.lease_seconds;
  acquired = lease.acquired;
  renewed = Some (record { 0 = wall });
  transitions = lease.transitions;
}

-- ---- a turn

abbrev pub is_post_awaited : Awaited → Bool
is_post_awaited awaited.Post = true
is_post_awaited _ = false

abbrev pub is_post_wait : Option Wait → Bool
is_post_wait None = false
is_post_wait (Some w) = is_post_awaited w.awaited

-- whether a post has expired
abbrev pub has_lost_post : Kubelet → (now : ℕ) → Bool
has_lost_post x now = is_overdue now x.timing.timeout (held_call x.slot) && is_post_wait (waiting_of x.waiting)

-- a call that has expired is forgotten
abbrev pub after_expiry : Kubelet → (now : ℕ) → KubeletState
after_expiry x now =
    cond (is_overdue now x.timing.timeout (held_call x.slot)) (record (state_of x) { held = None; wait = None }) (state_of x)

-- whether no call waits and it is time
abbrev pub is_due : (now : ℕ) → KubeletState → Bool
is_due now k = not (has k.held) && not (nat_lt now k.timer)

-- what is sent after the expiry; after a post that has expired, the Get
abbrev pub round_in : Kubelet → (now wall : ℕ) → ReadyStatus → (lost : Bool) → KubeletState → Option Request
round_in x now wall status true k = Some (Get (node_lease x.node))
round_in x now wall status false k = when (is_due now k) (PostStatus x.node status (record { 0 = wall }))

-- the next round may begin a period after the beginning of this one
abbrev pub timer_in : Kubelet → (now : ℕ) → (lost : Bool) → KubeletState → ℕ
timer_in x now true k = k.timer
timer_in x now false k = cond (is_due now k) (now + period_of x.timing.lease_seconds) k.timer

abbrev pub after_round : Kubelet → (now wall : ℕ) → ReadyStatus → (lost : Bool) → KubeletState → KubeletState
after_round x now wall status lost k =
    with_call x.timing.timeout now (record k { timer = timer_in x now lost k }) (round_in x now wall status lost k)

-- the least reading at which a turn does anything
abbrev pub wake_in : KubeletState → ℕ
wake_in k = elim k.wait [ None ↦ k.timer | Some w ↦ w.late ]

-- ---- a reply

-- whether a reply with this number counts at a reading
abbrev pub counts_in : Kubelet → (number now : ℕ) → Bool
counts_in x number now = is_awaited number now x.timing.timeout (held_call x.slot)

-- the write that a reply to the Get is followed by
abbrev pub found_at : Kubelet → (wall : ℕ) → Key → Reply → Option Request
found_at x wall key Absent = Some (Create key (heartbeat_at x wall None))
found_at x wall key (Found version lease) = Some (Update key version (heartbeat_at x wall (Some lease)))
found_at x wall key _ = None

-- what a reply that counts is followed by
abbrev pub next_at : Kubelet → (wall : ℕ) → Awaited → Reply → Option Request
next_at x wall awaited.Post reply = Some (Get (node_lease x.node))
next_at x wall (awaited.Get key) reply = found_at x wall key reply
next_at x wall awaited.Write reply = None

-- no call waits
abbrev pub finished : KubeletState → KubeletState
finished k = record k { held = None; wait = None }

-- a reply counted that answers what waited
pub record TakesReply (old : Kubelet) (now wall : ℕ) (w : Wait) (reply : Reply) (new : Kubelet) (ask : Option Ask) : Type 0 where
  pub same : IsSame old new
  pub asks : asked_of ask ≡ numbered (state_of old) (next_at old wall w.awaited reply)
  pub kept : state_of new ≡ with_call old.timing.timeout now (finished (state_of old)) (next_at old wall w.awaited reply)
