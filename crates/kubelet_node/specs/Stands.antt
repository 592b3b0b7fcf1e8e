-- A kubelet stands for an identity in a history: one clause for each of its parts.
use Rattle.std.specs.Prelude.{◌≡◌, ℕ, ◌+◌, false, List, Option, option_map}
use Rattle.kube_objects.specs.CallSlots.{CallSlotStands}
use Rattle.kube_objects.specs.Clocks.{local}
use Rattle.kube_objects.specs.Document.{Doc, call_timeout}
use Rattle.kube_objects.specs.Entry.{Entry, Identity, Call}
use Rattle.kube_objects.specs.Kubelet.{has_round, is_post_call, node_of, round_timer}
use Rattle.kube_objects.specs.Newest.{has}
use Rattle.kube_objects.specs.Process.{call_in}
use Rattle.kube_objects.specs.Turns.{just_expired}
use Rattle.kubelet_node.specs.declared.kubelet.Kubelet.{Kubelet}
use Rattle.kubelet_node.specs.declared.waiting.Awaited.{Awaited}
use Rattle.kubelet_node.specs.declared.waiting.Waiting.{Waiting}
use Rattle.kubelet_node.specs.Requests.{awaited_in}

-- what is awaited, and the least reading at which it has expired
pub record Wait : Type 0 where
  pub awaited : Awaited
  pub late : ℕ

abbrev pub waiting_of : Option Waiting → Option Wait
waiting_of = option_map (λ w. record { awaited = w.awaited; late = w.late.0 })

abbrev pub waiting_in : Doc → Identity → Option Call → Option Wait
waiting_in doc q =
    option_map (λ call. record { awaited = awaited_in call.request; late = local doc q.process call.sent + call_timeout doc q.process + 1 })

-- who it is, its timings, and the call that waits
pub record CallStands (doc : Doc) (q : Identity) (h : List Entry) (x : Kubelet) : Type 0 where
  pub node : x.node ≡ node_of doc q.process
  pub incarnation : x.incarnation ≡ q.incarnation
  pub lease : x.timing.lease_seconds ≡ doc.settings.node_lease_duration_seconds
  pub timeout : x.timing.timeout ≡ call_timeout doc q.process
  pub slot : CallSlotStands doc q h x.slot
  pub waiting : waiting_of x.waiting ≡ waiting_in doc q (call_in q h)

-- a post that expired has been followed up
abbrev pub IsSettled : Identity → List Entry → Type 0
IsSettled q h = (k : ℕ) → is_post_call (just_expired q k h) ≡ false

-- a round runs exactly while a call waits
pub record KubeletStands (doc : Doc) (q : Identity) (h : List Entry) (x : Kubelet) : Type 0 where
  pub call : CallStands doc q h x
  pub timer : x.timer.0 ≡ round_timer doc q h
  pub runs : has_round q h ≡ has (call_in q h)
  pub settled : IsSettled q h
