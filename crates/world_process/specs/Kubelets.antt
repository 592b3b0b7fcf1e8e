-- A kubelet of the world stands for a process in a history.
use Rattle.std.specs.Prelude.{◌≡◌, ℕ, Bool, false, List, Option, Some, None}
use Rattle.kube_base.specs.declared.numbers.ProcId.{ProcId}
use Rattle.kube_objects.specs.Document.{Doc, call_timeout, is_controller, is_up_first}
use Rattle.kube_objects.specs.Entry.{Entry}
use Rattle.kube_objects.specs.Identities.{identity}
use Rattle.kube_objects.specs.Kubelet.{node_of}
use Rattle.kube_objects.specs.Process.{alive, starts}
use Rattle.kube_objects.specs.Wire.{Back}
use Rattle.kubelet_node.specs.declared.kubelet.Kubelet as rounds
use Rattle.kubelet_node.specs.Stands.{KubeletStands as AreRounds}
use Rattle.pause_times.specs.Owned.{PausesStand}
use Rattle.world_process.specs.declared.kubelet.Kubelet.{Kubelet}
use Rattle.world_process.specs.declared.moves.Received.{Received}
use Rattle.world_process.specs.declared.moves.Turn.{Turn}
use Rattle.world_process.specs.Beats.{IsBeatOf}
use Rattle.world_process.specs.Clocked.{ClockStands}
use Rattle.world_process.specs.Moves as moves

-- its rounds are those of a process in an incarnation; there are none while it is down
abbrev pub RoundsStand : Doc → ℕ → ℕ → List Entry → Option rounds.Kubelet → Type 0
RoundsStand doc p i h None = alive p h ≡ None
RoundsStand doc p i h (Some x) = (alive p h ≡ Some i) × AreRounds doc (identity p i) h x

pub record KubeletStands (doc : Doc) (p : ℕ) (h : List Entry) (b : Kubelet) : Type 0 where
  pub sort : is_controller doc p ≡ false
  pub me : b.me.0 ≡ p
  pub incarnation : b.incarnation ≡ starts p h
  pub node : b.node ≡ node_of doc p
  pub lease : b.timing.lease_seconds ≡ doc.settings.node_lease_duration_seconds
  pub timeout : b.timing.timeout ≡ call_timeout doc p
  pub clock : ClockStands doc p b.clock
  pub pauses : PausesStand doc p b.pauses
  pub up_first : b.up_first ≡ is_up_first doc p
  pub rounds : RoundsStand doc p b.incarnation h b.rounds
  pub waking : IsBeatOf b.clock b.waking.until b.waking.below

-- the plain facts that a kubelet keeps
pub record SameKubelet (old new : Kubelet) : Type 0 where
  pub me : new.me ≡ old.me
  pub clock : new.clock ≡ old.clock
  pub up_first : new.up_first ≡ old.up_first
  pub waking : new.waking ≡ old.waking

-- ---- what it did, in the words of every process

abbrev pub Crashed : Doc → ℕ → ProcId → List Entry → Kubelet → Bool → Type 0
Crashed doc k id h b crashed = moves.Crashed doc k id h b.incarnation (λ x. KubeletStands doc id.0 x b) crashed

abbrev pub Begun : Doc → ℕ → ProcId → List Entry → Kubelet → Bool → Type 0
Begun doc k id h b started = moves.Begun doc k id h b.incarnation (λ x. KubeletStands doc id.0 x b) started

abbrev pub Turned : Doc → ℕ → ℕ → List Entry → Kubelet → Turn → Type 0
Turned doc k p h b t = moves.TurnedAs doc k p false h b.incarnation (λ x. KubeletStands doc p x b) t

abbrev pub Replied : Doc → ℕ → ℕ → Back → List Entry → Kubelet → Received → Type 0
Replied doc k p b h x r = moves.Replied doc k (identity p x.incarnation) b h (λ g. KubeletStands doc p g x) r
