-- A process of the world stands for one of the document in a history.
use Rattle.std.specs.Prelude.{◌≡◌, ℕ, Bool, true, false, List, Option, Some, None}
use Rattle.kube_base.specs.declared.numbers.Local.{Local}
use Rattle.kube_base.specs.declared.numbers.ProcId.{ProcId}
use Rattle.kube_objects.specs.declared.call.Ask.{Ask}
use Rattle.kube_objects.specs.declared.deed.Deed.{Deed}
use Rattle.kube_objects.specs.Document.{Doc, is_controller}
use Rattle.kube_objects.specs.Elector.{leads_on}
use Rattle.kube_objects.specs.Entry.{Entry}
use Rattle.kube_objects.specs.Identities.{identity}
use Rattle.kube_objects.specs.Process.{alive}
use Rattle.kube_objects.specs.Wire.{Back}
use Rattle.object_store.specs.declared.store.Store.{Store}
use Rattle.skew_clock.specs.Clocking.{Clocking}
use Rattle.world_process.specs.declared.moves.Received.{Received}
use Rattle.world_process.specs.declared.moves.Stopped.{Stopped}
use Rattle.world_process.specs.declared.moves.Turn.{Turn}
use Rattle.world_process.specs.declared.process.Process.{Process}
use Rattle.world_process.specs.declared.process.Process.TheVariants.{Controller, Kubelet}
use Rattle.world_process.specs.declared.waking.Waking.{Waking}
use Rattle.world_process.specs.Beats.{IsBeatOf, own_reading, reading_of}
use Rattle.world_process.specs.Controllers.{ControllerStands}
use Rattle.world_process.specs.Kubelets.{KubeletStands}
use Rattle.world_process.specs.Moves as moves

abbrev pub ProcessStands : Doc → ℕ → List Entry → Process → Type 0
ProcessStands doc p h (Controller c) = ControllerStands doc p h c
ProcessStands doc p h (Kubelet b) = KubeletStands doc p h b

-- ---- plain facts

abbrev pub me_of : Process → ProcId
me_of (Controller c) = c.me
me_of (Kubelet b) = b.me

abbrev pub incarnation_of : Process → ℕ
incarnation_of (Controller c) = c.incarnation
incarnation_of (Kubelet b) = b.incarnation

abbrev pub clock_of : Process → Clocking
clock_of (Controller c) = c.clock
clock_of (Kubelet b) = b.clock

abbrev pub waking_of : Process → Waking
waking_of (Controller c) = c.waking
waking_of (Kubelet b) = b.waking

abbrev pub is_up_first_as : Process → Bool
is_up_first_as (Controller c) = c.up_first
is_up_first_as (Kubelet b) = b.up_first

-- the plain facts that a process keeps
pub record SameProcess (old new : Process) : Type 0 where
  pub me : me_of new ≡ me_of old
  pub clock : clock_of new ≡ clock_of old

-- ---- the beat that it keeps

-- it was found for the reading that is kept beside it
abbrev pub IsTimed : Process → Type 0
IsTimed x = IsBeatOf (clock_of x) (waking_of x).until (waking_of x).below

-- it is the one of the process's next turn, whichever history the process stands for
pub record IsKept (x : Process) : Type 0 where
  pub timed : IsTimed x
  pub first : (doc : Doc) (p : ℕ) (h : List Entry) (at : Option Local) → ProcessStands doc p h x → reading_of at ≡ own_reading doc p h
      → IsBeatOf (clock_of x) (waking_of x).until at

-- ---- whether it leads on

-- where it is up in an incarnation whose term isn't over, or that acts in its release
abbrev pub leads_if_up : Doc → ℕ → ℕ → Option ℕ → List Entry → Bool
leads_if_up doc k p None h = false
leads_if_up doc k p (Some i) h = leads_on doc.settings.rules.release doc (identity p i) k h

-- a kubelet never is
abbrev pub leads_as : Doc → ℕ → ℕ → Bool → List Entry → Bool
leads_as doc k p true h = leads_if_up doc k p (alive p h) h
leads_as doc k p false h = false

abbrev pub leads_now : Doc → ℕ → ℕ → List Entry → Bool
leads_now doc k p h = leads_as doc k p (is_controller doc p) h

-- ---- what it did

abbrev pub Crashed : Doc → ℕ → ProcId → List Entry → Process → Bool → Type 0
Crashed doc k id h x crashed = moves.Crashed doc k id h (incarnation_of x) (λ g. ProcessStands doc id.0 g x) crashed

abbrev pub Begun : Doc → ℕ → ProcId → List Entry → Process → Bool → Type 0
Begun doc k id h x started = moves.Begun doc k id h (incarnation_of x) (λ g. ProcessStands doc id.0 g x) started

abbrev pub StoppedAs : Doc → ℕ → ProcId → List Entry → Process → Stopped → Type 0
StoppedAs doc k id h x s = moves.StoppedAs doc k id h (incarnation_of x) (λ g. ProcessStands doc id.0 g x) s

abbrev pub Turned : Doc → ℕ → ℕ → List Entry → Process → Turn → Type 0
Turned doc k p h x t = moves.Turned doc k p h (incarnation_of x) (λ g. ProcessStands doc p g x) t

abbrev pub Ticked : Doc → ℕ → ℕ → List Entry → Process → Store → List Deed → List Deed → Type 0
Ticked doc k p h x s old new = moves.TickedAs doc k p (is_controller doc p) h (λ g. ProcessStands doc p g x) s old new

abbrev pub Replied : Doc → ℕ → ℕ → Back → List Entry → Process → Received → Type 0
Replied doc k p b h x r = moves.Replied doc k (identity p (incarnation_of x)) b h (λ g. ProcessStands doc p g x) r

-- next is the history with what is asked; h is that before
abbrev pub AsksIn : Doc → ℕ → ℕ → ℕ → List Entry → List Entry → Process → Option Ask → Type 0
AsksIn doc k step p h next x ask = moves.AsksIn doc k step (identity p (incarnation_of x)) h next (λ g. ProcessStands doc p g x) ask
