-- A controller of the world stands for a process in a history.
use Rattle.std.specs.Prelude.{◌≡◌, ℕ, ◌+◌, ◌++◌, Bool, true, false, List, Option, Some, None}
use Rattle.kube_base.specs.declared.numbers.Local.{Local}
use Rattle.kube_base.specs.declared.numbers.ProcId.{ProcId}
use Rattle.kube_objects.specs.declared.call.Ask.{Ask}
use Rattle.kube_objects.specs.declared.deed.Deed.{Deed}
use Rattle.kube_objects.specs.Clocks.{local}
use Rattle.kube_objects.specs.Document.{Doc, is_controller, is_up_first, restart_delay}
use Rattle.kube_objects.specs.Elector.{leads}
use Rattle.kube_objects.specs.Entry.{Entry}
use Rattle.kube_objects.specs.Identities.{identity}
use Rattle.kube_objects.specs.Process.{alive, starts, ended}
use Rattle.kube_objects.specs.Wire.{Back}
use Rattle.history.specs.Printed.{printed}
use Rattle.history.specs.Steps.{restart, attempts}
use Rattle.leader_elector.specs.Stands.{AreWaitsOf, IsTimingOf, CandidateStands, LeadingStands, ReleasingStands}
use Rattle.object_store.specs.declared.store.Store.{Store}
use Rattle.pause_times.specs.Owned.{PausesStand}
use Rattle.world_process.specs.declared.controller.Controller.{Controller}
use Rattle.world_process.specs.declared.controller.Role.{Role}
use Rattle.world_process.specs.declared.controller.Role.TheVariants.{Down, Candidate, Leading, Releasing}
use Rattle.world_process.specs.declared.moves.Received.{Received}
use Rattle.world_process.specs.declared.moves.Stopped.{Stopped}
use Rattle.world_process.specs.declared.moves.Turn.{Turn}
use Rattle.world_process.specs.Beats.{IsBeatOf, reading_of}
use Rattle.world_process.specs.Clocked.{ClockStands}
use Rattle.world_process.specs.Moves as moves
use Rattle.world_process.specs.Moves.{settled, started_deeds, ended_deeds}
use Rattle.world_process.specs.OwnTerm.{OwnsTerm}

-- the reading at which a process that ended at a beat starts again
abbrev pub restart_reading : Doc → ℕ → Option ℕ → Option ℕ
restart_reading doc p None = None
restart_reading doc p (Some at) = Some (local doc p at + restart_delay doc)

-- the reading at which a process that is down starts again
abbrev pub waiting_of : Role → Option Local
waiting_of (Down at) = at
waiting_of (Candidate c) = None
waiting_of (Leading l) = None
waiting_of (Releasing r) = None

abbrev pub is_up_as : Role → Bool
is_up_as (Down at) = false
is_up_as (Candidate c) = true
is_up_as (Leading l) = true
is_up_as (Releasing r) = true

-- the role is that of a process in an incarnation
abbrev pub RoleStands : Doc → ℕ → ℕ → List Entry → Role → Type 0
RoleStands doc p i h (Down at) = (alive p h ≡ None) × (reading_of at ≡ restart_reading doc p (ended doc p h))
RoleStands doc p i h (Candidate c) = (alive p h ≡ Some i) × CandidateStands doc (identity p i) h c
RoleStands doc p i h (Leading l) = (alive p h ≡ Some i) × LeadingStands doc (identity p i) h l
RoleStands doc p i h (Releasing r) = (alive p h ≡ Some i) × ReleasingStands doc (identity p i) h r × (leads (identity p i) h ≡ true)

pub record ControllerStands (doc : Doc) (p : ℕ) (h : List Entry) (c : Controller) : Type 0 where
  pub sort : is_controller doc p ≡ true
  pub me : c.me.0 ≡ p
  pub incarnation : c.incarnation ≡ starts p h
  pub timing : IsTimingOf doc p c.timing
  pub waits : AreWaitsOf doc p c.waits.each
  pub clock : ClockStands doc p c.clock
  pub pauses : PausesStand doc p c.pauses
  pub up_first : c.up_first ≡ is_up_first doc p
  pub role : RoleStands doc p c.incarnation h c.role
  pub term : OwnsTerm doc p h c.term.value
  pub waking : IsBeatOf c.clock c.waking.until c.waking.below

-- the plain facts that a controller keeps
pub record SameController (old new : Controller) : Type 0 where
  pub me : new.me ≡ old.me
  pub timing : new.timing ≡ old.timing
  pub waits : new.waits ≡ old.waits
  pub clock : new.clock ≡ old.clock
  pub up_first : new.up_first ≡ old.up_first
  pub waking : new.waking ≡ old.waking

-- ---- what it did, in the words of every process

abbrev pub AsksIn : Doc → ℕ → ℕ → ℕ → List Entry → List Entry → Controller → Option Ask → Type 0
AsksIn doc k step p h next c ask = moves.AsksIn doc k step (identity p c.incarnation) h next (λ x. ControllerStands doc p x c) ask

abbrev pub Crashed : Doc → ℕ → ProcId → List Entry → Controller → Bool → Type 0
Crashed doc k id h c crashed = moves.Crashed doc k id h c.incarnation (λ x. ControllerStands doc id.0 x c) crashed

abbrev pub Begun : Doc → ℕ → ProcId → List Entry → Controller → Bool → Type 0
Begun doc k id h c started = moves.Begun doc k id h c.incarnation (λ x. ControllerStands doc id.0 x c) started

abbrev pub StoppedAs : Doc → ℕ → ProcId → List Entry → Controller → Stopped → Type 0
StoppedAs doc k id h c s = moves.StoppedAs doc k id h c.incarnation (λ x. ControllerStands doc id.0 x c) s

abbrev pub Replied : Doc → ℕ → ℕ → Back → List Entry → Controller → Received → Type 0
Replied doc k p b h c r = moves.Replied doc k (identity p c.incarnation) b h (λ x. ControllerStands doc p x c) r

-- ---- a turn

-- a controller has started again where it was time
pub record Restarted (doc : Doc) (k p : ℕ) (h : List Entry) (c : Controller) (started : Bool) : Type 0 where
  pub stands : ControllerStands doc p (restart doc k p h) c
  pub told : printed (restart doc k p h) ≡ printed h ++ started_deeds k (identity p c.incarnation) started

-- a controller has done the rest of its turn; h is the history after the restart
pub record Timed (doc : Doc) (k p : ℕ) (h : List Entry) (c : Controller) (ended : Bool) (ask : Option Ask) : Type 0 where
  pub told : printed (attempts doc k p (settled doc k p h)) ≡ printed h ++ ended_deeds k (identity p c.incarnation) ended
  pub asks : AsksIn doc k 4 p h (attempts doc k p (settled doc k p h)) c ask

abbrev pub Turned : Doc → ℕ → ℕ → List Entry → Controller → Turn → Type 0
Turned doc k p h c t = moves.TurnedAs doc k p true h c.incarnation (λ x. ControllerStands doc p x c) t

abbrev pub Ticked : Doc → ℕ → ℕ → List Entry → Controller → Store → List Deed → List Deed → Type 0
Ticked doc k p h c s old new = moves.TickedAs doc k p true h (λ x. ControllerStands doc p x c) s old new
