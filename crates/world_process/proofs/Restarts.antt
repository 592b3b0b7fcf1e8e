-- A restart, by what the controller is.
use Rattle.std.proofs.Common.{◌≡◌, ℕ, ◌+◌, ◌<◌, ◌≤◌, ◌^◌, ◌++◌, not, nat_lt, true, false, List, Option, Some, None, refl, sym, ap, ◌∙◌, subst, arith}
use Rattle.std.proofs.lemmas.Bool.Decides.{nat_tests}
use Rattle.std.proofs.lemmas.List.{append-nil}
use Rattle.kube_base.specs.declared.numbers.Local.{Local}
use Rattle.kube_objects.specs.declared.deed.Act.TheVariants as act
use Rattle.kube_objects.specs.Clocks.{local}
use Rattle.kube_objects.specs.Document.{Doc, restart_delay}
use Rattle.kube_objects.specs.Entry.{Entry, actor_of}
use Rattle.kube_objects.specs.Identities.{identity}
use Rattle.kube_objects.specs.Process.{alive, starts, ended, is_restart_due}
use Rattle.history.specs.Printed.{printed, deeds_of}
use Rattle.history.specs.Steps.{start, restart}
use Rattle.world_process.specs.declared.controller.Controller.{Controller}
use Rattle.world_process.specs.declared.controller.Role.TheVariants as role
use Rattle.world_process.specs.declared.controller.Role.{Role}
use Rattle.world_process.specs.Beats.{reading_of}
use Rattle.world_process.specs.Controllers.{RoleStands, ControllerStands, Restarted, restart_reading, waiting_of}
use Rattle.world_process.specs.Plain.{IsFew}
use Rattle.world_process.proofs.Plainly.{starts-start}
use Rattle.world_process.proofs.Turning.{restart-up, restart-down}

pub lt-true : (a b : ℕ) → a < b → nat_lt a b ≡ true
lt-true a b less = grind (arith, nat_tests)

lt-false : (a b : ℕ) → b ≤ a → nat_lt a b ≡ false
lt-false a b most = grind (arith, nat_tests)

due-is : (doc : Doc) (p k at : ℕ) (o : Option ℕ) → Some at ≡ restart_reading doc p o → is_restart_due doc p k o ≡ not (nat_lt (local doc p k) at)
due-is doc p k at None is = cc
due-is doc p k at (Some e) is = let same : local doc p e + restart_delay doc ≡ at = cc in ap (λ n. not (nat_lt (local doc p k) n)) same

due-never : (doc : Doc) (p k : ℕ) (o : Option ℕ) → None ≡ restart_reading doc p o → is_restart_due doc p k o ≡ false
due-never doc p k None is = refl
due-never doc p k (Some e) is = cc

restarted-not : (doc : Doc) (k p : ℕ) (h : List Entry) (c : Controller) → ControllerStands doc p h c → restart doc k p h ≡ h → Restarted doc k p h c false
restarted-not doc k p h c s same =
    record {
      stands = subst (λ g. ControllerStands doc p g c) (sym same) s;
      told = ap printed same ∙ sym (append-nil (printed h));
    }

-- where the process is down with this reading
pub down-at : (doc : Doc) (p i : ℕ) (h : List Entry) (r : Role) (at : Local) → RoleStands doc p i h r → waiting_of r ≡ Some at → (alive p h ≡ None) × (Some at.0 ≡ restart_reading doc p (ended doc p h))
down-at doc p i h (role.Down o) at s is = (s.0, ap reading_of (sym is) ∙ s.1)
down-at doc p i h (role.Candidate x) at s is = cc
down-at doc p i h (role.Leading x) at s is = cc
down-at doc p i h (role.Releasing x) at s is = cc

-- where it isn't due yet
pub restart-waits : (doc : Doc) (k p : ℕ) (h : List Entry) (c : Controller) (at : Local) → ControllerStands doc p h c → waiting_of c.role ≡ Some at → local doc p k < at.0 → restart doc k p h ≡ h
restart-waits doc k p h c at s is less =
    let down = down-at doc p c.incarnation h c.role at s.role is in
    restart-down doc k p h false down.0 (due-is doc p k at.0 (ended doc p h) down.1 ∙ ap not (lt-true (local doc p k) at.0 less))

pub restarted-waits : (doc : Doc) (k p : ℕ) (h : List Entry) (c : Controller) (at : Local) → ControllerStands doc p h c → waiting_of c.role ≡ Some at → local doc p k < at.0 → Restarted doc k p h c false
restarted-waits doc k p h c at s is less = restarted-not doc k p h c s (restart-waits doc k p h c at s is less)

-- where nothing waits
pub restart-never : (doc : Doc) (k p : ℕ) (h : List Entry) (c : Controller) → ControllerStands doc p h c → waiting_of c.role ≡ None → restart doc k p h ≡ h
restart-never doc k p h c s is = by_role c.role s.role is
  where
    by_role : (r : Role) → RoleStands doc p c.incarnation h r → waiting_of r ≡ None → restart doc k p h ≡ h
    by_role (role.Down o) down none = restart-down doc k p h false down.0 (due-never doc p k (ended doc p h) (ap reading_of (sym none) ∙ down.1))
    by_role (role.Candidate x) up none = restart-up doc k p c.incarnation h up.0
    by_role (role.Leading x) up none = restart-up doc k p c.incarnation h up.0
    by_role (role.Releasing x) up none = restart-up doc k p c.incarnation h up.0

pub restarted-never : (doc : Doc) (k p : ℕ) (h : List Entry) (c : Controller) → ControllerStands doc p h c → waiting_of c.role ≡ None → Restarted doc k p h c false
restarted-never doc k p h c s is = restarted-not doc k p h c s (restart-never doc k p h c s is)

-- where it is due
pub restart-is : (doc : Doc) (k p : ℕ) (h : List Entry) (c : Controller) (at : Local) → ControllerStands doc p h c → waiting_of c.role ≡ Some at → at.0 ≤ local doc p k → restart doc k p h ≡ start k 4 p h
restart-is doc k p h c at s is most =
    let down = down-at doc p c.incarnation h c.role at s.role is in
    restart-down doc k p h true down.0 (due-is doc p k at.0 (ended doc p h) down.1 ∙ ap not (lt-false (local doc p k) at.0 most))

pub restarted-starts : (doc : Doc) (k p : ℕ) (h : List Entry) (c : Controller) → restart doc k p h ≡ start k 4 p h → ControllerStands doc p (start k 4 p h) c → Restarted doc k p h c true
restarted-starts doc k p h c is s =
    let q = identity p (starts p h + 1) in
    let same : starts p h + 1 ≡ c.incarnation = sym (s.incarnation ∙ starts-start k 4 q h) in
    record {
      stands = subst (λ g. ControllerStands doc p g c) (sym is) s;
      told = ap printed is ∙ ap (λ n. printed h ++ deeds_of k (actor_of (identity p n)) (Some act.Start)) same;
    }

-- a start that a history counts fits
pub starts-few : (k step p : ℕ) (h : List Entry) → IsFew (start k step p h) → starts p h + 1 < 2 ^ 32
starts-few k step p h few = subst (λ n. n < 2 ^ 32) (starts-start k step (identity p (starts p h + 1)) h) (few.starts p)
