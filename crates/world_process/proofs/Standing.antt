-- A controller that changed its role stands for a history that started nothing since.
use Rattle.std.proofs.Common.{◌≡◌, ℕ, ◌+◌, List, [], ◌∷◌, Some, sym, ap, ◌∙◌, subst}
use Rattle.std.specs.Box.{with_value}
use Rattle.kube_objects.specs.Document.{Doc}
use Rattle.kube_objects.specs.Entry.{Entry, Identity}
use Rattle.kube_objects.specs.Identities.{identity}
use Rattle.kube_objects.specs.Process.{alive, starts}
use Rattle.history.specs.Steps.{start}
use Rattle.controller_core.specs.declared.term.Term.{Term}
use Rattle.leader_elector.specs.declared.candidate.Candidate.{Candidate}
use Rattle.leader_elector.specs.Stands.{CandidateStands, IsNew}
use Rattle.leader_elector.proofs.Frames.{new-empty, new-foreign}
use Rattle.world_process.specs.declared.controller.Controller.{Controller}
use Rattle.world_process.specs.declared.controller.Role.{Role}
use Rattle.world_process.specs.declared.controller.Role.TheVariants as role
use Rattle.world_process.specs.Controllers.{RoleStands, ControllerStands}
use Rattle.world_process.specs.OwnTerm.{OwnsTerm}
use Rattle.world_process.specs.Plain.{IsUnheard}
use Rattle.world_process.proofs.Lives.{alive-start}
use Rattle.world_process.proofs.OwnTerm.{KeepsTerm}
use Rattle.world_process.proofs.Plainly.{starts-start}

pub stands-role : (doc : Doc) (p : ℕ) (h g : List Entry) (c : Controller) (r : Role) → ControllerStands doc p h c → starts p g ≡ starts p h → KeepsTerm doc p h g → RoleStands doc p c.incarnation g r → ControllerStands doc p g (record c { role = r })
stands-role doc p h g c r s same keeps stands =
    record { sort = s.sort; me = s.me; incarnation = s.incarnation ∙ sym same; timing = s.timing; waits = s.waits; clock = s.clock; up_first = s.up_first; pauses = s.pauses; waking = s.waking; term = keeps c.term.value s.term; role = stands }

-- with another term
pub stands-with : (doc : Doc) (p : ℕ) (h g : List Entry) (c : Controller) (r : Role) (t : Term) → ControllerStands doc p h c → starts p g ≡ starts p h → OwnsTerm doc p g t → RoleStands doc p c.incarnation g r
    → ControllerStands doc p g (record c { role = r; term = with_value c.term t })
stands-with doc p h g c r t s same owns stands =
    record { sort = s.sort; me = s.me; incarnation = s.incarnation ∙ sym same; timing = s.timing; waits = s.waits; clock = s.clock; up_first = s.up_first; pauses = s.pauses; waking = s.waking; term = owns; role = stands }

-- a state's relation makes a role's, where the process is up
abbrev pub Makes : Doc → ℕ → ℕ → (List Entry → Type 0) → Role → Type 0
Makes doc p i Stands r = (g : List Entry) → alive p g ≡ Some i → Stands g → RoleStands doc p i g r

pub role-at : (doc : Doc) (p : ℕ) (h : List Entry) (c : Controller) (r : Role) → ControllerStands doc p h c → c.role ≡ r → RoleStands doc p c.incarnation h r
role-at doc p h c r s is = subst (λ x. RoleStands doc p c.incarnation h x) is s.role

pub new-unheard : (doc : Doc) (q : Identity) (h : List Entry) → IsUnheard q h → IsNew doc q h
new-unheard doc q [] u = new-empty doc q
new-unheard doc q (e ∷ h) u = new-foreign doc q e h u.0 (new-unheard doc q h u.1)

-- a controller that has started
pub stands-started : (doc : Doc) (k step p i : ℕ) (h : List Entry) (c : Controller) (x : Candidate) (t : Term) → ControllerStands doc p h c → i ≡ starts p h + 1 → CandidateStands doc (identity p (starts p h + 1)) (start k step p h) x →
    OwnsTerm doc p (start k step p h) t → ControllerStands doc p (start k step p h) (record c { incarnation = i; role = role.Candidate x; term = with_value c.term t })
stands-started doc k step p i h c x t s is stands owns =
    record {
      sort = s.sort;
      me = s.me;
      incarnation = is ∙ sym (starts-start k step (identity p (starts p h + 1)) h);
      timing = s.timing;
      waits = s.waits;
      clock = s.clock;
      up_first = s.up_first;
      pauses = s.pauses;
      waking = s.waking;
      term = owns;
      role = (alive-start k step (identity p (starts p h + 1)) h ∙ ap (λ (n : ℕ). Some n) (sym is), subst (λ n. CandidateStands doc (identity p n) (start k step p h) x) (sym is) stands);
    }
