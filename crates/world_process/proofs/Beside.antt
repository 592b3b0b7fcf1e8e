-- A controller stands beside entries of others.
use Rattle.std.proofs.Common.{◌≡◌, ℕ, true, false, List, ◌∷◌, Option, refl, sym, ap, ◌∙◌}
use Rattle.kube_objects.specs.declared.call.Reply.{Reply}
use Rattle.kube_objects.specs.declared.object.Object.{Object}
use Rattle.kube_objects.specs.Document.{Doc}
use Rattle.kube_objects.specs.Entry.{Entry, Identity, Call, Fact, Answers, Stalls, entry}
use Rattle.kube_objects.specs.Identities.{identity, is_by}
use Rattle.kube_objects.specs.Process.{alive, ended, starts}
use Rattle.leader_elector.specs.Moves.{is_of_elector}
use Rattle.leader_elector.proofs.Frames.{candidate-foreign, leading-foreign, releasing-foreign, candidate-quiet, leading-quiet, releasing-quiet}
use Rattle.world_process.specs.declared.controller.Controller.{Controller}
use Rattle.world_process.specs.declared.controller.Role.{Role}
use Rattle.world_process.specs.declared.controller.Role.TheVariants as role
use Rattle.world_process.specs.Controllers.{RoleStands, ControllerStands, restart_reading}
use Rattle.world_process.specs.OwnTerm.{is_beside}
use Rattle.world_process.proofs.Lives.{is_event, alive-others, ended-others, starts-others}
use Rattle.world_process.proofs.Names.{of_process-other, is_same-apart, is_same-other}
use Rattle.world_process.proofs.OwnTerm.{keeps-beside, keeps-others}
use Rattle.world_process.proofs.Standing.{stands-role}
use Rattle.world_process.proofs.Terms.{leads-kept}

-- an entry that leaves the life as it is, and is by another identity
role-beside : (doc : Doc) (p i : ℕ) (e : Entry) (h : List Entry) (r : Role) → alive p (e ∷ h) ≡ alive p h → ended doc p (e ∷ h) ≡ ended doc p h → is_by (identity p i) e.actor ≡ false → RoleStands doc p i h r → RoleStands doc p i (e ∷ h) r
role-beside doc p i e h (role.Down at) lives ends other s = (lives ∙ s.0, s.1 ∙ ap (restart_reading doc p) (sym ends))
role-beside doc p i e h (role.Candidate x) lives ends other s = (lives ∙ s.0, candidate-foreign doc (identity p i) e h x other s.1)
role-beside doc p i e h (role.Leading x) lives ends other s = (lives ∙ s.0, leading-foreign doc (identity p i) e h x other s.1)
role-beside doc p i e h (role.Releasing x) lives ends other s = (lives ∙ s.0, releasing-foreign doc (identity p i) e h x other s.1, leads-kept (identity p i) e h s.2)

-- another process's entry
pub controller-others : (doc : Doc) (p k step : ℕ) (q : Identity) (d : Fact) (h : List Entry) (c : Controller) → ¬ (q.process ≡ p) → is_event d ≡ false → ControllerStands doc p h c → ControllerStands doc p (entry k step q d ∷ h) c
controller-others doc p k step q d h c other own s =
    let e = entry k step q d in
    let apart = of_process-other q p other in
    stands-role doc p h (e ∷ h) c c.role s (starts-others p e h apart) (keeps-others doc p k step q d h other)
    (role-beside doc p c.incarnation e h c.role (alive-others p e h apart) (ended-others doc p e h own apart) (is_same-apart q (identity p c.incarnation) other) s.role)

-- an entry of another incarnation of the process, which leaves its life as it is
pub role-stranger : (doc : Doc) (p i j k step : ℕ) (d : Fact) (h : List Entry) (r : Role) → ¬ (j ≡ i) → is_event d ≡ false → ((g : List Entry) → alive p (entry k step (identity p j) d ∷ g) ≡ alive p g) → ((g : List Entry) → ended doc p (entry k step (identity p j) d ∷ g) ≡ ended doc p g) →
    RoleStands doc p i h r → RoleStands doc p i (entry k step (identity p j) d ∷ h) r
role-stranger doc p i j k step d h r other own lives ends s =
    role-beside doc p i (entry k step (identity p j) d) h r (lives h) (ends h) (is_same-other p j i other) s

-- an entry of a kind that an elector doesn't look at, whosever it is
pub role-quiet : (doc : Doc) (p i : ℕ) (e : Entry) (h : List Entry) (r : Role) → alive p (e ∷ h) ≡ alive p h → ended doc p (e ∷ h) ≡ ended doc p h → is_of_elector e.fact ≡ false → RoleStands doc p i h r → RoleStands doc p i (e ∷ h) r
role-quiet doc p i e h (role.Down at) lives ends quiet s = (lives ∙ s.0, s.1 ∙ ap (restart_reading doc p) (sym ends))
role-quiet doc p i e h (role.Candidate x) lives ends quiet s = (lives ∙ s.0, candidate-quiet doc (identity p i) e h x quiet s.1)
role-quiet doc p i e h (role.Leading x) lives ends quiet s = (lives ∙ s.0, leading-quiet doc (identity p i) e h x quiet s.1)
role-quiet doc p i e h (role.Releasing x) lives ends quiet s = (lives ∙ s.0, releasing-quiet doc (identity p i) e h x quiet s.1, leads-kept (identity p i) e h s.2)

pub controller-quiet : (doc : Doc) (p : ℕ) (e : Entry) (h : List Entry) (c : Controller) → alive p (e ∷ h) ≡ alive p h → ended doc p (e ∷ h) ≡ ended doc p h → starts p (e ∷ h) ≡ starts p h → is_beside e.fact ≡ true → is_of_elector e.fact ≡ false →
    ControllerStands doc p h c → ControllerStands doc p (e ∷ h) c
controller-quiet doc p e h c lives ends count beside quiet s =
    stands-role doc p h (e ∷ h) c c.role s count (keeps-beside doc p e h beside) (role-quiet doc p c.incarnation e h c.role lives ends quiet s.role)

-- an answer of the store
pub controller-answered : (doc : Doc) (p k step : ℕ) (q : Identity) (call : Call) (reply : Reply) (comes : Option ℕ) (written : Option Object) (h : List Entry) (c : Controller) → ControllerStands doc p h c →
    ControllerStands doc p (entry k step q (Answers call reply comes written) ∷ h) c
controller-answered doc p k step q call reply comes written h c s = controller-quiet doc p (entry k step q (Answers call reply comes written)) h c refl refl refl refl refl s

-- an entry of a pause
pub controller-stalled : (doc : Doc) (p k step beats : ℕ) (q : Identity) (h : List Entry) (c : Controller) → ControllerStands doc p h c → ControllerStands doc p (entry k step q (Stalls beats) ∷ h) c
controller-stalled doc p k step beats q h c s = controller-quiet doc p (entry k step q (Stalls beats)) h c refl refl refl refl refl s
