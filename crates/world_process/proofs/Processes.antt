-- Every process through entries of others, and what is known of each.
use Rattle.std.proofs.Common.{◌≡◌, ℕ, false, List, ◌∷◌, Option, Some, None, is_some}
use Rattle.kube_base.specs.declared.numbers.Version.{Version}
use Rattle.kube_objects.specs.declared.call.Reply.{Reply}
use Rattle.kube_objects.specs.declared.key.Key.{Key}
use Rattle.kube_objects.specs.declared.object.Object.{Object}
use Rattle.kube_objects.specs.declared.script.What.{What}
use Rattle.kube_objects.specs.Document.{Doc, is_up_first}
use Rattle.kube_objects.specs.Entry.{Entry, Identity, Call, Fact, Event, Answers, Stalls, entry, script_entry}
use Rattle.kube_objects.specs.Newest.{when}
use Rattle.kube_objects.specs.Process.{alive, cancels, starts}
use Rattle.history.specs.History.{put_all}
use Rattle.kubelet_node.specs.declared.kubelet.Kubelet as rounds
use Rattle.world_process.specs.declared.controller.Role.{Role}
use Rattle.world_process.specs.declared.controller.Role.TheVariants as role
use Rattle.world_process.specs.declared.process.Process.{Process}
use Rattle.world_process.specs.declared.process.Process.TheVariants.{Controller, Kubelet}
use Rattle.world_process.specs.Controllers.{RoleStands, is_up_as}
use Rattle.world_process.specs.Kubelets.{RoundsStand}
use Rattle.world_process.specs.Processes.{ProcessStands, me_of, incarnation_of, is_up_first_as}
use Rattle.world_process.proofs.Beside.{controller-others, controller-answered, controller-stalled}
use Rattle.world_process.proofs.Kubelets.{kubelet-others, kubelet-answered, kubelet-stalled, kubelet-put_all, kubelet-event}
use Rattle.world_process.proofs.Lives.{is_event}
use Rattle.world_process.proofs.Scripted.{controller-put_all, controller-event}

-- ---- what is known of each

pub process-me : (doc : Doc) (p : ℕ) (h : List Entry) (x : Process) → ProcessStands doc p h x → (me_of x).0 ≡ p
process-me doc p h (Controller c) s = s.me
process-me doc p h (Kubelet b) s = s.me

pub process-incarnation : (doc : Doc) (p : ℕ) (h : List Entry) (x : Process) → ProcessStands doc p h x → incarnation_of x ≡ starts p h
process-incarnation doc p h (Controller c) s = s.incarnation
process-incarnation doc p h (Kubelet b) s = s.incarnation

pub process-up_first : (doc : Doc) (p : ℕ) (h : List Entry) (x : Process) → ProcessStands doc p h x → is_up_first_as x ≡ is_up_first doc p
process-up_first doc p h (Controller c) s = s.up_first
process-up_first doc p h (Kubelet b) s = s.up_first

-- the incarnation in which it is up
pub role-up : (doc : Doc) (p i : ℕ) (h : List Entry) (r : Role) → RoleStands doc p i h r → alive p h ≡ when (is_up_as r) i
role-up doc p i h (role.Down at) s = s.0
role-up doc p i h (role.Candidate x) s = s.0
role-up doc p i h (role.Leading x) s = s.0
role-up doc p i h (role.Releasing x) s = s.0

pub rounds-up : (doc : Doc) (p i : ℕ) (h : List Entry) (r : Option rounds.Kubelet) → RoundsStand doc p i h r → alive p h ≡ when (is_some r) i
rounds-up doc p i h None s = s
rounds-up doc p i h (Some x) s = s.0

-- ---- entries of others

pub process-others : (doc : Doc) (p k step : ℕ) (q : Identity) (d : Fact) (h : List Entry) (x : Process) → ¬ (q.process ≡ p) → is_event d ≡ false → ProcessStands doc p h x → ProcessStands doc p (entry k step q d ∷ h) x
process-others doc p k step q d h (Controller c) other own s = controller-others doc p k step q d h c other own s
process-others doc p k step q d h (Kubelet b) other own s = kubelet-others doc p k step q d h b other s

pub process-answered : (doc : Doc) (p k step : ℕ) (q : Identity) (call : Call) (reply : Reply) (comes : Option ℕ) (written : Option Object) (h : List Entry) (x : Process) → ProcessStands doc p h x →
    ProcessStands doc p (entry k step q (Answers call reply comes written) ∷ h) x
process-answered doc p k step q call reply comes written h (Controller c) s = controller-answered doc p k step q call reply comes written h c s
process-answered doc p k step q call reply comes written h (Kubelet b) s = kubelet-answered doc p k step q call reply comes written h b s

pub process-stalled : (doc : Doc) (p k step beats : ℕ) (q : Identity) (h : List Entry) (x : Process) → ProcessStands doc p h x → ProcessStands doc p (entry k step q (Stalls beats) ∷ h) x
process-stalled doc p k step beats q h (Controller c) s = controller-stalled doc p k step beats q h c s
process-stalled doc p k step beats q h (Kubelet b) s = kubelet-stalled doc p k step beats q h b s

pub process-put_all : (doc : Doc) (p : ℕ) (items : List (Key × Object)) (h : List Entry) (x : Process) → ProcessStands doc p h x → ProcessStands doc p (put_all doc items h) x
process-put_all doc p items h (Controller c) s = controller-put_all doc p items h c s
process-put_all doc p items h (Kubelet b) s = kubelet-put_all doc p items h b s

pub process-event : (doc : Doc) (p k step : ℕ) (event : What) (version : Option Version) (h : List Entry) (x : Process) → cancels doc p k event ≡ false → ProcessStands doc p h x → ProcessStands doc p (script_entry k step (Event event version) ∷ h) x
process-event doc p k step event version h (Controller c) other s = controller-event doc p k step event version h c other s
process-event doc p k step event version h (Kubelet b) other s = kubelet-event doc p k step event version h b s
