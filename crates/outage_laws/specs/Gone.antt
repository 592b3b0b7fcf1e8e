-- When a tainted node's pods are gone. Source: Kubernetes, Taints and Tolerations; that the time counts from the whole second of the taint is
-- the profile's.
use Rattle.std.specs.Prelude.{◌≡◌, ◌⊎◌, ◌≤◌, ℕ, ℤ, pos, negsuc, suc, ◌+◌, ◌*◌, true, List, [], ◌∷◌, Option, Some, None}
use Rattle.kube_base.specs.declared.numbers.Version.{Version}
use Rattle.kube_objects.specs.declared.call.Answer.TheVariants as answer
use Rattle.kube_objects.specs.declared.key.Key.{Key}
use Rattle.kube_objects.specs.declared.node.Node.{Node}
use Rattle.kube_objects.specs.declared.node.Taint.{Taint}
use Rattle.kube_objects.specs.declared.pod.Due.TheVariants.{Never}
use Rattle.kube_objects.specs.declared.pod.Pod.{Pod}
use Rattle.kube_objects.specs.declared.pod.Toleration.{Toleration}
use Rattle.kube_objects.specs.Document.{Doc, of_seconds, offset_millis}
use Rattle.kube_objects.specs.Entry.{Entry, Identity, Ticks, Delete, actor_of}
use Rattle.kube_objects.specs.Own.{ReleasesByStop, EvictsByOwn}
use Rattle.kube_objects.specs.Seen.{is_pod}
use Rattle.kube_objects.specs.Tick.{new_taint}
use Rattle.kube_objects.specs.Tolerations.{first_tolerating, taint_due}
use Rattle.history.specs.Evictions.{stored_node, stored_pod, after_turn}
use Rattle.history.specs.History.{history}
use Rattle.history_laws.specs.Tails.{IsTail}
use Rattle.span_laws.specs.Spans.{RunsAtLeast, RunsAtMost, IsEnough, IsNeeded}
use Rattle.outage_laws.specs.Attended.{IsAttended}

-- a time of day that is moved back stays above zero, as in every document that is read
abbrev pub IsMoved : ℤ → ℕ → Type 0
IsMoved (pos millis) epoch = Unit {0}
IsMoved (negsuc millis) epoch = (millis + 1) * 1000 ≤ epoch

abbrev pub IsDated : Doc → ℕ → Type 0
IsDated doc p = IsMoved (offset_millis doc p) doc.settings.epoch.0

abbrev pub IsAmong : Taint → List Taint → Type 0
IsAmong x [] = ⊥
IsAmong x (y ∷ ys) = (x ≡ y) ⊎ IsAmong x ys

-- for how many seconds a taint is tolerated: with no toleration for none, and without an end where the toleration has no seconds
abbrev pub seconds_of : Option ℤ → Option ℕ
seconds_of None = None
seconds_of (Some (pos seconds)) = Some seconds
seconds_of (Some (negsuc seconds)) = Some 0

abbrev pub tolerated_for : Option Toleration → Option ℕ
tolerated_for None = Some 0
tolerated_for (Some toleration) = seconds_of toleration.seconds

-- a pod is stored, and so is its node with a taint that q added at beat t, which the pod tolerates for so many seconds
pub record IsDoomed (doc : Doc) (q : Identity) (t seconds : ℕ) (key : Key) (h : List Entry) : Type 0 where
  pub pod : Version × Pod
  pub node : Version × Node
  pub wanted : ℕ
  pub has_pod : stored_pod key h ≡ Some pod
  pub has_node : stored_node pod.1.node h ≡ Some node
  pub tainted : IsAmong (new_taint doc t q wanted) node.1.taints
  pub tolerated : tolerated_for (first_tolerating pod.1.tolerations (new_taint doc t q wanted)) ≡ Some seconds

-- no other taint of the node counts for the pod
abbrev pub IsAlone : Doc → Identity → ℕ → ℕ → Pod → List Taint → Type 0
IsAlone doc q t wanted pod taints = (other : Taint) → IsAmong other taints → (other ≡ new_taint doc t q wanted) ⊎ (taint_due pod.tolerations other ≡ Never)

-- with the project's own rules, after the turn of an attended beat that comes so many beats after the taint as are enough for the seconds, the pod
-- is gone
abbrev pub PodsGo : Type 0
PodsGo =
    (doc : Doc) → ReleasesByStop doc → EvictsByOwn doc → (q : Identity) (t k seconds slow enough : ℕ) → IsDated doc q.process → IsAttended doc q k → RunsAtLeast doc q.process t k slow → IsEnough slow (of_seconds seconds) enough → t + enough ≤ k
    → (key : Key) → is_pod key.kind ≡ true → IsDoomed doc q t seconds key (after_turn doc q.process k) → ⊥

-- and q deletes it no sooner than so many beats after the taint as are needed for one second less, and for more than that
abbrev pub PodsStay : Type 0
PodsStay =
    (doc : Doc) → EvictsByOwn doc → (q : Identity) (t seconds end : ℕ) (e : Entry) (before : List Entry) → IsTail (e ∷ before) (history doc end) → t ≤ e.beat
    → (key : Key) (given node_given version : Version) (due : ℕ) → e.actor ≡ actor_of q → e.fact ≡ Ticks (Delete key given node_given due (Some (answer.Done version)))
    → (doomed : IsDoomed doc q t (suc seconds) key before) → IsAlone doc q t doomed.wanted doomed.pod.1 doomed.node.1.taints
    → (fast needed : ℕ) → RunsAtMost doc q.process t e.beat fast → IsNeeded fast (of_seconds seconds + 1) needed → t + needed ≤ e.beat
