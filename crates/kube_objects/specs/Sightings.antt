-- When a pod is due by what a term has seen of it: its seconds count from the tick that first saw that it tolerates its node's taints for
-- so long. Source: Kubernetes 1.20, the taint manager, `processPodOnNode` and its `TimedWorkerQueue`, which doesn't move a timer that runs.
use Rattle.std.specs.Prelude.{ℕ, ℤ, ◌+◌, ◌==◌, ◌&&◌, not, min, Bool, true, false, List, [], ◌∷◌, Option, Some, None}
use Rattle.kube_base.specs.declared.numbers.Version.{Version}
use Rattle.kube_objects.specs.declared.deed.Actor.{Actor}
use Rattle.kube_objects.specs.declared.key.Key.{Key}
use Rattle.kube_objects.specs.declared.node.Node.{Node}
use Rattle.kube_objects.specs.declared.node.Taint.{Taint}
use Rattle.kube_objects.specs.declared.pod.Bears.{Bears}
use Rattle.kube_objects.specs.declared.pod.Bears.TheVariants.{Untainted, NotAtAll, Ever, For}
use Rattle.kube_objects.specs.declared.pod.Due.{Due}
use Rattle.kube_objects.specs.declared.pod.Due.TheVariants.{Never, At}
use Rattle.kube_objects.specs.declared.pod.Pod.{Pod}
use Rattle.kube_objects.specs.declared.pod.Toleration.{Toleration}
use Rattle.kube_objects.specs.Clocks.{wall}
use Rattle.kube_objects.specs.Document.{Doc}
use Rattle.kube_objects.specs.Entry.{Entry, Identity, Fact, Ticks}
use Rattle.kube_objects.specs.Identities.{is_by}
use Rattle.kube_objects.specs.Newest.{newest, when, only_if, or_else}
use Rattle.kube_objects.specs.Seen.{seen_node, seen_pod}
use Rattle.kube_objects.specs.Stamps.{is_no_execute}
use Rattle.kube_objects.specs.Tainting.{before_tick}
use Rattle.kube_objects.specs.Tolerations.{first_tolerating, seconds_micros}

-- ---- how long a pod bears its node's taints

abbrev pub bears_for : Option ℤ → Bears
bears_for None = Ever
bears_for (Some seconds) = For (seconds_micros seconds)

-- by the toleration that counts
abbrev pub bears_by : Option Toleration → Bears
bears_by None = NotAtAll
bears_by (Some toleration) = bears_for toleration.seconds

abbrev pub shorter : Bears → Bears → Bears
shorter Untainted other = other
shorter NotAtAll other = NotAtAll
shorter Ever Untainted = Ever
shorter Ever other = other
shorter (For one) NotAtAll = NotAtAll
shorter (For one) (For other) = For (min one other)
shorter (For one) other = For one

abbrev pub bears_taint : List Toleration → Taint → Bool → Bears
bears_taint tolerations taint false = Untainted
bears_taint tolerations taint true = bears_by (first_tolerating tolerations taint)

abbrev pub bears : List Toleration → List Taint → Bears
bears tolerations [] = Untainted
bears tolerations (taint ∷ taints) = shorter (bears_taint tolerations taint (is_no_execute taint.effect)) (bears tolerations taints)

-- ---- rows: a pod that must go, and doesn't go at once, has one from the tick that saw so

-- a pod whose node isn't seen, or that names none, says nothing
abbrev pub bears_on : Pod → Option (Version × Node) → Option Bears
bears_on pod None = None
bears_on pod (Some y) = Some (bears pod.tolerations y.1.taints)

abbrev pub sighted_pod : Identity → Option (Version × Pod) → List Entry → Option Bears
sighted_pod q None h = Some Untainted
sighted_pod q (Some x) h = bears_on x.1 (seen_node q x.1.node h)

abbrev pub sight : Identity → Key → List Entry → Option Bears
sight q pod h = sighted_pod q (seen_pod q pod h) h

abbrev pub is_own_tick : Identity → Actor → Fact → Bool
is_own_tick q who (Ticks tick) = is_by q who
is_own_tick q who _ = false

-- what the term's ticks have last seen of a pod; it changes with entries of ticks alone
abbrev pub last_sight : Identity → Key → List Entry → Bears
last_sight q pod h = or_else Untainted (newest (λ e T. only_if (is_own_tick q e.actor e.fact) (sight q pod (e ∷ T))) h)

-- whether both are of one row
abbrev pub is_one_row : Bears → Bears → Bool
is_one_row NotAtAll NotAtAll = true
is_one_row (For one) (For other) = true
is_one_row _ _ = false

-- whether a tick began the row of what is seen now: before it there was another one, or none
abbrev pub begins_row : Identity → Key → Bears → ℕ → Actor → Fact → List Entry → Bool
begins_row q pod now k who fact h = is_own_tick q who fact && not (is_one_row now (last_sight q pod (before_tick q k h)))

abbrev pub row_at : Identity → Key → Bears → List Entry → Option (ℕ × Bears)
row_at q pod Untainted h = None
row_at q pod Ever h = None
row_at q pod now h = newest (λ e T. when (begins_row q pod now e.beat e.actor e.fact T) (e.beat, last_sight q pod (e ∷ T))) h

-- the beat of the first tick of a pod's row, and how long the pod bore the taints then
abbrev pub row : Identity → Key → List Entry → Option (ℕ × Bears)
row q pod h = row_at q pod (last_sight q pod h) h

-- ---- due

abbrev pub micros_of : Bears → ℕ
micros_of (For micros) = micros
micros_of _ = 0

abbrev pub due_in_row : Doc → Identity → Option (ℕ × Bears) → Due
due_in_row doc q None = Never
due_in_row doc q (Some x) = At (wall doc q.process x.0 + micros_of x.1)

-- when a pod is due by its row, also where its node is gone since
abbrev pub sighted_due : Doc → Identity → Key → List Entry → Due
sighted_due doc q pod h = due_in_row doc q (row q pod h)
