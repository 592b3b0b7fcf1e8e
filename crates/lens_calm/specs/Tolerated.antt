-- For how many seconds a document's pods tolerate the taint of a node that isn't heard of. Source: Kubernetes, Taints and Tolerations.
use Rattle.std.specs.List.{list_any}
use Rattle.std.specs.Prelude.{ℕ, ◌==◌, Bool, true, false, List, [], ◌∷◌, ◌++◌, Option, Some, None}
use Rattle.kube_objects.specs.declared.key.Key.{Key}
use Rattle.kube_objects.specs.declared.node.Effect.TheVariants.{NoExecute}
use Rattle.kube_objects.specs.declared.node.Taint.{Taint}
use Rattle.kube_objects.specs.declared.object.Object.{Object}
use Rattle.kube_objects.specs.declared.object.Object.TheVariants as object
use Rattle.kube_objects.specs.declared.script.Event.{Event}
use Rattle.kube_objects.specs.declared.script.What.{What}
use Rattle.kube_objects.specs.declared.script.What.TheVariants.{Rate, Delay, Loss, Crash, Start, Stop, Watch, Ready, Pause, Stall, Put, Remove}
use Rattle.kube_objects.specs.Tainting.{unreachable}
use Rattle.kube_objects.specs.Tolerations.{first_tolerating}
use Rattle.outage_laws.specs.Gone.{tolerated_for}

-- when it was added decides nothing of who tolerates it
abbrev pub outage_taint : Taint
outage_taint = record { key = unreachable; value = 0; effect = NoExecute; added = None }

-- none also where a pod tolerates it without an end
abbrev pub time_of : Object → Option ℕ
time_of (object.Node node) = None
time_of (object.Lease lease) = None
time_of (object.Pod pod) = tolerated_for (first_tolerating pod.tolerations outage_taint)

abbrev pub is_known : List ℕ → ℕ → Bool
is_known times seconds = list_any (λ t. t == seconds) times

abbrev pub with_new : Bool → List ℕ → ℕ → List ℕ
with_new true times seconds = times
with_new false times seconds = times ++ seconds ∷ []

-- each time once, in the order in which they come
abbrev pub with_time : List ℕ → Option ℕ → List ℕ
with_time times None = times
with_time times (Some seconds) = with_new (is_known times seconds) times seconds

abbrev pub with_objects : List ℕ → List (Key × Object) → List ℕ
with_objects times [] = times
with_objects times (x ∷ xs) = with_objects (with_time times (time_of x.1)) xs

abbrev pub time_put : What → Option ℕ
time_put (Rate id ppm) = None
time_put (Delay id requests replies) = None
time_put (Loss id requests replies) = None
time_put (Crash id) = None
time_put (Start id) = None
time_put (Stop id) = None
time_put (Watch id on) = None
time_put (Ready id status) = None
time_put (Pause id beats) = None
time_put (Stall beats) = None
time_put (Put key object) = time_of object
time_put (Remove key) = None

abbrev pub with_events : List ℕ → List Event → List ℕ
with_events times [] = times
with_events times (e ∷ es) = with_events (with_time times (time_put e.what)) es

-- those of the objects, and of what events put
abbrev pub times : List (Key × Object) → List Event → List ℕ
times objects events = with_events (with_objects [] objects) events
