-- What came of the pod that was judged last is right of each pod on its node with equal tolerations.
use Rattle.std.specs.Prelude.{◌≡◌, List, Option, Some, None, map}
use Rattle.kube_base.specs.declared.numbers.Version.{Version}
use Rattle.kube_objects.specs.declared.node.Node.{Node}
use Rattle.kube_objects.specs.declared.pod.Bears.{Bears}
use Rattle.kube_objects.specs.declared.pod.Due.{Due}
use Rattle.kube_objects.specs.Entry.{Entry, Identity}
use Rattle.kube_objects.specs.Seen.{seen_node}
use Rattle.kube_objects.specs.Sightings.{bears}
use Rattle.kube_objects.specs.Tolerations.{least_due, taint_due}
use Rattle.taint_match.specs.Bearing.{IsBounded}
use Rattle.term_state.specs.declared.last.Last.{Last}

abbrev pub AreDue : Identity → List Entry → Option (Last × Due) → Type 0
AreDue q h None = Unit {0}
AreDue q h (Some x) = (y : Version × Node) → seen_node q x.0.node h ≡ Some y → x.1 ≡ least_due (map (taint_due x.0.given) y.1.taints)

abbrev pub AreBorne : Identity → List Entry → Option (Last × Bears) → Type 0
AreBorne q h None = Unit {0}
AreBorne q h (Some x) = (y : Version × Node) → seen_node q x.0.node h ≡ Some y → x.1 ≡ bears x.0.given y.1.taints

abbrev pub AreBounded : Option (Last × Bears) → Type 0
AreBounded None = Unit {0}
AreBounded (Some x) = IsBounded x.1
