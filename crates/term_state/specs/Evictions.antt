-- What an eviction of a pod names.
use Rattle.std.specs.Prelude.{◌≡◌, List, Some, None}
use Rattle.kube_base.specs.declared.numbers.Version.{Version}
use Rattle.kube_objects.specs.declared.key.Key.{Key}
use Rattle.kube_objects.specs.declared.node.Node.{Node}
use Rattle.kube_objects.specs.declared.pod.Due.TheVariants.{At}
use Rattle.kube_objects.specs.declared.pod.Pod.{Pod}
use Rattle.kube_objects.specs.declared.rules.EvictRule.{EvictRule}
use Rattle.kube_objects.specs.declared.rules.EvictRule.TheVariants as evictions
use Rattle.kube_objects.specs.Document.{Doc}
use Rattle.kube_objects.specs.Entry.{Entry, Identity}
use Rattle.kube_objects.specs.Seen.{seen_node, seen_pod}
use Rattle.kube_objects.specs.Sightings.{sighted_due}
use Rattle.kube_objects.specs.Tolerations.{due}
use Rattle.term_state.specs.declared.eviction.Eviction.{Eviction}

-- the pod, its node and their versions are as they are seen, and the pod is due then
pub record IsEviction (q : Identity) (h : List Entry) (key : Key) (e : Eviction) : Type 0 where
  pub pod : Pod
  pub node : Node
  pub node_given : Version
  pub name : e.node ≡ Some (pod.node, node_given)
  pub sees_pod : seen_pod q key h ≡ Some (e.given, pod)
  pub sees_node : seen_node q pod.node h ≡ Some (node_given, node)
  pub at : due pod node ≡ At (e.due.0)

-- the pod and its version are as they are seen, and it is due then by its row
pub record IsRowEviction (doc : Doc) (q : Identity) (h : List Entry) (key : Key) (e : Eviction) : Type 0 where
  pub pod : Pod
  pub no_node : e.node ≡ None
  pub sees_pod : seen_pod q key h ≡ Some (e.given, pod)
  pub at : sighted_due doc q key h ≡ At (e.due.0)

abbrev pub IsEvictionBy : EvictRule → Doc → Identity → List Entry → Key → Eviction → Type 0
IsEvictionBy evictions.Added doc q h key e = IsEviction q h key e
IsEvictionBy evictions.Seen doc q h key e = IsRowEviction doc q h key e
