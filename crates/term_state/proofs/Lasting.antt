-- What came of the pod that was judged last, where another one is as it.
use Rattle.std.proofs.Common.{◌≡◌, ◌∙◌, List, Some, Result, Ok, Err, IfOk, sym, ap, map}
use Rattle.kube_base.specs.declared.numbers.Version.{Version}
use Rattle.kube_objects.specs.declared.node.Node.{Node}
use Rattle.kube_objects.specs.declared.pod.Bears.{Bears}
use Rattle.kube_objects.specs.declared.pod.Due.{Due}
use Rattle.kube_objects.specs.declared.pod.Pod.{Pod}
use Rattle.kube_objects.specs.Entry.{Entry, Identity}
use Rattle.kube_objects.specs.Seen.{seen_node}
use Rattle.kube_objects.specs.Sightings.{bears}
use Rattle.kube_objects.specs.Tolerations.{due, least_due, taint_due}
use Rattle.history_laws.proofs.Plainly.{some_is}
use Rattle.term_state.specs.declared.last.Last.{Last}
use Rattle.term_state.specs.Lasts.{AreBorne, AreDue}

pub if_ok_weaker : {A E : Type 0} (P Q : A → Type 0) (r : Result A E) → ((x : A) → P x → Q x) → IfOk r P → IfOk r Q
if_ok_weaker P Q (Ok x) f p = f x p
if_ok_weaker P Q (Err e) f p = tt

-- the last pod has the same
pub due_of_last : (q : Identity) (h : List Entry) (version : Version) (node : Node) (pod : Pod) (last : Last) (found : Due) → AreDue q h (Some (last, found)) → seen_node q pod.node h ≡ Some (version, node)
    → last.node ≡ pod.node → last.given ≡ pod.tolerations → found ≡ due pod node
due_of_last q h version node pod last found right sees same given =
    right (version, node) (ap (λ n. seen_node q n h) same ∙ sees) ∙ ap (λ ts. least_due (map (taint_due ts) node.taints)) given

pub borne_of_last : (q : Identity) (h : List Entry) (version : Version) (node : Node) (pod : Pod) (last : Last) (found : Bears) → AreBorne q h (Some (last, found)) → seen_node q pod.node h ≡ Some (version, node)
    → last.node ≡ pod.node → last.given ≡ pod.tolerations → found ≡ bears pod.tolerations node.taints
borne_of_last q h version node pod last found right sees same given =
    right (version, node) (ap (λ n. seen_node q n h) same ∙ sees) ∙ ap (λ ts. bears ts node.taints) given

-- and this one becomes the last
pub last_of_due : (q : Identity) (h : List Entry) (version : Version) (node : Node) (pod : Pod) (last : Last) (found : Due) → found ≡ due pod node → seen_node q pod.node h ≡ Some (version, node)
    → last.node ≡ pod.node → last.given ≡ pod.tolerations → AreDue q h (Some (last, found))
last_of_due q h version node pod last found is sees same given y sees_last =
    let node_is : (version, node) ≡ y = some_is (version, node) y (sym sees ∙ ap (λ n. seen_node q n h) (sym same) ∙ sees_last) in
    is ∙ ap (λ ts. least_due (map (taint_due ts) node.taints)) (sym given) ∙ ap (λ (x : Version × Node). least_due (map (taint_due last.given) x.1.taints)) node_is

pub last_of_borne : (q : Identity) (h : List Entry) (version : Version) (node : Node) (pod : Pod) (last : Last) (found : Bears) → found ≡ bears pod.tolerations node.taints
    → seen_node q pod.node h ≡ Some (version, node) → last.node ≡ pod.node → last.given ≡ pod.tolerations → AreBorne q h (Some (last, found))
last_of_borne q h version node pod last found is sees same given y sees_last =
    let node_is : (version, node) ≡ y = some_is (version, node) y (sym sees ∙ ap (λ n. seen_node q n h) (sym same) ∙ sees_last) in
    is ∙ ap (λ ts. bears ts node.taints) (sym given) ∙ ap (λ (x : Version × Node). bears last.given x.1.taints) node_is
