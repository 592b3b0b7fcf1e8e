-- The taints of a node are all that a pod's due reads of it.
use Rattle.std.proofs.Common.{◌≡◌, ◌∙◌, ℕ, ◌||◌, not, Bool, true, false, List, [], Option, Some, None, map, refl, sym, ap}
use Rattle.std.proofs.lemmas.Bool.{eq-eqb}
use Rattle.kube_base.specs.declared.numbers.Version.{Version}
use Rattle.kube_objects.specs.declared.key.Key.{Key}
use Rattle.kube_objects.specs.declared.node.Node.{Node}
use Rattle.kube_objects.specs.declared.node.Taint.{Taint}
use Rattle.kube_objects.specs.declared.object.Object.{Object}
use Rattle.kube_objects.specs.declared.object.Object.TheVariants as object
use Rattle.kube_objects.specs.declared.pod.Pod.{Pod}
use Rattle.kube_objects.specs.Answers.{as_kind, node_in, versioned}
use Rattle.kube_objects.specs.Entry.{Entry, Identity}
use Rattle.kube_objects.specs.Seen.{is_pod, is_stale, seen, seen_node, seen_pod}
use Rattle.kube_objects.specs.Stored.{Held, node_key}
use Rattle.kube_objects.specs.Tolerations.{least_due, taint_due}
use Rattle.tick_laws.specs.Judged.{due_as, due_on, seen_due, shown}
use Rattle.watch_cache.specs.Kept.{is_on, kept}
use Rattle.watch_cache.specs.TaintChanges.{taints_in}

abbrev pub node_taints : Option (Version × Node) → List Taint
node_taints None = []
node_taints (Some x) = x.1.taints

seen_taints : (o : Option Held) → node_taints (as_kind node_in o) ≡ taints_in (kept o)
seen_taints None = refl
seen_taints (Some x) = by_object x.object
  where
    by_object : (y : Object) → node_taints (versioned x.version (node_in y)) ≡ taints_in (Some (x.version, y))
    by_object (object.Node node) = refl
    by_object (object.Lease lease) = refl
    by_object (object.Pod pod) = refl

pub node_shown : (q : Identity) (name : ℕ) (h : List Entry) → node_taints (seen_node q name h) ≡ taints_in (shown q (node_key name) h)
node_shown q name h = seen_taints (seen q (node_key name) h)

due_of_taints : (pod : Pod) (o : Option (Version × Node)) → due_on pod o ≡ least_due (map (taint_due pod.tolerations) (node_taints o))
due_of_taints pod None = refl
due_of_taints pod (Some x) = refl

-- a pod that is seen as before and isn't stale is due as before, where its node has the same taints
pub due_retained : (q : Identity) (key : Key) (h g : List Entry) → seen_pod q key g ≡ seen_pod q key h → is_stale q key g ≡ is_stale q key h
    → ((name : ℕ) → is_on name (seen_pod q key h) ≡ true → taints_in (shown q (node_key name) g) ≡ taints_in (shown q (node_key name) h)) → seen_due q key g ≡ seen_due q key h
due_retained q key h g pods stale taints =
    ap (λ b. due_as q (not (is_pod key.kind) || b) (seen_pod q key g) g) stale
    ∙ ap (λ o. due_as q (not (is_pod key.kind) || is_stale q key h) o g) pods
    ∙ by_stale (not (is_pod key.kind) || is_stale q key h) (seen_pod q key h) taints
  where
    by_stale : (b : Bool) (o : Option (Version × Pod)) → ((name : ℕ) → is_on name o ≡ true → taints_in (shown q (node_key name) g) ≡ taints_in (shown q (node_key name) h)) → due_as q b o g ≡ due_as q b o h
    by_stale true o taints = refl
    by_stale false None taints = refl
    by_stale false (Some x) taints =
        due_of_taints x.1 (seen_node q x.1.node g)
        ∙ ap (λ ts. least_due (map (taint_due x.1.tolerations) ts)) (node_shown q x.1.node g ∙ taints x.1.node (eq-eqb x.1.node x.1.node refl) ∙ sym (node_shown q x.1.node h))
        ∙ sym (due_of_taints x.1 (seen_node q x.1.node h))
