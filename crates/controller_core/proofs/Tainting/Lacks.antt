-- A node that wants a taint, and the node with it.
use Rattle.std.proofs.Common.{◌≡◌, ◌∙◌, ℕ, List, Some, sym, ap}
use Rattle.kube_base.specs.declared.numbers.Version.{Version}
use Rattle.kube_objects.specs.declared.node.Node.{Node}
use Rattle.kube_objects.specs.declared.node.Taint.{Taint}
use Rattle.kube_objects.specs.Clocks.{wall, whole_second}
use Rattle.kube_objects.specs.Document.{Doc}
use Rattle.kube_objects.specs.Entry.{Entry, Identity, Place}
use Rattle.kube_objects.specs.Modes.{mode}
use Rattle.kube_objects.specs.Seen.{seen_node}
use Rattle.kube_objects.specs.Tainting.{lacks, waits}
use Rattle.kube_objects.specs.Tick.{new_taint, tainted_with}
use Rattle.history_laws.proofs.Plainly.{some_is}
use Rattle.node_taints.specs.Editing.{taint_at}
use Rattle.tick_laws.proofs.Tainting.{waiting}
use Rattle.controller_core.specs.Attempts.{lacking_of}

pub lacks_it : (q : Identity) (h : List Entry) (place : Place) (name wanted : ℕ) (x : Version × Node) → waits q place name h ≡ Some wanted → seen_node q name h ≡ Some x → lacks (mode q h) x.1 ≡ Some wanted
lacks_it q h place name wanted x is sees =
    let w = waiting q place name wanted h is in
    ap (λ (y : Version × Node). lacks (mode q h) y.1) (some_is x w.x (sym sees ∙ w.sees)) ∙ w.lacks

pub lack_is : (doc : Doc) (k : ℕ) (q : Identity) (wanted other second now : ℕ) (x : Version × Node) (given : Version) (node written : Node) (taint : Taint) → Some (given, node) ≡ Some x → other ≡ wanted
    → taint ≡ taint_at other second → second ≡ whole_second now → now ≡ wall doc q.process k → written ≡ tainted_with taint node
    → lacking_of given other written ≡ lacking_of x.0 wanted (tainted_with (new_taint doc k q wanted) x.1)
lack_is doc k q wanted other second now x given node written taint seen same is at reading wrote = λ i. lacking_of (versions i) (same i) (nodes i)
  where
    pair : (given, node) ≡ x
    pair = some_is (given, node) x seen

    versions : given ≡ x.0
    versions = ap (λ (y : Version × Node). y.0) pair

    taints : taint ≡ new_taint doc k q wanted
    taints = is ∙ ap (taint_at other) (at ∙ ap whole_second reading) ∙ ap (λ key. taint_at key (whole_second (wall doc q.process k))) same

    nodes : written ≡ tainted_with (new_taint doc k q wanted) x.1
    nodes = wrote ∙ ap (λ t. tainted_with t node) taints ∙ ap (λ (y : Version × Node). tainted_with (new_taint doc k q wanted) y.1) pair
