-- Layer 2, what a history keeps: what a history counts stays within its types up to the end of a document.
use Rattle.std.proofs.Common.{◌≡◌, ℕ, suc, ◌+◌, ◌≤◌, ◌==◌, cond, List, [], ◌∷◌, length, refl, arith}
use Rattle.std.proofs.lemmas.List.Sums.{sum_by-cons}
use Rattle.kube_objects.specs.declared.key.Key.{Key}
use Rattle.kube_objects.specs.declared.key.Kind.{Kind}
use Rattle.kube_objects.specs.declared.key.Kind.TheVariants as kinds
use Rattle.kube_objects.specs.declared.object.Object.{Object}
use Rattle.kube_objects.specs.Document.{Doc}
use Rattle.kube_objects.specs.Keys.{kind_rank}
use Rattle.history.specs.History.{history, beat}
use Rattle.history_laws.specs.Calls.{CallsAreFew}
use Rattle.history_laws.specs.Starts.{StartsAreFew}
use Rattle.beat_laws.specs.Names.{NodesAreFew}
use Rattle.manifest_json.specs.declared.scale.Scale.TheVariants as scales
use Rattle.manifest_json.specs.Walk.{kind_count, kind_limit}
use Rattle.world_process.specs.Plain.{IsFew}

-- each object is of one of the kinds
one-kind : (kind : Kind) → cond (0 == kind_rank kind) 1 0 + cond (1 == kind_rank kind) 1 0 + cond (2 == kind_rank kind) 1 0 ≡ 1
one-kind kinds.Node = refl
one-kind kinds.Lease = refl
one-kind kinds.Pod = refl

kinds-counted : (items : List (Key × Object)) → length items ≡ kind_count kinds.Node items + kind_count kinds.Lease items + kind_count kinds.Pod items
kinds-counted [] = refl
kinds-counted (item ∷ items) =
    let nodes = sum_by-cons (λ (i : Key × Object). cond (0 == kind_rank i.0.kind) 1 0) item items in
    let leases = sum_by-cons (λ (i : Key × Object). cond (1 == kind_rank i.0.kind) 1 0) item items in
    let pods = sum_by-cons (λ (i : Key × Object). cond (2 == kind_rank i.0.kind) 1 0) item items in
    omega (arith, kinds-counted items, nodes, leases, pods, one-kind item.0.kind)

pub objects-most : (items : List (Key × Object)) → ((kind : Kind) → kind_count kind items ≤ kind_limit scales.Large kind) → length items ≤ 495000
objects-most items few =
    let nodes : kind_count kinds.Node items ≤ 15000 = few kinds.Node in
    let leases : kind_count kinds.Lease items ≤ 30000 = few kinds.Lease in
    let pods : kind_count kinds.Pod items ≤ 450000 = few kinds.Pod in
    omega (arith, kinds-counted items, nodes, leases, pods)

pub few-beat : (doc : Doc) (k : ℕ) → CallsAreFew → StartsAreFew → NodesAreFew → k ≤ 604800000 → length doc.objects ≤ 495000 → length doc.events ≤ 1000000 → IsFew (beat doc (history doc k) k)
few-beat doc k calls starts nodes within objects events =
    record {
      calls = λ q. (let most = calls doc q (suc k) in omega (arith, most, within));
      starts = λ p. (let most = starts doc p (suc k) in omega (arith, most, within, events));
      nodes = (let most = nodes doc (suc k) in omega (arith, most, objects, events));
    }
