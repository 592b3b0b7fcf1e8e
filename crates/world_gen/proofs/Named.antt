-- The generated document is well named.
use Rattle.std.proofs.Common.{ℕ, zero, suc, ◌+◌, ◌<◌, ◌≤◌, List, [], ◌∷◌, ◌++◌, map, refl, arith}
use Rattle.std.proofs.lemmas.List.Elements.{All-from_recursion}
use Rattle.std.specs.List.{range_with_len, AllByRecursion}
use Rattle.rand_pcg.specs.Lcg.{Lcg}
use Rattle.kube_objects.specs.declared.key.Key.{Key}
use Rattle.kube_objects.specs.declared.object.Object.{Object}
use Rattle.kube_objects.specs.declared.script.Event.{Event}
use Rattle.manifest_json.specs.Fields.{Texts}
use Rattle.manifest_json.specs.Readable.{IsNameNumber, IsReadableNode, IsReadableToleration, IsReadablePod, IsReadableItem}
use Rattle.script_reader.specs.Lawful.{IsReadableWhat, IsWellNamed}
use Rattle.script_reader.specs.Walk.{numbers_of}
use Rattle.world_gen.specs.declared.crash.Crash.{Crash}
use Rattle.world_gen.specs.declared.pod.Placing.{Placing}
use Rattle.world_gen.specs.Draws.{draw, start, crashes, placing}
use Rattle.world_gen.specs.Numbers.{generated_names}
use Rattle.world_gen.specs.Generated.{toleration, node, node_item, node_items, pod, pod_item, pod_items, controllers, kubelet, kubelets, by_beat, event, middle, generated}
use Rattle.world_gen.proofs.Steps.{draw-below}
use Rattle.world_gen.proofs.Items.{all-fit}
use Rattle.world_gen.proofs.Held.{fixed-held, controller-named, node-named, region-label, zone-label_number, space-named, pod-named}

-- ---- processes

kubelets-named_from : (nodes pods first n : ℕ) → first + n ≤ nodes → nodes ≤ 1000
    → AllByRecursion (λ p. IsNameNumber (generated_names nodes pods) p.name) (map kubelet (range_with_len first n))
kubelets-named_from nodes pods first zero le few = tt
kubelets-named_from nodes pods first (suc n) le few =
    (node-named nodes pods first (omega arith) few, kubelets-named_from nodes pods (first + 1) n (omega arith) few)

-- ---- objects

module _ (nodes pods : ℕ) (few : nodes ≤ 1000) (fewer : pods ≤ 30000) (known : List ℕ) where
  abbrev names : Texts
  names = generated_names nodes pods

  node-readable : (i : ℕ) → i < nodes → IsReadableNode names (node_item nodes i).0 (node nodes i)
  node-readable i lt = record {
    kind = refl;
    space = refl;
    name = node-named nodes pods i lt few;
    region = region-label nodes pods;
    zone = zone-label_number nodes pods i lt;
    taints = tt;
    few = omega arith;
    differ = refl;
    ready = record { reason = fixed-held nodes pods 1 (omega arith); heartbeat = (omega arith, refl); transition = (omega arith, refl) };
  }

  nodes-readable_from : (first n : ℕ) → first + n ≤ nodes
      → AllByRecursion (IsReadableItem names known) (map (node_item nodes) (range_with_len first n))
  nodes-readable_from first zero le = tt
  nodes-readable_from first (suc n) le = (node-readable first (omega arith), nodes-readable_from (first + 1) n (omega arith))

  toleration-readable : (key seconds : ℕ) → key < 10 → seconds < 600 → IsReadableToleration names (toleration key seconds)
  toleration-readable key seconds lt short = record {
    key = fixed-held nodes pods key lt;
    value = fixed-held nodes pods 0 (omega arith);
    seconds = omega arith;
    lawful = refl;
  }

  pod-readable : (j : ℕ) (at : Placing) → j < pods → at.node < nodes → at.seconds < 600
      → IsReadablePod names (pod_item nodes j at).0 (pod at)
  pod-readable j at lt placed short = record {
    kind = refl;
    space = space-named nodes pods j lt;
    name = pod-named nodes pods j lt fewer;
    node = ((node-named nodes pods at.node placed few).0, λ _. (node-named nodes pods at.node placed few).1);
    tolerations = (toleration-readable 5 at.seconds (omega arith) short, (toleration-readable 6 at.seconds (omega arith) short, tt));
    few = omega arith;
  }

  placing-within : (g : Lcg) → 1 ≤ nodes → ((placing nodes g).value.node < nodes) × ((placing nodes g).value.seconds < 600)
  unfolding placing
  placing-within g some = (draw-below nodes g (omega arith), draw-below 600 (draw nodes g).rest (omega arith))

  readable-joined : (xs ys : List (Key × Object)) → AllByRecursion (IsReadableItem names known) xs
      → AllByRecursion (IsReadableItem names known) ys
      → AllByRecursion (IsReadableItem names known) (xs ++ ys)
  readable-joined [] ys left right = right
  readable-joined (x ∷ xs) ys left right = (left.0, readable-joined xs ys left.1 right)

  pods-readable : 1 ≤ nodes → (j : ℕ) (g : Lcg) → j ≤ pods → AllByRecursion (IsReadableItem names known) (pod_items nodes j g).value
  unfolding pod_items
  pods-readable some zero g le = tt
  pods-readable some (suc j) g le =
      let rest = (pod_items nodes j g).rest in
      let within = placing-within rest some in
      readable-joined (pod_items nodes j g).value (pod_item nodes j (placing nodes rest).value ∷ []) (pods-readable some j g (omega arith))
      (pod-readable j (placing nodes rest).value (omega arith) within.0 within.1, tt)

-- ---- events

module _ (names : Texts) (known : List ℕ) where
  abbrev IsReadableEvent : Event → Type 0
  IsReadableEvent e = IsReadableWhat names known e.what

  events-readable : (xs : List Crash) → AllByRecursion IsReadableEvent (map event xs)
  events-readable [] = tt
  events-readable (x ∷ xs) = (tt, events-readable xs)

-- ---- the document

pub generated-named : (seed nodes pods beats : ℕ) → 1 ≤ nodes → nodes ≤ 1000 → pods ≤ 30000
    → IsWellNamed (generated_names nodes pods) (generated seed nodes pods beats)
unfolding generated
generated-named seed nodes pods beats some few fewer =
    let names = generated_names nodes pods in
    let known = numbers_of controllers in
    let drawn = crashes beats nodes (start seed) in
    let items = readable-joined nodes pods few fewer known (node_items nodes) (pod_items nodes pods drawn.rest).value
    (nodes-readable_from nodes pods few fewer known 0 nodes (omega arith))
    (pods-readable nodes pods few fewer known some pods drawn.rest (omega arith)) in
    record {
      controllers =
          All-from_recursion (λ p. IsNameNumber names p.name) controllers (
            controller-named nodes pods 0 (omega arith),
            (controller-named nodes pods 1 (omega arith), (controller-named nodes pods 2 (omega arith), tt)),
          );
      kubelets =
          All-from_recursion (λ p. IsNameNumber names p.name) (kubelets nodes) (kubelets-named_from nodes pods 0 nodes (omega arith) few);
      objects = record { each = items; fit = all-fit nodes pods drawn.rest few fewer };
      events =
          All-from_recursion (IsReadableEvent names known) _
          (events-readable names known (by_beat (beats + 1) (drawn.value ++ middle beats ∷ [])));
    }
