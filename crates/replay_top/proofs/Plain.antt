-- A List that is written has no float, and nests to a small depth.
use Rattle.std.proofs.Common.{◌≡◌, ◌≤◌, ◌||◌, ◌==◌, ℕ, suc, ℤ, pos, negsuc, Bool, true, false, cond, List, [], ◌∷◌, map, length, codes, Option, Some, None, Less, Equal, Greater, refl, ap, ◌∙◌, arith}
use Rattle.std.specs.Cmp.Lexicographic.{slice_cmp}
use Rattle.std.specs.List.{AllByRecursion}
use Rattle.std.specs.Option.{option_map}
use Rattle.std.specs.Ordering.{match_ordering, nat_cmp}
use Rattle.std.specs.declared.cmp.Ordering.{Ordering}
use Rattle.serde_json.specs.Data.{Data, object, array, string, number, unsigned, Items, no_items, item, Members, no_members, member, put, depth, items_depth, members_depth}
use Rattle.serde_json.specs.Find.{of_integer}
use Rattle.serde_json.specs.View.{items_of}
use Rattle.serde_json.specs.Written.{has_float, items_have_float, members_have_float}
use Rattle.kube_base.specs.Times.{seconds_text, micros_text}
use Rattle.kube_base.specs.declared.numbers.Wall.{Wall}
use Rattle.kube_objects.specs.declared.key.Key.{Key}
use Rattle.kube_objects.specs.declared.lease.Lease.{Lease}
use Rattle.kube_objects.specs.declared.node.Node.{Node}
use Rattle.kube_objects.specs.declared.node.Ready.{Ready}
use Rattle.kube_objects.specs.declared.node.Taint.{Taint}
use Rattle.kube_objects.specs.declared.object.Object.{Object}
use Rattle.kube_objects.specs.declared.object.Object.TheVariants as objects
use Rattle.kube_objects.specs.declared.pod.Pod.{Pod}
use Rattle.kube_objects.specs.declared.pod.Toleration.{Toleration}
use Rattle.manifest_json.specs.Fields.{Texts}
use Rattle.manifest_json.specs.Written.{Field, with_field, members_of, filled_text, filled_object, filled_array, text_of, effect_text, taint_of, status_text, condition_of, conditions_of, labels_of, node_metadata_of, node_spec_of, node_status_of, node_of, holder_text, metadata_of, lease_spec_of, lease_of, operator_text, toleration_of, pod_spec_of, pod_of, object_of, list_of}

-- ---- values

pub record IsPlain (n : ℕ) (d : Data) : Type 0 where
  pub floats : has_float d ≡ false
  pub deep : depth d ≤ n

record AreItems (n : ℕ) (ds : Items) : Type 0 where
  pub floats : items_have_float ds ≡ false
  pub deep : items_depth ds ≤ n

record AreMembers (n : ℕ) (ms : Members) : Type 0 where
  pub floats : members_have_float ms ≡ false
  pub deep : members_depth ms ≤ n

no_either : (a b : Bool) → a ≡ false → b ≡ false → (a || b) ≡ false
no_either a b p q = ap (λ x. x || b) p ∙ q

each_no : (a b : Bool) → (a || b) ≡ false → (a ≡ false) × (b ≡ false)
each_no true b is = cc
each_no false b is = (refl, is)

no_member : (n : ℕ) → AreMembers n no_members
no_member n = record { floats = refl; deep = omega arith }

with_member : (n : ℕ) (k : List ℕ) (d : Data) (ms : Members) → IsPlain n d → AreMembers n ms → AreMembers n (member k d ms)
with_member n k d ms p q =
    record { floats = no_either (has_float d) (members_have_float ms) p.floats q.floats; deep = omega (arith, p.deep, q.deep) }

by_order : (o : Ordering) (n : ℕ) (a b c : Members) → AreMembers n a → AreMembers n b → AreMembers n c → AreMembers n (match_ordering o a b c)
by_order Less n a b c p q r = p
by_order Equal n a b c p q r = q
by_order Greater n a b c p q r = r

with_put : (n : ℕ) (k : List ℕ) (d : Data) (ms : Members) → IsPlain n d → AreMembers n ms → AreMembers n (put k d ms)
with_put n k d no_members p q = with_member n k d no_members p q
with_put n k d (member l e ms) p q =
    let both = each_no (has_float e) (members_have_float ms) q.floats in
    let deep = q.deep in
    let here : IsPlain n e = record { floats = both.0; deep = omega (arith, deep) } in
    let rest : AreMembers n ms = record { floats = both.1; deep = omega (arith, deep) } in
    by_order (slice_cmp nat_cmp k l) n (member k d (member l e ms)) (member l d ms) (member l e (put k d ms)) (with_member n k d (member l e ms) p q)
    (with_member n l d ms p rest) (with_member n l e (put k d ms) here (with_put n k d ms p rest))

-- ---- fields

abbrev IsPlainField : ℕ → Option Data → Type 0
IsPlainField n None = Unit {0}
IsPlainField n (Some d) = IsPlain n d

with_one : (n : ℕ) (k : List ℕ) (o : Option Data) (ms : Members) → IsPlainField n o → AreMembers n ms → AreMembers n (with_field k o ms)
unfolding with_field
with_one n k None ms p q = q
with_one n k (Some d) ms p q = with_put n k d ms p q

fields : (n : ℕ) (fs : List Field) → AllByRecursion (λ f. IsPlainField n f.1) fs → AreMembers n (members_of fs)
unfolding members_of
fields n [] all = no_member n
fields n (f ∷ fs) all = with_one n f.0 f.1 (members_of fs) all.0 (fields n fs all.1)

a_text : (n : ℕ) (s : List ℕ) → IsPlain n (string s)
a_text n s = record { floats = refl; deep = omega arith }

an_object : (n : ℕ) (ms : Members) → AreMembers n ms → IsPlain (suc n) (object ms)
an_object n ms p = record { floats = p.floats; deep = omega (arith, p.deep) }

an_array : (n : ℕ) (ds : Items) → AreItems n ds → IsPlain (suc n) (array ds)
an_array n ds p = record { floats = p.floats; deep = omega (arith, p.deep) }

filled : (n : ℕ) (bytes : List ℕ) → IsPlainField n (filled_text bytes)
unfolding filled_text
filled n bytes = by_test (length bytes == 0)
  where
    by_test : (b : Bool) → IsPlainField n (cond b None (Some (string bytes)))
    by_test true = tt
    by_test false = a_text n bytes

object_if : (n : ℕ) (ms : Members) → AreMembers n ms → IsPlainField (suc n) (filled_object ms)
unfolding filled_object
object_if n no_members p = tt
object_if n (member k d ms) p = an_object n (member k d ms) p

array_if : (n : ℕ) (ds : Items) → AreItems n ds → IsPlainField (suc n) (filled_array ds)
unfolding filled_array
array_if n no_items p = tt
array_if n (item d ds) p = an_array n (item d ds) p

if_some : {A : Type 0} (n : ℕ) (f : A → Data) → ((x : A) → IsPlain n (f x)) → (o : Option A) → IsPlainField n (option_map f o)
if_some n f each None = tt
if_some n f each (Some x) = each x

with_item : (n : ℕ) (d : Data) (ds : Items) → IsPlain n d → AreItems n ds → AreItems n (item d ds)
with_item n d ds p q =
    record { floats = no_either (has_float d) (items_have_float ds) p.floats q.floats; deep = omega (arith, p.deep, q.deep) }

no_item : (n : ℕ) → AreItems n no_items
no_item n = record { floats = refl; deep = omega arith }

items : {A : Type 0} (n : ℕ) (f : A → Data) → ((x : A) → IsPlain n (f x)) → (xs : List A) → AreItems n (items_of (map f xs))
items n f each [] = no_item n
items n f each (x ∷ xs) = with_item n (f x) (items_of (map f xs)) (each x) (items n f each xs)

seconds : (n : ℕ) (at : Option Wall) → IsPlainField n (option_map (λ (w : Wall). string (seconds_text w)) at)
seconds n at = if_some n (λ (w : Wall). string (seconds_text w)) (λ w. a_text n (seconds_text w)) at

micros : (n : ℕ) (at : Option Wall) → IsPlainField n (option_map (λ (w : Wall). string (micros_text w)) at)
micros n at = if_some n (λ (w : Wall). string (micros_text w)) (λ w. a_text n (micros_text w)) at

a_count : (n m : ℕ) → IsPlain n (number (unsigned m))
a_count n m = record { floats = refl; deep = omega arith }

an_integer : (n : ℕ) (z : ℤ) → IsPlain n (number (of_integer z))
an_integer n (pos m) = record { floats = refl; deep = omega arith }
an_integer n (negsuc m) = record { floats = refl; deep = omega arith }

-- ---- Nodes

taint : (names : Texts) (t : Taint) → IsPlain 1 (taint_of names t)
unfolding taint_of
taint names t =
    let fs : List Field = (codes "effect", Some (string (effect_text t.effect))) ∷ (codes "key", filled_text (text_of names t.key)) ∷ (codes "timeAdded", option_map (λ (w : Wall). string (seconds_text w)) t.added) ∷ (codes "value", filled_text (text_of names t.value)) ∷ [] in
    an_object 0 (members_of fs) (fields 0 fs (a_text 0 (effect_text t.effect), (filled 0 (text_of names t.key), (seconds 0 t.added, (filled 0 (text_of names t.value), tt)))))

condition : (names : Texts) (r : Ready) → IsPlain 1 (condition_of names r)
unfolding condition_of
condition names r =
    let fs : List Field = (codes "lastHeartbeatTime", option_map (λ (w : Wall). string (seconds_text w)) r.heartbeat) ∷ (codes "lastTransitionTime", option_map (λ (w : Wall). string (seconds_text w)) r.transition) ∷ (codes "reason", filled_text (text_of names r.reason)) ∷ (codes "status", Some (string (status_text r.status))) ∷ (codes "type", Some (string (codes "Ready"))) ∷ [] in
    an_object 0 (members_of fs) (fields 0 fs (seconds 0 r.heartbeat, (seconds 0 r.transition, (filled 0 (text_of names r.reason), (a_text 0 (status_text r.status), (a_text 0 (codes "Ready"), tt))))))

conditions : (names : Texts) (o : Option Ready) → AreItems 1 (conditions_of names o)
unfolding conditions_of
conditions names None = no_item 1
conditions names (Some r) = with_item 1 (condition_of names r) no_items (condition names r) (no_item 1)

labels : (names : Texts) (n : Node) → IsPlainField 2 (labels_of names n)
unfolding labels_of
labels names n =
    let fs : List Field = (codes "topology.kubernetes.io/region", filled_text (text_of names n.region)) ∷ (codes "topology.kubernetes.io/zone", filled_text (text_of names n.zone)) ∷ [] in
    object_if 1 (members_of fs) (fields 1 fs (filled 1 (text_of names n.region), (filled 1 (text_of names n.zone), tt)))

node_metadata : (names : Texts) (key : Key) (n : Node) → IsPlain 3 (node_metadata_of names key n)
unfolding node_metadata_of
node_metadata names key n =
    let fs : List Field = (codes "labels", labels_of names n) ∷ (codes "name", Some (string (text_of names key.name))) ∷ [] in
    an_object 2 (members_of fs) (fields 2 fs (labels names n, (a_text 2 (text_of names key.name), tt)))

node_spec : (names : Texts) (n : Node) → IsPlainField 3 (node_spec_of names n)
unfolding node_spec_of
node_spec names n =
    let ds = items_of (map (taint_of names) n.taints) in
    let fs : List Field = (codes "taints", filled_array ds) ∷ [] in
    object_if 2 (members_of fs) (fields 2 fs (array_if 1 ds (items 1 (taint_of names) (taint names) n.taints), tt))

node_status : (names : Texts) (n : Node) → IsPlainField 3 (node_status_of names n)
unfolding node_status_of
node_status names n =
    let ds = conditions_of names n.ready in
    let fs : List Field = (codes "conditions", filled_array ds) ∷ [] in
    object_if 2 (members_of fs) (fields 2 fs (array_if 1 ds (conditions names n.ready), tt))

node : (names : Texts) (key : Key) (n : Node) → IsPlain 4 (node_of names key n)
unfolding node_of
node names key n =
    let fs : List Field = (codes "apiVersion", Some (string (codes "v1"))) ∷ (codes "kind", Some (string (codes "Node"))) ∷ (codes "metadata", Some (node_metadata_of names key n)) ∷ (codes "spec", node_spec_of names n) ∷ (codes "status", node_status_of names n) ∷ [] in
    an_object 3 (members_of fs) (fields 3 fs (a_text 3 (codes "v1"), (a_text 3 (codes "Node"), (node_metadata names key n, (node_spec names n, (node_status names n, tt))))))

-- ---- Leases and Pods

metadata : (names : Texts) (key : Key) → IsPlain 3 (metadata_of names key)
unfolding metadata_of
metadata names key =
    let fs : List Field = (codes "name", Some (string (text_of names key.name))) ∷ (codes "namespace", Some (string (text_of names key.space))) ∷ [] in
    an_object 2 (members_of fs) (fields 2 fs (a_text 2 (text_of names key.name), (a_text 2 (text_of names key.space), tt)))

lease_spec : (names : Texts) (known : List ℕ) (l : Lease) → IsPlainField 3 (lease_spec_of names known l)
unfolding lease_spec_of
lease_spec names known l =
    let some : Option ℕ → Option Data = option_map (λ m. number (unsigned m)) in
    let fs : List Field = (codes "acquireTime", option_map (λ (w : Wall). string (micros_text w)) l.acquired) ∷ (codes "holderIdentity", filled_text (holder_text names known l.holder)) ∷ (codes "leaseDurationSeconds", some l.duration) ∷ (codes "leaseTransitions", some l.transitions) ∷ (codes "renewTime", option_map (λ (w : Wall). string (micros_text w)) l.renewed) ∷ [] in
    object_if 2 (members_of fs) (fields 2 fs (micros 2 l.acquired, (filled 2 (holder_text names known l.holder), (if_some 2 (λ m. number (unsigned m)) (a_count 2) l.duration, (if_some 2 (λ m. number (unsigned m)) (a_count 2) l.transitions, (micros 2 l.renewed, tt))))))

lease : (names : Texts) (known : List ℕ) (key : Key) (l : Lease) → IsPlain 4 (lease_of names known key l)
unfolding lease_of
lease names known key l =
    let fs : List Field = (codes "apiVersion", Some (string (codes "coordination.k8s.io/v1"))) ∷ (codes "kind", Some (string (codes "Lease"))) ∷ (codes "metadata", Some (metadata_of names key)) ∷ (codes "spec", lease_spec_of names known l) ∷ [] in
    an_object 3 (members_of fs) (fields 3 fs (a_text 3 (codes "coordination.k8s.io/v1"), (a_text 3 (codes "Lease"), (metadata names key, (lease_spec names known l, tt)))))

toleration : (names : Texts) (t : Toleration) → IsPlain 1 (toleration_of names t)
unfolding toleration_of
toleration names t =
    let fs : List Field = (codes "effect", option_map (λ effect. string (effect_text effect)) t.effect) ∷ (codes "key", filled_text (text_of names t.key)) ∷ (codes "operator", Some (string (operator_text t.operator))) ∷ (codes "tolerationSeconds", option_map (λ seconds. number (of_integer seconds)) t.seconds) ∷ (codes "value", filled_text (text_of names t.value)) ∷ [] in
    an_object 0 (members_of fs) (fields 0 fs (if_some 0 (λ effect. string (effect_text effect)) (λ effect. a_text 0 (effect_text effect)) t.effect, (filled 0 (text_of names t.key), (a_text 0 (operator_text t.operator), (if_some 0 (λ seconds. number (of_integer seconds)) (an_integer 0) t.seconds, (filled 0 (text_of names t.value), tt))))))

pod_spec : (names : Texts) (p : Pod) → IsPlainField 3 (pod_spec_of names p)
unfolding pod_spec_of
pod_spec names p =
    let ds = items_of (map (toleration_of names) p.tolerations) in
    let fs : List Field = (codes "nodeName", filled_text (text_of names p.node)) ∷ (codes "tolerations", filled_array ds) ∷ [] in
    object_if 2 (members_of fs) (fields 2 fs (filled 2 (text_of names p.node), (array_if 1 ds (items 1 (toleration_of names) (toleration names) p.tolerations), tt)))

pod : (names : Texts) (key : Key) (p : Pod) → IsPlain 4 (pod_of names key p)
unfolding pod_of
pod names key p =
    let fs : List Field = (codes "apiVersion", Some (string (codes "v1"))) ∷ (codes "kind", Some (string (codes "Pod"))) ∷ (codes "metadata", Some (metadata_of names key)) ∷ (codes "spec", pod_spec_of names p) ∷ [] in
    an_object 3 (members_of fs) (fields 3 fs (a_text 3 (codes "v1"), (a_text 3 (codes "Pod"), (metadata names key, (pod_spec names p, tt)))))

-- ---- lists

an_item : (names : Texts) (known : List ℕ) (x : Key × Object) → IsPlain 4 (object_of names known x)
unfolding object_of
an_item names known (key, objects.Node n) = node names key n
an_item names known (key, objects.Lease l) = lease names known key l
an_item names known (key, objects.Pod p) = pod names key p

pub list-plain : (names : Texts) (known : List ℕ) (xs : List (Key × Object)) → IsPlain 6 (list_of names known xs)
unfolding list_of
list-plain names known xs =
    let ds = items_of (map (object_of names known) xs) in
    let fs : List Field = (codes "apiVersion", Some (string (codes "v1"))) ∷ (codes "items", Some (array ds)) ∷ (codes "kind", Some (string (codes "List"))) ∷ [] in
    an_object 5 (members_of fs) (fields 5 fs (a_text 5 (codes "v1"), (an_array 4 ds (items 4 (object_of names known) (an_item names known) xs), (a_text 5 (codes "List"), tt))))
