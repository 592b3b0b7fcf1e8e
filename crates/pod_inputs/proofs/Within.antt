-- The rows that are read keep the limits of a document.
use Rattle.std.proofs.Common.{◌≡◌, ℕ, ◌+◌, ◌≤◌, true, cond, List, [], ◌∷◌, ◌++◌, length, Option, Some, None, codes, refl, sym, ap, subst, ◌∙◌, arith, length-append, ◌==◌}
use Rattle.std.specs.List.{All, AllByRecursion}
use Rattle.std.proofs.lemmas.List.Elements.{All-nil, All-push}
use Rattle.std.proofs.lemmas.List.Sums.{sum_by-cons}
use Rattle.serde_json.specs.Data.{Data, Items, no_items, item}
use Rattle.serde_json.specs.Find.{get}
use Rattle.kube_base.specs.Names.{fixed_names}
use Rattle.kube_objects.specs.Keys.{kind_rank}
use Rattle.kube_objects.specs.declared.key.Key.{Key}
use Rattle.kube_objects.specs.declared.key.Kind.{Kind}
use Rattle.kube_objects.specs.declared.key.Kind.TheVariants as kinds
use Rattle.kube_objects.specs.declared.object.Object.{Object}
use Rattle.kube_objects.specs.declared.object.Object.TheVariants as objects
use Rattle.kube_objects.specs.declared.pod.Pod.{Pod}
use Rattle.manifest_json.specs.declared.codes.TheConstants.{TOP_SHAPE, WRONG_JSON}
use Rattle.manifest_json.specs.declared.scale.Scale.TheVariants as scales
use Rattle.manifest_json.specs.Fields.{Texts, field, field_in, items_at, parent_at, text_at, time_at}
use Rattle.manifest_json.specs.Readable.{IsReadable, IsReadableItem}
use Rattle.manifest_json.specs.Walk.{kind_count, member_path}
use Rattle.manifest_laws.proofs.FittingItems.{kinds-few}
use Rattle.manifest_laws.proofs.Getting.{Gets, done, refused, by_test, and_then, skip}
use Rattle.manifest_laws.proofs.ReadItems.{list-reads}
use Rattle.script_reader.specs.Fields.{default_of, required, whole_at}
use Rattle.script_reader.specs.Walk.{data_of}
use Rattle.pod_inputs.specs.declared.row.Rows.{Rows}
use Rattle.pod_inputs.specs.declared.table.Table.TheVariants as tables
use Rattle.pod_inputs.specs.Fields.{needed_instant}
use Rattle.pod_inputs.specs.Rows.{pod_row_at, node_row_at, no_rows, row_at, is_read, next_row_at, item_row_at, rows_from, rows_in}
use Rattle.pod_inputs.specs.Tables.{object_in}
use Rattle.pod_inputs.specs.Walk.{collect_at, collect_walk, missing_in, place_at, place_walk}
use Rattle.pod_tools.specs.declared.rows.CollectInput.{CollectInput}
use Rattle.pod_tools.specs.declared.rows.PlaceInput.{PlaceInput}
use Rattle.pod_tools.specs.declared.rows.PodRow.{PodRow}
use Rattle.pod_tools.specs.Feasible.{AreFew, HasFew}

-- an object has the kind of its key, and a Pod few tolerations
abbrev IsSound : Key × Object → Type 0
IsSound (key, objects.Node n) = key.kind ≡ kinds.Node
IsSound (key, objects.Lease l) = Unit {0}
IsSound (key, objects.Pod p) = (key.kind ≡ kinds.Pod) × (length p.tolerations ≤ 100)

-- the rows so far and the objects that are left keep the limits together
record Fit (rows : Rows) (found : List (Key × Object)) : Type 0 where
  nodes : length rows.nodes + kind_count kinds.Node found ≤ 1000
  pods : length rows.pods + kind_count kinds.Pod found ≤ 30000
  few : All HasFew rows.pods
  sound : AllByRecursion IsSound found

count-cons : (kind : Kind) (x : Key × Object) (xs : List (Key × Object)) → kind_count kind (x ∷ xs) ≡ cond (kind_rank kind == kind_rank x.0.kind) 1 0 + kind_count kind xs
count-cons kind x xs = sum_by-cons (λ (i : Key × Object). cond (kind_rank kind == kind_rank i.0.kind) 1 0) x xs

count-of : (kind : Kind) (x : Key × Object) (xs : List (Key × Object)) → x.0.kind ≡ kind → kind_count kind (x ∷ xs) ≡ 1 + kind_count kind xs
count-of kind x xs is = count-cons kind x xs ∙ ap (λ k. cond (kind_rank kind == kind_rank k) 1 0 + kind_count kind xs) is ∙ ap (λ b. cond b 1 0 + kind_count kind xs) (same kind)
  where
    same : (kind : Kind) → (kind_rank kind == kind_rank kind) ≡ true
    same kinds.Node = refl
    same kinds.Lease = refl
    same kinds.Pod = refl

count-more : (kind : Kind) (x : Key × Object) (xs : List (Key × Object)) → kind_count kind xs ≤ kind_count kind (x ∷ xs)
count-more kind x xs = omega (arith, count-cons kind x xs)

pod-kept : (path : List ℕ) (key : Key) (pod : Pod) (d : Data) → Gets (λ (row : PodRow). row.pod ≡ pod) (pod_row_at path key pod d)
unfolding pod_row_at
pod-kept path key pod d =
    skip (parent_at (path ++ codes "/metadata") (field (codes "metadata") d)) (λ metadata.
    skip (time_at (path ++ codes "/metadata/creationTimestamp") (field_in (codes "creationTimestamp") metadata)) (λ created.
    skip (time_at (path ++ codes "/metadata/deletionTimestamp") (field_in (codes "deletionTimestamp") metadata)) (λ deleted.
    skip (parent_at (path ++ codes "/status") (field (codes "status") d)) (λ status.
    skip (text_at WRONG_JSON (path ++ codes "/status/phase") (field_in (codes "phase") status)) (λ phase. done _ refl)))))

row-fits : (names : Texts) (path : List ℕ) (rows : Rows) (found : Key × Object) (later : List (Key × Object)) (d : Data) → Fit rows (found ∷ later)
    → Gets (λ (next : Rows × Texts). Fit next.0 later) (row_at names path rows found d)
unfolding row_at
row-fits names path rows (key, objects.Node node) later d fit = skip (node_row_at names path key.name node d) (λ row. done _ (record {
  nodes = omega (arith, fit.nodes, length-append rows.nodes (row.0 ∷ []), count-of kinds.Node (key, objects.Node node) later fit.sound.0);
  pods = omega (arith, fit.pods, count-more kinds.Pod (key, objects.Node node) later);
  few = fit.few;
  sound = fit.sound.1;
}))
row-fits names path rows (key, objects.Lease lease) later d fit = done _ (record {
  nodes = omega (arith, fit.nodes, count-more kinds.Node (key, objects.Lease lease) later);
  pods = omega (arith, fit.pods, count-more kinds.Pod (key, objects.Lease lease) later);
  few = fit.few;
  sound = fit.sound.1;
})
row-fits names path rows (key, objects.Pod pod) later d fit = and_then (pod-kept path key pod d) (λ row same. done _ (record {
  nodes = omega (arith, fit.nodes, count-more kinds.Node (key, objects.Pod pod) later);
  pods = omega (arith, fit.pods, length-append rows.pods (row ∷ []), count-of kinds.Pod (key, objects.Pod pod) later fit.sound.0.0);
  few = All-push HasFew rows.pods row fit.few (subst (λ (p : Pod). length p.tolerations ≤ 100) (sym same) fit.sound.0.1);
  sound = fit.sound.1;
}))

abbrev Next : Type 0
Next = (Rows × List (Key × Object)) × Texts

next-fits : (names : Texts) (path : List ℕ) (rows : Rows) (found : List (Key × Object)) (d : Data) → Fit rows found
    → Gets (λ (next : Next). Fit next.0.0 next.0.1) (next_row_at names path rows found d)
unfolding next_row_at
next-fits names path rows [] d fit = done _ fit
next-fits names path rows (first ∷ later) d fit = and_then (row-fits names path rows first later d fit) (λ next h. done _ h)

item-fits : (names : Texts) (path : List ℕ) (rows : Rows) (found : List (Key × Object)) (d : Data) → Fit rows found
    → Gets (λ (next : Next). Fit next.0.0 next.0.1) (item_row_at names path rows found d)
unfolding item_row_at
item-fits names path rows found d fit = by_test (is_read d) _ _ (λ _. next-fits names path rows found d fit) (λ _. done _ fit)

abbrev FewRows : Rows × Texts → Type 0
FewRows rows = AreFew rows.0.nodes rows.0.pods

rows-fit : (names : Texts) (place : ℕ) (rows : Rows) (found : List (Key × Object)) (items : Items) → Fit rows found → Gets FewRows (rows_from names place rows found items)
unfolding rows_from
rows-fit names place rows found no_items fit = done _ (record { nodes = omega (arith, fit.nodes); pods = omega (arith, fit.pods); tolerations = fit.few })
rows-fit names place rows found (item d rest) fit =
    and_then (item-fits names (member_path [] (codes "/objects/items/") place) rows found d fit) (λ next h. rows-fit next.1 (place + 1) next.0.0 next.0.1 rest h)

all-sound : (names : Texts) (items : List (Key × Object)) → AllByRecursion (IsReadableItem names []) items → AllByRecursion IsSound items
all-sound names [] h = tt
all-sound names ((key, objects.Node n) ∷ items) h = (h.0.kind, all-sound names items h.1)
all-sound names ((key, objects.Lease l) ∷ items) h = (tt, all-sound names items h.1)
all-sound names ((key, objects.Pod p) ∷ items) h = ((h.0.kind, h.0.few), all-sound names items h.1)

start-fits : (names : Texts) (items : List (Key × Object)) → IsReadable scales.Usual names [] items → Fit no_rows items
start-fits names items h = record {
  nodes = omega (arith, kinds-few scales.Usual kinds.Node items h.fit);
  pods = omega (arith, kinds-few scales.Usual kinds.Pod items h.fit);
  few = All-nil HasFew;
  sound = all-sound names items h.each;
}

list-fits : (names : Texts) (d : Data) → Gets FewRows (rows_in names d)
unfolding rows_in
list-fits names d =
    and_then (list-reads scales.Usual names [] (codes "/objects") d tt) (λ found h.
    skip (items_at (codes "/objects/items") (field (codes "items") d)) (λ items. rows-fit found.1 0 no_rows found.0.0 items (start-fits found.1 found.0.0 h.1)))

needed-fits : (names : Texts) (o : Option Data) → Gets FewRows (required (codes "/objects") (rows_in names) o)
needed-fits names None = refused _
needed-fits names (Some d) = list-fits names d

pub collect-fits : (bytes : List ℕ) → Gets (λ (input : CollectInput). AreFew input.nodes input.pods) (collect_walk bytes)
unfolding collect_walk collect_at
collect-fits bytes =
    skip (data_of bytes) (λ value.
    skip (object_in tables.Collect TOP_SHAPE (codes "/") value) (λ d.
    skip (needed_instant [] (codes "now") d) (λ now.
    skip (whole_at 12_500 0 1_000_000 [] (codes "threshold") d) (λ threshold.
    skip (default_of ([], fixed_names) (missing_in fixed_names) (get (codes "missing") d)) (λ missing.
    and_then (needed-fits missing.1 (get (codes "objects") d)) (λ rows h. done _ h))))))

pub place-fits : (bytes : List ℕ) → Gets (λ (input : PlaceInput). AreFew input.nodes input.pods) (place_walk bytes)
unfolding place_walk place_at
place-fits bytes =
    skip (data_of bytes) (λ value.
    skip (object_in tables.Place TOP_SHAPE (codes "/") value) (λ d. and_then (needed-fits fixed_names (get (codes "objects") d)) (λ rows h. done _ h)))
