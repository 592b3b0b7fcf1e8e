-- One step of the walks over arrays.
use Rattle.std.proofs.Common.{◌≡◌, ℕ, ◌+◌, ◌<◌, ◌≤◌, List, [], ◌∷◌, ◌++◌, length, drop, get_or, Result, Ok, codes, sym, ap, ◌∙◌}
use Rattle.serde_json.specs.Data.{Data, Items, item}
use Rattle.serde_json.specs.View.{view, items_view}
use Rattle.serde_json.specs.declared.value.Value.{Value}
use Rattle.kube_objects.specs.declared.key.Key.{Key}
use Rattle.kube_objects.specs.declared.object.Object.{Object}
use Rattle.manifest_json.specs.declared.fault.Refusal.{Refusal}
use Rattle.manifest_json.specs.declared.fault.ReadFault.{ReadFault}
use Rattle.manifest_json.specs.Faults.{◌>>=◌, Fails}
use Rattle.manifest_json.specs.Fields.{Texts}
use Rattle.manifest_json.specs.Walk.{member_path}
use Rattle.manifest_json.proofs.Loops.{items_view-drop, items_view-end, Fails-then}
use Rattle.pod_inputs.specs.declared.row.Rows.{Rows}
use Rattle.pod_inputs.specs.Rows.{item_row_at, rows_from}
use Rattle.pod_inputs.specs.Walk.{missing_at, missing_from}
use Rattle.pod_tools.specs.declared.rows.MissingRow.{MissingRow}

missing_from-step : (names new : Texts) (place : ℕ) (earlier : List MissingRow) (d : Data) (rest : Items) (row : MissingRow)
    → missing_at names (member_path [] (codes "/missing/") place) earlier d ≡ Ok (row, new)
    → missing_from names place earlier (item d rest) ≡ missing_from new (place + 1) (earlier ++ row ∷ []) rest
unfolding missing_from
missing_from-step names new place earlier d rest row h = ap (λ r. r >>= λ next. missing_from next.1 (place + 1) (earlier ++ next.0 ∷ []) rest) h

missing_from-fails : (e : ReadFault) (names : Texts) (place : ℕ) (earlier : List MissingRow) (d : Data) (rest : Items)
    → Fails e (missing_at names (member_path [] (codes "/missing/") place) earlier d) → Fails e (missing_from names place earlier (item d rest))
unfolding missing_from
missing_from-fails e names place earlier d rest h = Fails-then e _ (λ next. missing_from next.1 (place + 1) (earlier ++ next.0 ∷ []) rest) h

rows_from-step : (names new : Texts) (place : ℕ) (rows more : Rows) (found later : List (Key × Object)) (d : Data) (rest : Items)
    → item_row_at names (member_path [] (codes "/objects/items/") place) rows found d ≡ Ok ((more, later), new)
    → rows_from names place rows found (item d rest) ≡ rows_from new (place + 1) more later rest
unfolding rows_from
rows_from-step names new place rows more found later d rest h = ap (λ r. r >>= λ next. rows_from next.1 (place + 1) next.0.0 next.0.1 rest) h

rows_from-fails : (e : ReadFault) (names : Texts) (place : ℕ) (rows : Rows) (found : List (Key × Object)) (d : Data) (rest : Items)
    → Fails e (item_row_at names (member_path [] (codes "/objects/items/") place) rows found d) → Fails e (rows_from names place rows found (item d rest))
unfolding rows_from
rows_from-fails e names place rows found d rest h = Fails-then e _ (λ next. rows_from next.1 (place + 1) next.0.0 next.0.1 rest) h

-- what a loop over an array knows of its next member
module _ (names : Texts) (place : ℕ) (vs : List Value) where
  module _ (earlier : List MissingRow) (start : Result (List MissingRow × Texts) Refusal)
      (so_far : start ≡ missing_from names place earlier (items_view (drop place vs))) where
    pub missing-fail : (v : Value) (e : ReadFault) → place < length vs → v ≡ get_or vs place v
        → Fails e (missing_at names (member_path [] (codes "/missing/") place) earlier (view v)) → Fails e start
    missing-fail v e lt is h = rw (so_far, items_view-drop vs place v lt (sym is)) (missing_from-fails e names place earlier (view v) _ h)

    pub missing-step : (v : Value) (new : Texts) (row : MissingRow) (more : List MissingRow) → place < length vs → v ≡ get_or vs place v → more ≡ earlier ++ row ∷ []
        → missing_at names (member_path [] (codes "/missing/") place) earlier (view v) ≡ Ok (row, new)
        → start ≡ missing_from new (place + 1) more (items_view (drop (place + 1) vs))
    missing-step v new row more lt is push h =
        so_far ∙ ap (missing_from names place earlier) (items_view-drop vs place v lt (sym is))
        ∙ missing_from-step names new place earlier (view v) _ row h
        ∙ ap (λ rs. missing_from new (place + 1) rs (items_view (drop (place + 1) vs))) (sym push)

    pub missing-end : length vs ≤ place → start ≡ Ok (earlier, names)
    unfolding missing_from
    missing-end le = so_far ∙ ap (missing_from names place earlier) (items_view-end vs place le)

  module _ (rows : Rows) (found : List (Key × Object)) (start : Result (Rows × Texts) Refusal)
      (so_far : start ≡ rows_from names place rows found (items_view (drop place vs))) where
    pub rows-fail : (v : Value) (e : ReadFault) → place < length vs → v ≡ get_or vs place v
        → Fails e (item_row_at names (member_path [] (codes "/objects/items/") place) rows found (view v)) → Fails e start
    rows-fail v e lt is h = rw (so_far, items_view-drop vs place v lt (sym is)) (rows_from-fails e names place rows found (view v) _ h)

    pub rows-step : (v : Value) (new : Texts) (more : Rows) (later : List (Key × Object)) → place < length vs → v ≡ get_or vs place v
        → item_row_at names (member_path [] (codes "/objects/items/") place) rows found (view v) ≡ Ok ((more, later), new)
        → start ≡ rows_from new (place + 1) more later (items_view (drop (place + 1) vs))
    rows-step v new more later lt is h =
        so_far ∙ ap (rows_from names place rows found) (items_view-drop vs place v lt (sym is))
        ∙ rows_from-step names new place rows more found later (view v) _ h

    pub rows-end : length vs ≤ place → start ≡ Ok (rows, names)
    unfolding rows_from
    rows-end le = so_far ∙ ap (rows_from names place rows found) (items_view-end vs place le)
