-- The walks of the two inputs: what is asked, or the first refusal. An object's keys are looked at in this order: first whether one is
-- unknown, then each in the order of its table, then the object's own rule. Source: profile.
use Rattle.std.specs.Prelude.{ℕ, ◌+◌, ◌==◌, List, [], ◌∷◌, ◌++◌, codes, Result, Ok, if◌then◌else◌}
use Rattle.std.specs.List.{list_any}
use Rattle.serde_json.specs.Data.{Data, Items, no_items, item}
use Rattle.serde_json.specs.Find.{get}
use Rattle.kube_base.specs.Names.{fixed_names}
use Rattle.manifest_json.specs.declared.codes.TheConstants.{DUPLICATE, TOP_SHAPE, WRONG_TYPE}
use Rattle.manifest_json.specs.declared.fault.Refusal.{Refusal}
use Rattle.manifest_json.specs.Faults.{◌>>=◌, refuse}
use Rattle.manifest_json.specs.Fields.{Texts}
use Rattle.manifest_json.specs.Walk.{member_path}
use Rattle.script_reader.specs.Fields.{default_of, required, whole_at, array_in}
use Rattle.script_reader.specs.Walk.{data_of, named_at}
use Rattle.pod_inputs.specs.declared.table.Table.TheVariants as tables
use Rattle.pod_inputs.specs.Fields.{needed_instant}
use Rattle.pod_inputs.specs.Rows.{rows_in}
use Rattle.pod_inputs.specs.Tables.{object_in}
use Rattle.pod_tools.specs.declared.rows.CollectInput.{CollectInput}
use Rattle.pod_tools.specs.declared.rows.MissingRow.{MissingRow}
use Rattle.pod_tools.specs.declared.rows.PlaceInput.{PlaceInput}

-- ---- missing nodes

-- no earlier member has the same node
abbrev pub unless_earlier : List ℕ → List MissingRow → MissingRow → Texts → Result (MissingRow × Texts) Refusal
unless_earlier path earlier row names =
    if list_any (λ (other : MissingRow). other.node == row.node) earlier then refuse DUPLICATE path else Ok (row, names)

unfoldable pub missing_at : Texts → List ℕ → List MissingRow → Data → Result (MissingRow × Texts) Refusal
missing_at names path earlier value = do
  d ← object_in tables.Missing WRONG_TYPE path value
  node ← named_at names path (codes "node") d
  since ← needed_instant path (codes "since") d
  unless_earlier path earlier (record { node = node.0; since = since }) node.1

-- the members from a place on, behind earlier ones
unfoldable pub missing_from : Texts → ℕ → List MissingRow → Items → Result (List MissingRow × Texts) Refusal
missing_from names place earlier no_items = Ok (earlier, names)
missing_from names place earlier (item d rest) = do
  next ← missing_at names (member_path [] (codes "/missing/") place) earlier d
  missing_from next.1 (place + 1) (earlier ++ next.0 ∷ []) rest

unfoldable pub missing_in : Texts → Data → Result (List MissingRow × Texts) Refusal
missing_in names d = do
  all ← array_in 1000 (codes "/missing") d
  missing_from names 0 [] all

-- ---- the inputs

unfoldable pub collect_at : Data → Result CollectInput Refusal
collect_at value = do
  d ← object_in tables.Collect TOP_SHAPE (codes "/") value
  now ← needed_instant [] (codes "now") d
  threshold ← whole_at 12_500 0 1_000_000 [] (codes "threshold") d
  missing ← default_of ([], fixed_names) (missing_in fixed_names) (get (codes "missing") d)
  rows ← required (codes "/objects") (rows_in missing.1) (get (codes "objects") d)
  Ok (record { names = rows.1; now = now; threshold = threshold; missing = missing.0; nodes = rows.0.nodes; pods = rows.0.pods })

unfoldable pub place_at : Data → Result PlaceInput Refusal
place_at value = do
  d ← object_in tables.Place TOP_SHAPE (codes "/") value
  rows ← required (codes "/objects") (rows_in fixed_names) (get (codes "objects") d)
  Ok (record { names = rows.1; nodes = rows.0.nodes; pods = rows.0.pods })

-- what `collect` is asked, by its bytes
unfoldable pub collect_walk : List ℕ → Result CollectInput Refusal
collect_walk bytes = do
  d ← data_of bytes
  collect_at d

-- what `place` is asked, by its bytes
unfoldable pub place_walk : List ℕ → Result PlaceInput Refusal
place_walk bytes = do
  d ← data_of bytes
  place_at d
