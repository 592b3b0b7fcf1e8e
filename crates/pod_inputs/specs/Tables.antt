-- The keys of each object of the two inputs. Source: profile.
use Rattle.std.specs.Prelude.{ℕ, ◌||◌, Bool, List, codes, Result}
use Rattle.std.specs.Str.{bytes_eq}
use Rattle.serde_json.specs.Data.{Data}
use Rattle.manifest_json.specs.declared.fault.Refusal.{Refusal}
use Rattle.manifest_json.specs.Faults.{◌>>=◌}
use Rattle.script_reader.specs.Fields.{object_at}
use Rattle.script_reader.specs.Tables.{known_by}
use Rattle.pod_inputs.specs.declared.table.Table.{Table}
use Rattle.pod_inputs.specs.declared.table.Table.TheVariants as tables

abbrev pub is_key_of : Table → List ℕ → Bool
is_key_of tables.Collect key =
    bytes_eq key (codes "now") || bytes_eq key (codes "threshold") || bytes_eq key (codes "missing") || bytes_eq key (codes "objects")
is_key_of tables.Place key = bytes_eq key (codes "objects")
is_key_of tables.Missing key = bytes_eq key (codes "node") || bytes_eq key (codes "since")

-- an object, else a refusal with this code, that has no key that its table doesn't have
unfoldable pub object_in : Table → ℕ → List ℕ → Data → Result Data Refusal
object_in table code path value = do
  d ← object_at code path value
  known_by (is_key_of table) path d
