-- The first key of an object that isn't known there.
use Rattle.std.specs.Prelude.{ℕ, ◌==◌, ◌&&◌, Bool, not, List, [], ◌∷◌, ◌++◌, drop, codes, Option, Some, None, option_and_then, cond, if◌then◌else◌}
use Rattle.std.specs.List.{list_any}
use Rattle.std.specs.Option.{unwrap_or}
use Rattle.std.specs.Str.{is_utf8}
use Rattle.lens_explain.specs.Keys.{KeyAt, keys_of}
use Rattle.lens_explain.specs.Ways.{begins, led}
use Rattle.script_reader.specs.Tables.{is_four, is_key_of}
use Rattle.script_reader.specs.Walk.{type_of}
use Rattle.script_reader.specs.declared.table.EventType.{EventType}
use Rattle.script_reader.specs.declared.table.EventType.TheVariants as types
use Rattle.script_reader.specs.declared.table.Table.{Table}
use Rattle.script_reader.specs.declared.table.Table.TheVariants as tables
use Rattle.script_reader.specs.declared.table.Version.{Version}
use Rattle.script_reader.specs.declared.table.Version.TheVariants as versions
use Rattle.serde_json.specs.Data.{Data}
use Rattle.serde_json.specs.Find.{as_number, as_str, as_u64, get, pointer}

-- ---- the keys that a document has at a path

abbrev pub version_or_one : Option ℕ → Version
version_or_one None = versions.One
version_or_one (Some n) = if n == 2 then versions.Two else if n == 3 then versions.Three else if n == 4 then versions.Four else versions.One

unfoldable pub version_in : Data → Version
version_in d = version_or_one (option_and_then as_u64 (option_and_then as_number (get (codes "version") d)))

abbrev pub text_at : List ℕ → Data → Option (List ℕ)
text_at path d = if is_utf8 path then option_and_then as_str (pointer path d) else None

abbrev pub kind_or_crash : Version → Option (List ℕ) → EventType
kind_or_crash version None = types.Crash
kind_or_crash version (Some text) = unwrap_or (type_of version text) types.Crash

-- the type of the event at a path
unfoldable pub kind_at : List ℕ → Data → EventType
kind_at path d = kind_or_crash (version_in d) (text_at (path ++ codes "/type") d)

-- behind "/podSets/": that of a set of pods, or of a member of its `on`
abbrev pub set_table : List ℕ → Table
set_table path = if list_any (λ byte. byte == 47) (drop 9 path) then tables.Share else tables.PodSet

unfoldable pub table_at : List ℕ → Data → Table
table_at path d =
    if begins (codes "/settings") path then tables.Settings (version_in d)
    else if begins (codes "/controllers/") path then tables.Controller (version_in d)
    else if begins (codes "/kubelets/") path then tables.Kubelet
    else if begins (codes "/podSets/") path then set_table path
    else if begins (codes "/events/") path then tables.Event (kind_at path d)
    else tables.Top (is_four (version_in d))

-- ---- the first key of an object, as it is written, that isn't among these

abbrev pub is_odd : Table → ℕ → KeyAt → Bool
is_odd table owner key = key.owner == owner && not (is_key_of table key.text)

abbrev pub first_odd : Table → ℕ → List KeyAt → Option KeyAt
first_odd table owner [] = None
first_odd table owner (key ∷ keys) = cond (is_odd table owner key) (Some key) (first_odd table owner keys)

-- that of the object at a path
abbrev pub odd_at : Data → List ℕ → List ℕ → Option KeyAt
odd_at d input path = first_odd (table_at path d) (led path input).place (keys_of input)

abbrev pub place_or : ℕ → Option KeyAt → ℕ
place_or place None = place
place_or place (Some key) = key.place

-- its place, or that of the object if it has none
unfoldable pub odd_place : Data → List ℕ → List ℕ → ℕ
odd_place d input path = place_or (led path input).place (odd_at d input path)
