-- Times of the two inputs, and fields of manifests that only these look at. Source: profile.
use Rattle.std.specs.Prelude.{ℕ, Bool, false, List, Option, Some, None, Result, Ok}
use Rattle.serde_json.specs.Data.{Data}
use Rattle.serde_json.specs.Find.{get, as_bool}
use Rattle.kube_base.specs.Times.{time_of}
use Rattle.kube_base.specs.declared.numbers.Wall.{Wall}
use Rattle.manifest_json.specs.declared.codes.TheConstants.{OUT_OF_RANGE, WRONG_JSON}
use Rattle.manifest_json.specs.declared.fault.Refusal.{Refusal}
use Rattle.manifest_json.specs.Faults.{◌>>=◌}
use Rattle.manifest_json.specs.Fields.{or_refuse}
use Rattle.script_reader.specs.Fields.{under, required, text_in}

-- a time as RFC 3339 has it
unfoldable pub instant_in : List ℕ → Data → Result Wall Refusal
instant_in path d = do
  text ← text_in path d
  or_refuse (time_of text) OUT_OF_RANGE path

-- the same, under a key that is required
abbrev pub needed_instant : List ℕ → List ℕ → Data → Result Wall Refusal
needed_instant path key d = required (under path key) (instant_in (under path key)) (get key d)

-- a manifest's truth value, which is false where it is missing
abbrev pub flag_at : List ℕ → Option Data → Result Bool Refusal
flag_at path None = Ok false
flag_at path (Some d) = or_refuse (as_bool d) WRONG_JSON path
