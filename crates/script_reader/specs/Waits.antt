-- The waits of a controller after failed attempts, in thousandths of its retry period. Source: profile; client-go, `leaderelection`, whose
-- waits are drawn with a jitter of 1.2.
use Rattle.std.specs.Prelude.{ℕ, ◌+◌, List, [], ◌∷◌, ◌++◌, codes, Result, Ok}
use Rattle.serde_json.specs.Data.{Data, Items, no_items, item}
use Rattle.serde_json.specs.Find.{get}
use Rattle.kube_objects.specs.Rules.{own_waits}
use Rattle.manifest_json.specs.declared.fault.Refusal.{Refusal}
use Rattle.manifest_json.specs.Faults.{◌>>=◌}
use Rattle.manifest_json.specs.Walk.{member_path}
use Rattle.script_reader.specs.declared.choice.Preset.{Preset}
use Rattle.script_reader.specs.declared.choice.Preset.TheVariants as presets
use Rattle.script_reader.specs.Fields.{under, default_of, whole_in, array_in, not_empty}

abbrev pub wait_in : List ℕ → Data → Result ℕ Refusal
wait_in path d = whole_in 1_000 2_200 path d

-- the waits from a place on, behind earlier ones
unfoldable pub waits_from : List ℕ → ℕ → List ℕ → Items → Result (List ℕ) Refusal
waits_from path place earlier no_items = Ok earlier
waits_from path place earlier (item d rest) = do
  wait ← wait_in (member_path path (codes "/") place) d
  waits_from path (place + 1) (earlier ++ wait ∷ []) rest

-- one to 1,000 waits
unfoldable pub waits_in : List ℕ → Data → Result (List ℕ) Refusal
waits_in path d = do
  all ← array_in 1_000 path d
  some ← not_empty path all
  waits_from path 0 [] some

-- each failed attempt waits a whole retry period, or by the rules of Kubernetes the mean of what is drawn there: a period and 0 to 1.2 more
abbrev pub usual_waits : Preset → List ℕ
usual_waits presets.Own = own_waits
usual_waits presets.Upstream120 = 1_600 ∷ []
usual_waits presets.Upstream136 = 1_600 ∷ []

-- the waits under their key, or those of the preset
abbrev pub waits_at : Preset → List ℕ → Data → Result (List ℕ) Refusal
waits_at preset path d = default_of (usual_waits preset) (waits_in (under path (codes "waits"))) (get (codes "waits") d)
