-- The waits of a controller that was read lie in their range, and there are one to 1,000.
use Rattle.std.proofs.Common.{◌≡◌, ℕ, ◌+◌, ◌++◌, List, [], ◌∷◌, length, codes, arith, length-append}
use Rattle.std.specs.Prelude.{All}
use Rattle.std.proofs.lemmas.List.Elements.{All-push, All-nil}
use Rattle.serde_json.specs.Data.{Data, Items, no_items, item}
use Rattle.serde_json.specs.Find.{get}
use Rattle.manifest_laws.proofs.Getting.{Gets, done, weaker, and_then}
use Rattle.manifest_json.specs.Walk.{items_len, member_path}
use Rattle.script_reader.specs.Fields.{under}
use Rattle.script_reader.specs.Lawful.{AreWaits}
use Rattle.script_reader.specs.declared.choice.Preset.{Preset}
use Rattle.script_reader.specs.declared.choice.Preset.TheVariants as presets
use Rattle.script_reader.specs.Waits.{waits_from, waits_in, usual_waits, waits_at}
use Rattle.script_reader.proofs.OwnWaits.{own-waits}
use Rattle.document_laws.proofs.FieldRanges.{IsIn, whole_in-in, of_default, array-few, not_empty-some}

abbrev AreIn : List ℕ → Type 0
AreIn waits = All (IsIn 1000 2200) waits

waits_from-in : (path : List ℕ) (place : ℕ) (earlier : List ℕ) (rest : Items) → AreIn earlier
    → Gets (λ waits. AreIn waits × (length waits ≡ length earlier + items_len rest)) (waits_from path place earlier rest)
unfolding waits_from
waits_from-in path place earlier no_items all = done earlier (all, omega arith)
waits_from-in path place earlier (item d rest) all =
    and_then (whole_in-in 1000 2200 (member_path path (codes "/") place) d) (λ wait is.
    weaker (waits_from-in path (place + 1) (earlier ++ wait ∷ []) rest (All-push (IsIn 1000 2200) earlier wait all is))
    (λ waits h. (h.0, omega (arith, h.1, length-append earlier (wait ∷ [])))))

mean-in : AreWaits (1600 ∷ [])
mean-in = record { some = omega arith; few = omega arith; each = All-push (IsIn 1000 2200) [] 1600 (All-nil (IsIn 1000 2200)) (omega arith, omega arith) }

waits-in : (path : List ℕ) (d : Data) → Gets AreWaits (waits_in path d)
unfolding waits_in
waits-in path d =
    and_then (array-few 1000 path d) (λ all few.
    and_then (not_empty-some 1000 path all few) (λ some many.
    weaker (waits_from-in path 0 [] some (All-nil (IsIn 1000 2200)))
    (λ waits h. record { some = omega (arith, h.1, many.0); few = omega (arith, h.1, many.1); each = h.0 })))

-- so are those of each preset
usual-in : (preset : Preset) → AreWaits (usual_waits preset)
usual-in presets.Own = own-waits
usual-in presets.Upstream120 = mean-in
usual-in presets.Upstream136 = mean-in

pub waits_at-in : (preset : Preset) (path : List ℕ) (d : Data) → Gets AreWaits (waits_at preset path d)
waits_at-in preset path d =
    of_default (waits_in (under path (codes "waits"))) (usual_waits preset) (get (codes "waits") d) (usual-in preset) (waits-in (under path (codes "waits")))
