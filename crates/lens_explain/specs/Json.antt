-- What is said of a document, as one JSON object.
use Rattle.std.specs.Prelude.{ℕ, true, false, List, [], ◌∷◌, ◌++◌, length, map, codes}
use Rattle.serde_json.specs.Data.{boolean}
use Rattle.serde_json.specs.Written.{compact_text}
use Rattle.lens_json.specs.Members.{Named, nat, text, object_of}
use Rattle.lens_json.specs.Parts.{list_of}
use Rattle.lens_explain.specs.Slips.{Slip, is_unheard, slips}
use Rattle.lens_explain.specs.declared.place.Shown.{Shown}
use Rattle.lens_explain.specs.declared.twice.Warning.{Warning}
use Rattle.manifest_json.specs.declared.fault.Refusal.{Refusal}
use Rattle.script_reader.specs.declared.document.Document.{Document}

-- both places of a key that is there twice
abbrev pub warning_members : Warning → List Named
warning_members w =
    nat (codes "line") w.first.line ∷ nat (codes "column") w.first.column ∷ text (codes "found") w.first.text.now
    ∷ nat (codes "againLine") w.again.line ∷ nat (codes "againColumn") w.again.column ∷ text (codes "againFound") w.again.text.now ∷ []

-- a value that looks as if it was meant in another unit, and what is likely meant
abbrev pub slip_members : Slip → List Named
slip_members s = text (codes "path") s.path ∷ nat (codes "value") s.value ∷ nat (codes "likely") s.likely ∷ []

-- the counts of a document, and its warnings
abbrev pub formed_members : Document → List Warning → List Named
formed_members d ws =
    (codes "wellFormed", boolean true) ∷ nat (codes "controllers") (length d.controllers) ∷ nat (codes "kubelets") (length d.kubelets)
    ∷ nat (codes "objects") (length d.objects.items) ∷ nat (codes "skipped") d.objects.skipped ∷ nat (codes "events") (length d.events)
    ∷ (codes "warnings", list_of (map warning_members ws)) ∷ (codes "units", list_of (map slip_members (slips d)))
    ∷ (codes "noKubelets", boolean (is_unheard d)) ∷ []

unfoldable pub formed_json : Document → List Warning → List ℕ
formed_json d ws = compact_text (object_of (formed_members d ws)) ++ codes "\n"

-- a refusal, what is shown of its place, and further lines
abbrev pub refused_members : Refusal → Shown → List ℕ → List Named
refused_members r s more =
    (codes "wellFormed", boolean false) ∷ nat (codes "code") r.code ∷ text (codes "path") r.path ∷ nat (codes "line") s.line
    ∷ nat (codes "column") s.column ∷ text (codes "found") s.text.now ∷ text (codes "why") more ∷ []

unfoldable pub refused_json : Refusal → Shown → List ℕ → List ℕ
refused_json r s more = compact_text (object_of (refused_members r s more)) ++ codes "\n"
