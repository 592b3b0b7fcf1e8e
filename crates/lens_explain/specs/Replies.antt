-- What is said of a document.
use Rattle.std.specs.Prelude.{◌≡◌, ℕ, Bool, List, ◌++◌, length, codes, decimal, Result, Ok, Err, if◌then◌else◌}
use Rattle.std.specs.List.{AllZip, flat_map}
use Rattle.run_edge.specs.Outcome.{Reply, refusal_text}
use Rattle.run_edge.specs.declared.status.Verdict.TheVariants.{Done, Refused}
use Rattle.lens_explain.specs.declared.place.Shown.{Shown}
use Rattle.lens_explain.specs.declared.twice.Warning.{Warning}
use Rattle.lens_explain.specs.Keys.{doubled}
use Rattle.lens_explain.specs.Places.{IsShownOf, shown_text}
use Rattle.lens_explain.specs.Slips.{is_unheard, slip_text, slips, unheard_text}
use Rattle.lens_explain.specs.Warnings.{IsWarning, warning_text}
use Rattle.manifest_json.specs.declared.fault.Refusal.{Refusal}
use Rattle.script_reader.specs.declared.document.Document.{Document}
use Rattle.script_reader.specs.Walk.{document_walk}
use Rattle.lens_explain.specs.Json.{formed_json, refused_json}

-- ---- in lines

-- the counts of a document
unfoldable pub well_formed_text : Document → List ℕ
well_formed_text d =
    (codes "well-formed controllers=" ++ decimal (length d.controllers)) ++ ((codes " kubelets=" ++ decimal (length d.kubelets))
    ++ ((codes " objects=" ++ decimal (length d.objects.items)) ++ ((codes " skipped=" ++ decimal d.objects.skipped)
    ++ ((codes " events=" ++ decimal (length d.events)) ++ codes "\n"))))

-- the counts, the keys that are there twice, values that look as if they were meant in another unit, and nodes of which nothing is heard
unfoldable pub formed_text : Document → List Warning → List ℕ
formed_text d ws = well_formed_text d ++ (flat_map warning_text ws ++ (flat_map slip_text (slips d) ++ unheard_text (is_unheard d)))

-- the line of the refusal, and why: the line on a place of the input, and further lines
unfoldable pub refused_text : Refusal → Shown → List ℕ → List ℕ
refused_text r s more = refusal_text r.code r.path ++ (shown_text s ++ more)

-- ---- in either form

abbrev pub said_text : Bool → Document → List Warning → List ℕ
said_text as_json d ws = if as_json then formed_json d ws else formed_text d ws

abbrev pub formed : Bool → Document → List Warning → Reply
formed as_json d ws = record { verdict = Done; text = said_text as_json d ws }

abbrev pub refused : Bool → Refusal → Shown → List ℕ → Reply
refused as_json r s more = record { verdict = Refused; text = if as_json then refused_json r s more else refused_text r s more }

-- the counts, and a warning of each key that is there twice, of the first twenty of them
pub record IsFormed (as_json : Bool) (input : List ℕ) (d : Document) (reply : Reply) : Type 0 where
  pub warnings : List Warning
  pub warned : AllZip (IsWarning input) (doubled input) warnings
  pub is : reply ≡ formed as_json d warnings

-- the refusal, its place, and further lines
pub record IsRefused (as_json : Bool) (input : List ℕ) (r : Refusal) (reply : Reply) : Type 0 where
  pub shown : Shown
  pub is_shown : IsShownOf input r.code r.path shown
  pub more : List ℕ
  pub is : reply ≡ refused as_json r shown more

-- what is said of the document in these bytes, or of its first refusal
abbrev pub Explains : Bool → List ℕ → Result Document Refusal → Reply → Type 0
Explains as_json input (Ok d) reply = IsFormed as_json input d reply
Explains as_json input (Err r) reply = IsRefused as_json input r reply

abbrev pub IsExplained : Bool → List ℕ → Reply → Type 0
IsExplained as_json input reply = Explains as_json input (document_walk input) reply
