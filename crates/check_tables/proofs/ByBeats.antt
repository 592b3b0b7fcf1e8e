-- A document that is read twice is the same one.
use Rattle.std.specs.Prelude.{◌≡◌, List, Option, Some, Result, Ok, Err, IfSome}
use Rattle.std.specs.List.{All}
use Rattle.std.proofs.Common.{sym, ◌∙◌, subst}
use Rattle.kube_objects.specs.declared.deed.Deed.{Deed}
use Rattle.kube_objects.specs.Document.{processes}
use Rattle.kube_objects.specs.Writable.{IsWritable}
use Rattle.manifest_json.specs.declared.fault.Refusal.{Refusal}
use Rattle.script_reader.specs.declared.document.Document.{Document}
use Rattle.script_reader.specs.Documents.{doc_of}

abbrev Reads : Result Document Refusal → Option Document → Type 0
Reads walk found = IfSome found (λ d. walk ≡ Ok d)

-- the document that was found is the one of the walk
pub found : (walk : Result Document Refusal) (was : Option Document) (d : Document) → Reads walk was → was ≡ Some d → walk ≡ Ok d
found walk was d held is = subst (Reads walk) is held

abbrev HaveLines : List Deed → Result Document Refusal → Type 0
HaveLines deeds (Ok d) = All (IsWritable d.names (processes (doc_of d))) deeds
HaveLines deeds (Err r) = Unit {0}

-- what has lines with the one has lines with the other
pub same : (deeds : List Deed) (walk : Result Document Refusal) (played named : Document) → walk ≡ Ok played → walk ≡ Ok named
    → HaveLines deeds (Ok played) → HaveLines deeds (Ok named)
same deeds walk played named first second held = subst (HaveLines deeds) (sym first ∙ second) held
