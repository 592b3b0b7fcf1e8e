-- What a document is answered.
use Rattle.std.specs.Prelude.{Bool, true, false, Result, Ok, Err}
use Rattle.history.specs.Premise.{lease_premise}
use Rattle.run_edge.specs.Outcome.{Reply, refusal}
use Rattle.run_edge.specs.declared.status.Verdict.{Verdict}
use Rattle.run_edge.specs.declared.status.Verdict.TheVariants.{Safe, Unsafe}
use Rattle.manifest_json.specs.declared.fault.Refusal.{Refusal}
use Rattle.script_reader.specs.declared.document.Document.{Document}
use Rattle.script_reader.specs.Documents.{doc_of}
use Rattle.lens_room.specs.Lines.{lines_text}

abbrev pub verdict_of : Bool → Verdict
verdict_of true = Safe
verdict_of false = Unsafe

-- a document's lines; it is safe exactly where its lease premise holds
abbrev pub margins : Document → Reply
margins d = record { verdict = verdict_of (lease_premise (doc_of d)); text = lines_text d (lease_premise (doc_of d)) }

abbrev pub found : Result Document Refusal → Reply
found (Ok d) = margins d
found (Err r) = refusal r.code r.path
