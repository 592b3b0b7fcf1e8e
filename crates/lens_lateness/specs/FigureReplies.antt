-- What a document and its trace are answered as one JSON object.
use Rattle.std.specs.Prelude.{ℕ, List, Result, Ok, Err}
use Rattle.run_edge.specs.Outcome.{Reply, refusal}
use Rattle.lens_trace.specs.Traces.{trace_reply}
use Rattle.manifest_json.specs.declared.fault.Refusal.{Refusal}
use Rattle.script_reader.specs.declared.document.Document.{Document}
use Rattle.script_reader.specs.Walk.{document_walk}
use Rattle.lens_lateness.specs.Figures.{figures}
use Rattle.lens_lateness.specs.Input.{document_part, trace_part}

abbrev pub found : Result Document Refusal → List ℕ → Reply
found (Ok d) trace = trace_reply (figures d) trace
found (Err r) trace = refusal r.code r.path

-- what an input is answered: a document and its trace, as `summary --document` reads them
unfoldable pub figures_reply : List ℕ → Reply
figures_reply input = found (document_walk (document_part input)) (trace_part input)
