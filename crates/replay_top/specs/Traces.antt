-- The text of a trace.
use Rattle.std.specs.Prelude.{ℕ, List, ◌++◌}
use Rattle.kube_objects.specs.Document.{Doc}
use Rattle.history.specs.History.{history, whole_history}
use Rattle.history.specs.Premise.{lease_premise}
use Rattle.history.specs.Printed.{printed}
use Rattle.script_reader.specs.declared.document.Document.{Document}
use Rattle.script_reader.specs.Documents.{doc_of}
use Rattle.trace_writer.specs.Lines.{first_line, lines_of}
use Rattle.replay_top.specs.Names.{process_names}

-- the first line of a document's trace
unfoldable pub first_of : Doc → List ℕ
first_of doc = first_line (record { beat_millis = doc.settings.beat_millis; end = doc.settings.end_beat }) (lease_premise doc)

-- the first line, then the line of each printed entry before beat k
unfoldable pub trace_before : Doc → List (List ℕ) → List (List ℕ) → ℕ → List ℕ
trace_before doc names processes k = first_of doc ++ lines_of names processes (printed (history doc k))

-- the first line, then the line of each printed entry in order
unfoldable pub trace_of : Doc → List (List ℕ) → List (List ℕ) → List ℕ
trace_of doc names processes = first_of doc ++ lines_of names processes (printed (whole_history doc))

unfoldable pub trace : Document → List ℕ
trace d = trace_of (doc_of d) d.names (process_names d.names (doc_of d))
