-- The lines on the margins of a document.
use Rattle.std.specs.Prelude.{ℕ, zero, suc, ◌-◌, nat_le, Bool, true, false, List, [], ◌++◌, length, codes, decimal, Option, Some, None, if◌then◌else◌}
use Rattle.kube_objects.specs.Document.{field, process_at}
use Rattle.script_reader.specs.declared.document.Document.{Document}
use Rattle.script_reader.specs.Documents.{doc_of}
use Rattle.trace_writer.specs.Names.{text_of}
use Rattle.lens_margin.specs.declared.margin.Margin.{Margin}
use Rattle.lens_margin.specs.Margins.{margin_of}
use Rattle.lens_room.specs.Late.{late_text}

unfoldable pub bound_text : ℕ → ℕ → List ℕ
bound_text lease must = codes " lease=" ++ decimal lease ++ codes "ms must-exceed=" ++ decimal must

unfoldable pub slack_text : ℕ → ℕ → List ℕ
slack_text lease must =
    if nat_le must lease then codes "ms slack=" ++ decimal (lease - must) else codes "ms slack=-" ++ decimal (must - lease)

unfoldable pub least_text : Option ℕ → List ℕ
least_text (Some seconds) = codes "ms least-lease=" ++ decimal seconds ++ codes "s"
least_text None = codes "ms least-lease=none"

unfoldable pub stall_text : Option ℕ → List ℕ
stall_text (Some millis) = codes " longest-stall=" ++ decimal millis ++ codes "ms\n"
stall_text None = codes " longest-stall=none\n"

-- a controller's name and its numbers
unfoldable pub margin_line : List ℕ → Margin → List ℕ
margin_line name m =
    name ++ bound_text m.lease m.must_exceed ++ slack_text m.lease m.must_exceed ++ least_text m.least_seconds ++ stall_text m.longest_stall

abbrev pub verdict_text : Bool → List ℕ
verdict_text true = codes "safe\n"
verdict_text false = codes "unsafe\n"

-- the line of the controller at a place
abbrev pub line_at : Document → ℕ → List ℕ
line_at d p = margin_line (text_of d.names (field (λ x. x.name) 0 (process_at (doc_of d) p))) (margin_of (doc_of d) p)

-- the lines of the controllers below a place
abbrev pub lines_below : Document → ℕ → List ℕ
lines_below d zero = []
lines_below d (suc p) = lines_below d p ++ line_at d p

-- the line of each controller, the reply for which no lease is enough, if there is one, and the verdict
unfoldable pub lines_text : Document → Bool → List ℕ
lines_text d safe = lines_below d (length d.controllers) ++ late_text d ++ verdict_text safe
