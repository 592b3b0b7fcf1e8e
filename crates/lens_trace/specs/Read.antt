-- The line that a text is.
use Rattle.std.specs.Prelude.{ℕ, List, option_to_list}
use Rattle.trace_lines.specs.declared.line.Line.{Line}
use Rattle.trace_lines.specs.Forms.{line_of}

-- the line that a text is, where it is of a form
abbrev pub line_in : List ℕ → List (Line (List ℕ))
line_in text = option_to_list (line_of text)
