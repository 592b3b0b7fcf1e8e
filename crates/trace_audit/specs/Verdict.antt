-- The audit of a trace.
use Rattle.std.specs.Prelude.{ℕ, ◌+◌, List, length, count_by, Option, Some, None, Result, Ok, Err}
use Rattle.trace_audit.specs.declared.audit_of.Report.{Report}
use Rattle.trace_lines.specs.declared.header.Header.{Header}
use Rattle.trace_lines.specs.Headers.{header_of}
use Rattle.trace_terms.specs.Entries.{Entry}
use Rattle.trace_terms.specs.Terms.{terms, is_lead, is_taint}
use Rattle.trace_terms.specs.Findings.{least, crossed, outside, unspaced}
use Rattle.trace_lines.specs.Grammar.{cut}
use Rattle.trace_audit.specs.Entries.{lines_of, entries_of, first_wrong}

-- a refusal: its code, and its line from 1
pub record Fault : Type 0 where
  pub code : ℕ
  pub line : ℕ

-- a line at fault is refused with the code
abbrev pub unless : {A : Type 0} → ℕ → Option ℕ → Result A Fault → Result A Fault
unless code None result = result
unless code (Some line) result = Err (record { code = code; line = line })

abbrev pub report : ℕ → List Entry → Report
report count es = record { lines = count; terms = count_by (λ e. is_lead e.role) es; taints = count_by (λ e. is_taint e.role) es }

-- the terms of a trace that ends before a beat
unfoldable pub reviewed : ℕ → ℕ → ℕ → List Entry → Result Report Fault
reviewed millis stop count es =
    unless 41 (least (crossed (terms stop es)))
    (unless 42 (least (outside es (terms stop es)))
    (unless 43 (least (unspaced millis (terms stop es))) (Ok (report count es))))

-- the lines behind the first
unfoldable pub judged : Header → List (List ℕ) → Result Report Fault
judged header lines =
    unless 40 (first_wrong header.end 2 0 lines) (reviewed header.beat_millis (header.end + 1) (length lines) (entries_of 2 lines))

abbrev pub headed : Option Header → List ℕ → Result Report Fault
headed None rest = Err (record { code = 40; line = 1 })
headed (Some header) rest = judged header (lines_of rest)

abbrev pub split : Option (List ℕ × List ℕ) → Result Report Fault
split None = Err (record { code = 40; line = 1 })
split (Some parts) = headed (header_of parts.0) parts.1

-- what a text is answered: a report on a trace that is safe, or the first fault
unfoldable pub verdict : List ℕ → Result Report Fault
verdict text = split (cut 10 text)
