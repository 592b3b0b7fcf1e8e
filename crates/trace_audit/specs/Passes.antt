-- What is known of a trace's lines from the last one back.
use Rattle.std.specs.Prelude.{◌≡◌, ℕ, ◌+◌, ◌≤◌, nat_lt, Bool, false, List, [], ◌∷◌, length, if◌then◌else◌}
use Rattle.std.specs.Prelude.{Option, Some, None, Result, Ok, Err}
use Rattle.trace_lines.specs.declared.header.Header.{Header}
use Rattle.trace_lines.specs.declared.line.Line.{Line}
use Rattle.trace_lines.specs.Forms.{line_of}
use Rattle.trace_terms.specs.Reviews.{ReviewStands}
use Rattle.trace_audit.specs.declared.fault.AuditFault.{AuditFault}
use Rattle.trace_audit.specs.declared.fault.AuditFault.TheVariants as faults
use Rattle.trace_audit.specs.declared.pass.Pass.{Pass}
use Rattle.trace_audit.specs.Entries.{entries_of, first_wrong}
use Rattle.trace_audit.specs.Verdict.{Fault}

-- the beat of the first of some lines, where it is of a form and ended
abbrev pub beat_from : Option (Line (List ℕ)) → Option ℕ
beat_from None = None
beat_from (Some line) = Some line.beat

abbrev pub next_beat : List (List ℕ) → Option ℕ
next_beat [] = None
next_beat (line ∷ []) = None
next_beat (line ∷ next ∷ lines) = beat_from (line_of line)

-- what is known of the lines from a number on; the review where none of them is wrong
pub record PassStands (header : Header) (number : ℕ) (lines : List (List ℕ)) (p : Pass) : Type 0 where
  pub header_is : p.header ≡ header
  pub wrong : p.wrong ≡ first_wrong header.end number 0 lines
  pub next : p.next ≡ next_beat lines
  pub review : p.wrong ≡ None → ReviewStands header.beat_millis header.end (entries_of number lines) p.review

-- what a pass counts with
pub record IsReady (p : Pass) : Type 0 where
  pub end : p.review.end ≤ 604800000
  pub even : length p.review.seats.items ≡ length p.review.actors

abbrev pub is_below : Option ℕ → ℕ → Bool
is_below None other = false
is_below (Some beat) other = nat_lt beat other

-- the first wrong line with one more, of this beat, before those so far
abbrev pub wrong_with : ℕ → ℕ → Pass → Option ℕ
wrong_with number beat p =
    if nat_lt p.header.end beat then Some number else (if is_below p.next beat then Some (number + 1) else p.wrong)

-- a report, or the first fault, unless memory ran out
abbrev pub Fails : {A : Type 0} → AuditFault → Result A Fault → Type 0
Fails faults.NoMemory told = Unit {0}
Fails (faults.Refused code line) told = told ≡ Err (record { code = code; line = line })

abbrev pub Tells : {A : Type 0} → Result A AuditFault → Result A Fault → Type 0
Tells (Ok x) told = told ≡ Ok x
Tells (Err fault) told = Fails fault told
