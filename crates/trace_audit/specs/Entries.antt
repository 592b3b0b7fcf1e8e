-- The lines of a trace's text, and what each means for the terms.
use Rattle.std.specs.Prelude.{ℕ, ◌+◌, ◌==◌, ◌&&◌, nat_le, List, [], ◌∷◌, length, Option, Some, None, if◌then◌else◌}
use Rattle.trace_lines.specs.declared.line.Line.{Line}
use Rattle.trace_lines.specs.declared.line.Says.{Says}
use Rattle.trace_lines.specs.declared.line.Says.TheVariants as says
use Rattle.trace_terms.specs.declared.role.Role.{Role}
use Rattle.trace_terms.specs.declared.role.Role.TheVariants.{Leads, Ends, Zones, Taints, Acts, Idles}
use Rattle.trace_lines.specs.Forms.{line_of}
use Rattle.trace_terms.specs.Entries.{Entry}

-- ---- lines

abbrev pub onto : ℕ → List (List ℕ) → List (List ℕ)
onto byte [] = (byte ∷ []) ∷ []
onto byte (line ∷ lines) = (byte ∷ line) ∷ lines

-- what stands before, between and behind the line feeds
abbrev pub lines_of : List ℕ → List (List ℕ)
lines_of [] = [] ∷ []
lines_of (byte ∷ text) = if byte == 10 then [] ∷ lines_of text else onto byte (lines_of text)

-- ---- the first line that is wrong or missing

-- a line with its number is of a form, and its beat isn't below that of the line before nor above the end
abbrev pub wrong_from : ℕ → ℕ → ℕ → Option (Line (List ℕ)) → (ℕ → Option ℕ) → Option ℕ
wrong_from end number before None rest = Some number
wrong_from end number before (Some line) rest = if nat_le before line.beat && nat_le line.beat end then rest line.beat else Some number

-- what stands behind the last line feed is no line, and has to be empty
abbrev pub or_unended : ℕ → List ℕ → List (List ℕ) → Option ℕ → Option ℕ
or_unended number line [] rest = if length line == 0 then None else Some number
or_unended number line (next ∷ lines) rest = rest

-- the first wrong line of those from a number on, behind a line of a beat
unfoldable pub first_wrong : ℕ → ℕ → ℕ → List (List ℕ) → Option ℕ
first_wrong end number before [] = None
first_wrong end number before (line ∷ lines) =
    or_unended number line lines (wrong_from end number before (line_of line) (λ beat. first_wrong end (number + 1) beat lines))

-- ---- what lines mean

abbrev pub role_of : {T : Type 0} → Says T → Role T
role_of (says.Lead version) = Leads
role_of says.Crash = Ends
role_of says.Stop = Ends
role_of says.End = Ends
role_of (says.Zone zone state rate) = Zones zone rate
role_of (says.Taint node taint answer) = Taints
role_of (says.Unknown node reason answer) = Acts
role_of (says.Mode on) = Acts
role_of (says.Swap node taint answer) = Acts
role_of (says.Untaint node answer) = Acts
role_of (says.Evict pod due answer) = Acts
role_of says.Start = Idles
role_of (says.Pause beats) = Idles
role_of (says.Stall beats) = Idles
role_of (says.Election verb answer transitions) = Idles
role_of (says.NodeLease verb node answer) = Idles
role_of (says.Status node ready answer) = Idles
role_of (says.Put key version) = Idles
role_of (says.Remove key version) = Idles

abbrev pub entry_of : ℕ → Line (List ℕ) → Entry
entry_of number line = record { line = number; beat = line.beat; actor = line.actor; role = role_of line.says }

abbrev pub with_entry : ℕ → Option (Line (List ℕ)) → List Entry → List Entry
with_entry number None entries = entries
with_entry number (Some line) entries = entry_of number line ∷ entries

-- the lines from a number on that are of a form, in order
unfoldable pub entries_of : ℕ → List (List ℕ) → List Entry
entries_of number [] = []
entries_of number (line ∷ lines) = with_entry number (line_of line) (entries_of (number + 1) lines)
