use Rattle.std.proofs.Common.{◌≡◌, ◌≤◌, ◌∷◌, [], length, drop}
use Rattle.trace_audit.specs.Entries.{lines_of}
use Rattle.trace_audit.proofs.audit_of.last_line.Given as goal

-- what was passed is one line
abbrev pub invariant-loop-at : goal.invariant-loop-at
invariant-loop-at l = record { within : l.at ≤ length l.text; one : lines_of (drop l.at l.text) ≡ drop l.at l.text ∷ [] }

abbrev pub decreases-loop-at : goal.decreases-loop-at
decreases-loop-at l = l.at
