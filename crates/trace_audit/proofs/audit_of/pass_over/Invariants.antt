use Rattle.std.proofs.Common.{◌≡◌, ◌≤◌, ◌+◌, ℕ, List, ◌∷◌, ◌++◌, length, MatchOption}
use Rattle.trace_audit.specs.Entries.{lines_of}
use Rattle.trace_audit.specs.Passes.{PassStands, IsReady}
use Rattle.trace_audit.proofs.audit_of.pass_over.Given as goal

-- what was passed is a line and those behind it, and its number is known
abbrev pub invariant-lines : goal.invariant-lines
invariant-lines l =
    (line : List ℕ) × (behind : List (List ℕ))
    × MatchOption l.rest (lines_of l.fn.text ≡ line ∷ behind) (λ before. lines_of l.fn.text ≡ lines_of before.now ++ line ∷ behind)
    × PassStands l.fn.header l.number (line ∷ behind) l.pass
    × (l.number + length behind ≡ l.fn.lines + 1)
    × IsReady l.pass
    × (l.pass.review.leads ≤ length behind)
    × (l.pass.review.taints ≤ length behind)

abbrev pub decreases-lines : goal.decreases-lines
decreases-lines l = l.number
