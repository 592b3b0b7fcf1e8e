-- What a line is, and how what it writes was answered.
use Rattle.std.specs.Prelude.{ℕ, Bool, true, false, List, codes}
use Rattle.trace_lines.specs.declared.line.Answer.{Answer}
use Rattle.trace_lines.specs.declared.line.Answer.TheVariants as answer
use Rattle.trace_lines.specs.declared.line.Verb.TheVariants.{Create, Update}
use Rattle.trace_lines.specs.declared.line.Says.{Says}
use Rattle.trace_lines.specs.declared.line.Says.TheVariants as says
use Rattle.lens_trace.specs.LineMembers.{kind_word}
use Rattle.lens_summary.specs.declared.outcome.Outcome.{Outcome}
use Rattle.lens_summary.specs.declared.outcome.Outcome.TheVariants.{Unasked, Written, Conflict, Absent, Exists}

abbrev pub by_answer : Answer → Outcome
by_answer (answer.Done version) = Written
by_answer (answer.Conflict version) = Conflict
by_answer answer.Absent = Absent
by_answer answer.Exists = Exists

-- how what a line writes was answered; what the script writes is taken
abbrev pub outcome_of : {T : Type 0} → Says T → Outcome
outcome_of says.Start = Unasked
outcome_of says.Crash = Unasked
outcome_of says.Stop = Unasked
outcome_of says.End = Unasked
outcome_of (says.Pause beats) = Unasked
outcome_of (says.Stall beats) = Unasked
outcome_of (says.Lead version) = Unasked
outcome_of (says.Election verb answer transitions) = by_answer answer
outcome_of (says.NodeLease verb node answer) = by_answer answer
outcome_of (says.Status node ready answer) = by_answer answer
outcome_of (says.Put key version) = Written
outcome_of (says.Remove key version) = Written
outcome_of (says.Unknown node reason answer) = by_answer answer
outcome_of (says.Mode on) = Unasked
outcome_of (says.Zone zone state rate) = Unasked
outcome_of (says.Taint node taint answer) = by_answer answer
outcome_of (says.Swap node taint answer) = by_answer answer
outcome_of (says.Untaint node answer) = by_answer answer
outcome_of (says.Evict pod due answer) = by_answer answer

-- the word for what a line is: which object a Lease is written as, or the word behind the actor
abbrev pub word_of : {T : Type 0} → Says T → List ℕ
word_of (says.Election Create answer transitions) = codes "create-election"
word_of (says.Election Update answer transitions) = codes "update-election"
word_of (says.NodeLease verb node answer) = codes "nodelease"
word_of other = kind_word other

-- both are the same answer to a write
abbrev pub same : Outcome → Outcome → Bool
same Written Written = true
same Conflict Conflict = true
same Absent Absent = true
same Exists Exists = true
same one other = false
