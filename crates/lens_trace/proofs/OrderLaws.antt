-- The members of each line stand in one order.
use Rattle.std.proofs.Common.{◌≡◌, ℕ, true, List, map, refl}
use Rattle.trace_lines.specs.declared.line.Answer.{Answer}
use Rattle.trace_lines.specs.declared.line.Answer.TheVariants.{Done, Conflict, Absent, Exists}
use Rattle.trace_lines.specs.declared.line.Line.{Line}
use Rattle.trace_lines.specs.declared.line.Says.{Says}
use Rattle.trace_lines.specs.declared.line.Says.TheVariants as says
use Rattle.trace_lines.specs.declared.line.Verb.TheVariants.{Create, Update}
use Rattle.lens_trace.specs.LineLaws.{all_names, are_some_of}
use Rattle.lens_trace.specs.LineMembers.{line_members}

-- what holds of each answer
pub each-answer : (P : Answer → Type 0) → ((v : ℕ) → P (Done v)) → ((v : ℕ) → P (Conflict v)) → P Absent → P Exists → (a : Answer) → P a
each-answer P done conflict absent exists (Done v) = done v
each-answer P done conflict absent exists (Conflict v) = conflict v
each-answer P done conflict absent exists Absent = absent
each-answer P done conflict absent exists Exists = exists

abbrev IsOrdered : ℕ → List ℕ → Says (List ℕ) → Type 0
IsOrdered beat actor s = are_some_of all_names (map (λ m. m.0) (line_members (let l : Line (List ℕ) = record { beat = beat; actor = actor; says = s } in l))) ≡ true

ordered : (beat : ℕ) (actor : List ℕ) (s : Says (List ℕ)) → IsOrdered beat actor s
ordered beat actor says.Start = refl
ordered beat actor says.Crash = refl
ordered beat actor says.Stop = refl
ordered beat actor says.End = refl
ordered beat actor (says.Pause beats) = refl
ordered beat actor (says.Stall beats) = refl
ordered beat actor (says.Lead version) = refl
ordered beat actor (says.Election Create answer transitions) = each-answer (λ a. IsOrdered beat actor (says.Election Create a transitions)) (λ v. refl) (λ v. refl) refl refl answer
ordered beat actor (says.Election Update answer transitions) = each-answer (λ a. IsOrdered beat actor (says.Election Update a transitions)) (λ v. refl) (λ v. refl) refl refl answer
ordered beat actor (says.NodeLease Create node answer) = each-answer (λ a. IsOrdered beat actor (says.NodeLease Create node a)) (λ v. refl) (λ v. refl) refl refl answer
ordered beat actor (says.NodeLease Update node answer) = each-answer (λ a. IsOrdered beat actor (says.NodeLease Update node a)) (λ v. refl) (λ v. refl) refl refl answer
ordered beat actor (says.Status node ready answer) = each-answer (λ a. IsOrdered beat actor (says.Status node ready a)) (λ v. refl) (λ v. refl) refl refl answer
ordered beat actor (says.Put key version) = refl
ordered beat actor (says.Remove key version) = refl
ordered beat actor (says.Unknown node reason answer) = each-answer (λ a. IsOrdered beat actor (says.Unknown node reason a)) (λ v. refl) (λ v. refl) refl refl answer
ordered beat actor (says.Mode on) = refl
ordered beat actor (says.Zone zone state rate) = refl
ordered beat actor (says.Taint node taint answer) = each-answer (λ a. IsOrdered beat actor (says.Taint node taint a)) (λ v. refl) (λ v. refl) refl refl answer
ordered beat actor (says.Swap node taint answer) = each-answer (λ a. IsOrdered beat actor (says.Swap node taint a)) (λ v. refl) (λ v. refl) refl refl answer
ordered beat actor (says.Untaint node answer) = each-answer (λ a. IsOrdered beat actor (says.Untaint node a)) (λ v. refl) (λ v. refl) refl refl answer
ordered beat actor (says.Evict pod due answer) = each-answer (λ a. IsOrdered beat actor (says.Evict pod due a)) (λ v. refl) (λ v. refl) refl refl answer

pub members-ordered : (l : Line (List ℕ)) → are_some_of all_names (map (λ m. m.0) (line_members l)) ≡ true
members-ordered l = ordered l.beat l.actor l.says
