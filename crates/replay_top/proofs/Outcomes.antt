-- Which verdicts a run may come to.
use Rattle.std.proofs.Common.{◌≡◌, ℕ, nat_le, Bool, true, false, cond, List, [], ◌++◌, length, drop, codes, decimal, Option, Some, None, Result, Ok, Err}
use Rattle.manifest_json.specs.declared.fault.Refusal.{Refusal}
use Rattle.pod_inputs.specs.Answers.{collect_answer, place_answer}
use Rattle.run_edge.specs.declared.status.Verdict.TheVariants.{Done, Safe, Refused, Usage}
use Rattle.run_edge.specs.Outcome.{Reply, read_by, refusal}
use Rattle.script_reader.specs.declared.document.Document.{Document}
use Rattle.script_reader.specs.Walk.{document_walk}
use Rattle.trace_audit.specs.declared.audit_of.Report.{Report}
use Rattle.trace_audit.specs.Verdict.{Fault, verdict}
use Rattle.replay_top.specs.declared.asked.Asked.{Asked}
use Rattle.replay_top.specs.declared.asked.Asked.TheVariants.{Check, Audit, Collect, Place}
use Rattle.replay_top.specs.declared.command.Command.{Command}
use Rattle.replay_top.specs.declared.command.Command.TheVariants.{Asks, Runs, Generates}
use Rattle.replay_top.specs.declared.command.Run.{Run}
use Rattle.replay_top.specs.declared.command.Run.TheVariants.{Replay, State}
use Rattle.replay_top.specs.Commands.{command_of}
use Rattle.replay_top.specs.Outcome.{outcome, outcome_of, unread}
use Rattle.replay_top.specs.Generated.{generated_line}
use Rattle.replay_top.specs.Replies.{answered, done, on_document, on_pods, on_trace, reply_to, report_text, run_reply, state_answer}
use Rattle.replay_top.specs.State.{state_text}
use Rattle.replay_top.specs.Summary.{summary}
use Rattle.replay_top.specs.Traces.{trace}

-- a reply isn't that something is safe
abbrev IsTold : Reply → Type 0
IsTold reply = reply.verdict ≡ Safe → ⊥

done-told : (text : List ℕ) → IsTold (done text)
done-told text same = let never : Done ≡ Safe = same in cc

refusal-told : (code : ℕ) (path : List ℕ) → IsTold (refusal code path)
refusal-told code path same = let never : Refused ≡ Safe = same in cc

on_document-told : (r : Result Document Refusal) → IsTold (on_document r)
on_document-told (Ok d) = done-told (summary d)
on_document-told (Err r) = refusal-told r.code r.path

on_trace-told : (r : Result Report Fault) → IsTold (on_trace r)
on_trace-told (Ok report) = done-told (report_text report)
on_trace-told (Err fault) = refusal-told fault.code (codes "/" ++ decimal fault.line)

on_pods-told : (r : Result (List ℕ) Refusal) → IsTold (on_pods r)
on_pods-told (Ok text) = done-told text
on_pods-told (Err r) = refusal-told r.code r.path

asked-told : (asked : Asked) (bytes : List ℕ) → IsTold (reply_to asked bytes)
asked-told Check bytes = on_document-told (document_walk bytes)
asked-told Audit bytes = on_trace-told (verdict bytes)
asked-told Collect bytes = on_pods-told (collect_answer bytes)
asked-told Place bytes = on_pods-told (place_answer bytes)

state-told : (d : Document) (b : ℕ) → IsTold (state_answer d b)
state-told d b = by_test (nat_le b d.settings.end_beat.0)
  where
    by_test : (t : Bool) → IsTold (cond t (done (state_text d b)) (refusal 34 (codes "/")))
    by_test true = done-told (state_text d b)
    by_test false = refusal-told 34 (codes "/")

answered-told : (run : Run) (r : Result Document Refusal) → IsTold (answered run r)
answered-told Replay (Ok d) = done-told (trace d)
answered-told (State beat) (Ok d) = state-told d beat.0
answered-told run (Err r) = refusal-told r.code r.path

read-told : (answer : List ℕ → Reply) (bytes : List ℕ) → IsTold (answer bytes) → IsTold (read_by answer bytes).reply
unfolding read_by
read-told answer bytes told = by_size (nat_le (length bytes) 16777216)
  where
    by_size : (b : Bool) → IsTold (cond b (unread (answer bytes) []) (unread (refusal 33 (codes "/")) (drop 16777217 bytes))).reply
    by_size true = told
    by_size false = refusal-told 33 (codes "/")

command-told : (command : Option Command) (bytes : List ℕ) → IsTold (outcome_of command bytes).reply
command-told (Some (Asks asked)) bytes = read-told (reply_to asked) bytes (asked-told asked bytes)
command-told (Some (Runs run)) bytes = read-told (run_reply run) bytes (answered-told run (document_walk bytes))
command-told (Some (Generates sizes)) bytes = done-told (generated_line sizes)
command-told None bytes = λ same. let never : Usage ≡ Safe = same in cc

-- no command of the program tells that something is safe: it is done, refused, or no command
pub never-safe : (words : List (List ℕ)) (bytes : List ℕ) → (outcome words bytes).reply.verdict ≡ Safe → ⊥
never-safe words bytes = command-told (command_of words) bytes
