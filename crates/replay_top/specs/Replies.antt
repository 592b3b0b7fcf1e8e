-- What an input is answered.
use Rattle.std.specs.Prelude.{ℕ, List, ◌++◌, codes, decimal, nat_le, if◌then◌else◌, Result, Ok, Err}
use Rattle.manifest_json.specs.declared.fault.Refusal.{Refusal}
use Rattle.pod_inputs.specs.Answers.{collect_answer, place_answer}
use Rattle.run_edge.specs.declared.status.Verdict.TheVariants as verdict
use Rattle.run_edge.specs.Outcome.{Reply, refusal}
use Rattle.script_reader.specs.declared.document.Document.{Document}
use Rattle.script_reader.specs.Walk.{document_walk}
use Rattle.trace_audit.specs.declared.audit_of.Report.{Report}
use Rattle.trace_audit.specs.Verdict as audit
use Rattle.replay_top.specs.declared.asked.Asked.{Asked}
use Rattle.replay_top.specs.declared.asked.Asked.TheVariants.{Check, Audit, Collect, Place}
use Rattle.replay_top.specs.declared.command.Run.{Run}
use Rattle.replay_top.specs.declared.command.Run.TheVariants.{Replay, State}
use Rattle.replay_top.specs.State.{state_text}
use Rattle.replay_top.specs.Summary.{summary}
use Rattle.replay_top.specs.Traces.{trace}

-- a text that is the answer
abbrev pub done : List ℕ → Reply
done text = record { verdict = verdict.Done; text = text }

-- an input is refused so
abbrev pub refused : Refusal → Reply
refused r = refusal r.code r.path

-- ---- questions

-- a document gets a line, or its first refusal
abbrev pub on_document : Result Document Refusal → Reply
on_document (Ok d) = done (summary d)
on_document (Err r) = refused r

-- the numbers of a trace that is safe
unfoldable pub report_text : Report → List ℕ
report_text r =
    codes "audit ok lines=" ++ decimal r.lines ++ codes " terms=" ++ decimal r.terms ++ codes " taints=" ++ decimal r.taints ++ codes "\n"

-- a trace gets a report, or is refused at its first line at fault
abbrev pub on_trace : Result Report audit.Fault → Reply
on_trace (Ok report) = done (report_text report)
on_trace (Err fault) = refusal fault.code (codes "/" ++ decimal fault.line)

-- Nodes and Pods get their lines, or their first refusal
abbrev pub on_pods : Result (List ℕ) Refusal → Reply
on_pods (Ok text) = done text
on_pods (Err r) = refused r

abbrev pub reply_to : Asked → List ℕ → Reply
reply_to Check bytes = on_document (document_walk bytes)
reply_to Audit bytes = on_trace (audit.verdict bytes)
reply_to Collect bytes = on_pods (collect_answer bytes)
reply_to Place bytes = on_pods (place_answer bytes)

-- ---- runs of a document

-- no beat after the end has a state
abbrev pub state_answer : Document → ℕ → Reply
state_answer d b = if nat_le b d.settings.end_beat.0 then done (state_text d b) else refusal 34 (codes "/")

-- `replay` writes a document's trace, and `state` what is stored after a beat
abbrev pub answer_to : Run → Document → Reply
answer_to Replay d = done (trace d)
answer_to (State beat) d = state_answer d beat.0

abbrev pub answered : Run → Result Document Refusal → Reply
answered run (Ok d) = answer_to run d
answered run (Err r) = refused r

abbrev pub run_reply : Run → List ℕ → Reply
run_reply run bytes = answered run (document_walk bytes)
