-- How a run ends, by the outcome of its words and bytes.
use Rattle.std.proofs.Common.{◌≡◌, ◌⊎◌, ◌≤◌, ◌<◌, ℕ, nat_le, Bool, true, false, cond, List, [], length, drop, codes, Option, Some, Result, Ok, Err, sym, ap, ◌∙◌, subst, inl, inr, refl, arith}
use Rattle.byte_edge.specs.Bytes.{Gave, Taken}
use Rattle.byte_edge.proofs.Fronts.{gave-nothing}
use Rattle.run_edge.specs.declared.status.Status.{Status}
use Rattle.run_edge.specs.declared.status.Status.TheVariants.{Answered, SourceFault, SinkFault, OutOfMemory}
use Rattle.run_edge.specs.declared.status.Verdict.{Verdict}
use Rattle.run_edge.specs.declared.status.Verdict.TheVariants.{Done, Safe, Unsafe, Refused, Usage}
use Rattle.run_edge.specs.Outcome as edge
use Rattle.run_edge.specs.Outcome.{IsRefusing, IsWhole, Outcome, Read, Reply, Unread, read_by}
use Rattle.run_edge.proofs.Endings.{read-one}
use Rattle.manifest_json.specs.declared.fault.Refusal.{Refusal}
use Rattle.script_reader.specs.declared.document.Document.{Document}
use Rattle.script_reader.specs.Walk.{document_walk}
use Rattle.trace_audit.specs.declared.audit_of.Report.{Report}
use Rattle.trace_audit.specs.Alone.{entries_in, OneActs}
use Rattle.trace_audit.specs.Verdict.{Fault, verdict}
use Rattle.trace_audit.proofs.AloneLaws.{accepted-alone}
use Rattle.replay_top.specs.declared.asked.Asked.{Asked}
use Rattle.replay_top.specs.declared.asked.Asked.TheVariants.{Audit}
use Rattle.replay_top.specs.declared.command.Command.{Command}
use Rattle.replay_top.specs.Commands.{command_of}
use Rattle.replay_top.specs.Outcome.{Ends, IsComplete, IsRunEnd, IsUndone, outcome, outcome_of, unread}
use Rattle.replay_top.specs.Replays.{IsUnread}
use Rattle.replay_top.specs.Replies.{on_trace, reply_to}

pub ends-moved : (o p : Outcome) (now left : Option (List ℕ)) (before after : Taken) (s : Status) → p ≡ o → left ≡ now → Ends o now before after s → Ends p left before after s
ends-moved o p now left before after s same rest ends =
    subst (λ x. Ends x left before after s) (sym same) (subst (λ l. Ends o l before after s) (sym rest) ends)

pub outcome-of : (words : List (List ℕ)) (bytes : List ℕ) (command : Option Command) → command ≡ command_of words → outcome words bytes ≡ outcome_of command bytes
outcome-of words bytes command is = ap (λ c. outcome_of c bytes) (sym is)

-- a run that can end with one outcome alone ends so; before want of memory nothing was written then
ends-exact : (IsOne : Outcome → Type 0) (o : Outcome) (now left : Option (List ℕ)) (before after : Taken) (s : Status) → ((p : Outcome) → IsOne p → p ≡ o) → left ≡ now → edge.Ends IsOne now before after s → Ends o left before after s
ends-exact IsOne o now left before after s one rest ends = subst (λ l. Ends o l before after s) (sym rest) (by_status s ends)
  where
    by_status : (s : Status) → edge.Ends IsOne now before after s → Ends o now before after s
    by_status (Answered verdict) (p, is, whole) = subst (λ x. IsWhole x now before after verdict) (one p is) whole
    by_status SourceFault silent = silent
    by_status SinkFault (p, is, gave) = subst (λ x. Gave before after x.reply.text) (one p is) gave
    by_status OutOfMemory silent = subst (λ t. Gave before t o.reply.text) (sym silent) (gave-nothing before o.reply.text)

-- with this reply and this left of the source
pub ends-unread : (reply : Reply) (bytes : List ℕ) (left : Option (List ℕ)) (before after : Taken) (s : Status) → left ≡ Some bytes → edge.Ends (Unread reply bytes) (Some bytes) before after s → Ends (unread reply bytes) left before after s
ends-unread reply bytes left before after s rest ends = ends-exact (Unread reply bytes) (unread reply bytes) (Some bytes) left before after s (λ p is. is) rest ends

-- with the answer to all bytes of the source
pub ends-asked : (asked : Asked) (bytes : List ℕ) (left : Option (List ℕ)) (before after : Taken) (s : Status) → edge.Ends (Read (λ bytes reply. reply ≡ reply_to asked bytes) bytes) left before after s
    → Ends (read_by (reply_to asked) bytes) left before after s
ends-asked asked bytes left before after s ends =
    ends-exact (Read (λ bytes reply. reply ≡ reply_to asked bytes) bytes) (read_by (reply_to asked) bytes) left left before after s (read-one (reply_to asked) bytes) refl ends

pub ends-whole : (o : Outcome) (left : Option (List ℕ)) (before after : Taken) (s : Status) → ¬ (s ≡ SourceFault) → ¬ (s ≡ SinkFault) → Ends o left before after s → IsComplete o left before after s
ends-whole o left before after (Answered verdict) calm taken ends = ends
ends-whole o left before after SourceFault calm taken ends = absurd (calm refl)
ends-whole o left before after SinkFault calm taken ends = absurd (taken refl)
ends-whole o left before after OutOfMemory calm taken ends = tt

-- ---- the document

abbrev document_in : Result Document Refusal → Document → Document
document_in (Ok d) other = d
document_in (Err r) other = other

-- a walk gives one document
pub same-read : (bytes : List ℕ) (a b : Document) → document_walk bytes ≡ Ok a → document_walk bytes ≡ Ok b → a ≡ b
same-read bytes a b one two = ap (λ x. document_in x a) (sym one ∙ two)

-- bytes that were taken and read are no unread ones
pub read-unread : (bytes : List ℕ) (d : Document) → length bytes ≤ 16777216 → document_walk bytes ≡ Ok d → IsUnread bytes → ⊥
read-unread bytes d short read (inl long) = omega (arith, short, long)
read-unread bytes d short read (inr refusal) = never (sym read ∙ refusal.1)
  where
    never : Ok d ≡ Err refusal.0 → ⊥
    never same = cc

-- ---- the audit

-- in a trace that passes all acting lines of a beat are by one identity
pub audited-alone : (bytes : List ℕ) → Done ≡ (read_by (reply_to Audit) bytes).reply.verdict → OneActs (entries_in bytes)
unfolding read_by
audited-alone bytes is = by_size (nat_le (length bytes) 16777216) is
  where
    by_verdict : (r : Result Report Fault) → verdict bytes ≡ r → Done ≡ (on_trace r).verdict → OneActs (entries_in bytes)
    by_verdict (Ok report) told same = accepted-alone bytes report told
    by_verdict (Err fault) told same = let never : Done ≡ Refused = same in cc

    by_size : (b : Bool) → Done ≡ (cond b (unread (reply_to Audit bytes) []) (unread (edge.refusal 33 (codes "/")) (drop 16777217 bytes))).reply.verdict → OneActs (entries_in bytes)
    by_size true same = by_verdict (verdict bytes) refl same
    by_size false same = let never : Done ≡ Refused = same in cc

-- ---- statuses

pub not-source : (s : Status) → (s ≡ Answered Usage) ⊎ (s ≡ SinkFault) → ¬ (s ≡ SourceFault)
not-source s (inl is) fault = let never : Answered Usage ≡ SourceFault = sym is ∙ fault in cc
not-source s (inr is) fault = let never : SinkFault ≡ SourceFault = sym is ∙ fault in cc

pub not-done : (s : Status) → (s ≡ Answered Usage) ⊎ (s ≡ SinkFault) → ¬ (s ≡ Answered Done)
not-done s (inl is) done = let never : Answered Usage ≡ Answered Done = sym is ∙ done in cc
not-done s (inr is) done = let never : SinkFault ≡ Answered Done = sym is ∙ done in cc

pub run-end : (s : Status) → IsRunEnd s → ¬ (s ≡ SourceFault)
run-end s ended fault = subst IsRunEnd fault ended

pub run-undone : (s : Status) → IsRunEnd s → ¬ IsUndone s
run-undone (Answered Done) ended undone = absurd undone
run-undone (Answered Safe) ended undone = absurd ended
run-undone (Answered Unsafe) ended undone = absurd ended
run-undone (Answered Refused) ended undone = absurd ended
run-undone (Answered Usage) ended undone = absurd ended
run-undone SourceFault ended undone = absurd ended
run-undone SinkFault ended undone = absurd undone
run-undone OutOfMemory ended undone = absurd undone

pub refusing-source : (s : Status) → IsRefusing s → ¬ (s ≡ SourceFault)
refusing-source s refusing fault = subst IsRefusing fault refusing

pub refusing-done : (s : Status) → IsRefusing s → ¬ (s ≡ Answered Done)
refusing-done s refusing done = subst IsRefusing done refusing
