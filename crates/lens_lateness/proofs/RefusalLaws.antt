-- What is refused, without `--json` and with it.
use Rattle.std.proofs.Common.{◌≡◌, ℕ, ◌==◌, Bool, true, false, List, codes, filter_map, Option, Some, None, Result, Ok, Err, if◌then◌else◌, refl, sym, subst}
use Rattle.kube_base.specs.Times.{◌>>=◌}
use Rattle.run_edge.specs.Outcome.{Reply, refusal}
use Rattle.run_edge.specs.declared.status.Verdict.TheVariants.{Done}
use Rattle.lens_summary.specs.Summary.{summary}
use Rattle.lens_trace.specs.Judged.{judged_by}
use Rattle.lens_trace.specs.Traces.{answer_by, answer_behind, answer_to, trace_reply}
use Rattle.lens_trace.specs.declared.judging.Judged.{Judged}
use Rattle.lens_trace.specs.declared.judging.Judged.TheVariants.{Wrong, IsTrace}
use Rattle.manifest_json.specs.declared.fault.Refusal.{Refusal}
use Rattle.script_reader.specs.declared.document.Document.{Document}
use Rattle.script_reader.specs.Walk.{document_walk}
use Rattle.trace_audit.specs.Entries.{lines_of}
use Rattle.trace_audit.specs.Verdict.{verdict}
use Rattle.trace_lines.specs.Forms.{line_of}
use Rattle.trace_lines.specs.Grammar.{cut}
use Rattle.trace_lines.specs.Headers.{header_of}
use Rattle.trace_lines.specs.declared.header.Header.{Header}
use Rattle.trace_lines.specs.declared.line.Line.{Line}
use Rattle.lens_lateness.specs.FigureReplies as json
use Rattle.lens_lateness.specs.FigureReplies.{figures_reply}
use Rattle.lens_lateness.specs.Figures.{figures}
use Rattle.lens_lateness.specs.Input.{document_part, trace_part}
use Rattle.lens_lateness.specs.Refusals.{AreRefusedAlike, RefusalsAreTheSame}
use Rattle.lens_lateness.specs.Replies as tables
use Rattle.lens_lateness.specs.Replies.{behind_if, lateness_reply, told_by}
use Rattle.lens_lateness.specs.Traces.{trace_of}

-- by whether the beats are as long as the document's
by-beats : (same : Bool) (one other : List ℕ) → AreRefusedAlike
    (if same then (let r : Reply = record { verdict = Done; text = one } in r) else refusal 44 (codes "/1"))
    (if same then (let r : Reply = record { verdict = Done; text = other } in r) else refusal 44 (codes "/1"))
by-beats true one other = (refl, λ refused. cc)
by-beats false one other = (refl, λ refused. refl)

-- by what `audit` says of the trace
by-judged : (d : Document) (trace : List ℕ) (judged : Judged) (header : Header) (ls : List (Line (List ℕ))) → trace_of trace ≡ Some (header, ls)
    → AreRefusedAlike (told_by d trace (answer_by summary judged header ls) (answer_by summary judged header ls).verdict) (answer_by (figures d) judged header ls)
by-judged d trace (Wrong line) header ls is = (refl, λ refused. refl)
by-judged d trace IsTrace header ls is =
    subst (λ t. AreRefusedAlike (behind_if d (summary header ls) t) (figures d header ls)) (sym is)
    (by-beats (header.beat_millis == d.settings.beat_millis) _ _)

by-header : (d : Document) (trace : List ℕ) (judged : Judged) (header : Option Header) (rest : List ℕ)
    → trace_of trace ≡ (header >>= λ h. Some (h, filter_map line_of (lines_of rest)))
    → AreRefusedAlike (told_by d trace (answer_behind summary judged header rest) (answer_behind summary judged header rest).verdict)
    (answer_behind (figures d) judged header rest)
by-header d trace judged None rest is = (refl, λ refused. refl)
by-header d trace judged (Some header) rest is = by-judged d trace judged header (filter_map line_of (lines_of rest)) is

by-parts : (d : Document) (trace : List ℕ) (judged : Judged) (parts : Option (List ℕ × List ℕ))
    → trace_of trace ≡ (parts >>= λ p. header_of p.0 >>= λ h. Some (h, filter_map line_of (lines_of p.1)))
    → AreRefusedAlike (told_by d trace (answer_to summary judged parts) (answer_to summary judged parts).verdict) (answer_to (figures d) judged parts)
by-parts d trace judged None is = (refl, λ refused. refl)
by-parts d trace judged (Some parts) is = by-header d trace judged (header_of parts.0) parts.1 is

by-trace : (d : Document) (trace : List ℕ) → AreRefusedAlike (tables.told d trace) (trace_reply (figures d) trace)
unfolding trace_reply trace_of
by-trace d trace = by-parts d trace (judged_by (verdict trace)) (cut 10 trace) refl

by-document : (document : Result Document Refusal) (trace : List ℕ) → AreRefusedAlike (tables.found document trace) (json.found document trace)
by-document (Ok d) trace = by-trace d trace
by-document (Err r) trace = (refl, λ refused. refl)

pub refusals-are-the-same : RefusalsAreTheSame
unfolding lateness_reply figures_reply
refusals-are-the-same input = by-document (document_walk (document_part input)) (trace_part input)
