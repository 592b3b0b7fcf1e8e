-- What a text is answered, by its parts.
use Rattle.std.proofs.Common.{◌≡◌, ℕ, List, codes, filter_map, Some, None, sym, ap, ◌∙◌}
use Rattle.run_edge.specs.Outcome.{refusal}
use Rattle.lens_trace.specs.declared.judging.Judged.{Judged}
use Rattle.lens_trace.specs.Judged.{judged_by}
use Rattle.lens_trace.specs.Traces.{Tells, trace_reply, answer_to, answer_behind, answer_by}
use Rattle.trace_audit.specs.Entries.{lines_of}
use Rattle.trace_audit.specs.Verdict.{verdict}
use Rattle.trace_lines.specs.Forms.{line_of}
use Rattle.trace_lines.specs.Grammar.{cut}
use Rattle.trace_lines.specs.Headers.{header_of}
use Rattle.trace_lines.specs.declared.header.Header.{Header}

pub reply-endless : (told : Tells) (text : List ℕ) → cut 10 text ≡ None → trace_reply told text ≡ refusal 40 (codes "/1")
unfolding trace_reply
reply-endless told text none = ap (λ o. answer_to told (judged_by (verdict text)) o) none

pub reply-headless : (told : Tells) (text head rest : List ℕ) → cut 10 text ≡ Some (head, rest) → header_of head ≡ None → trace_reply told text ≡ refusal 40 (codes "/1")
unfolding trace_reply
reply-headless told text head rest parts none =
    ap (λ o. answer_to told (judged_by (verdict text)) o) parts ∙ ap (λ o. answer_behind told (judged_by (verdict text)) o rest) none

pub reply-behind : (told : Tells) (text head rest : List ℕ) (header : Header) (judged : Judged) → cut 10 text ≡ Some (head, rest) → header_of head ≡ Some header → judged ≡ judged_by (verdict text)
    → trace_reply told text ≡ answer_by told judged header (filter_map line_of (lines_of rest))
unfolding trace_reply
reply-behind told text head rest header judged parts is by =
    ap (λ o. answer_to told (judged_by (verdict text)) o) parts
    ∙ ap (λ o. answer_behind told (judged_by (verdict text)) o rest) is
    ∙ ap (λ j. answer_by told j header (filter_map line_of (lines_of rest))) (sym by)
