-- What is answered, by what is known of the lines.
use Rattle.std.proofs.Common.{◌≡◌, ℕ, ◌+◌, List, length, count_by, Option, Some, None, Result, Ok, Err, refl, sym, ap, ◌∙◌}
use Rattle.trace_lines.specs.declared.header.Header.{Header}
use Rattle.trace_lines.specs.Grammar.{cut}
use Rattle.trace_lines.specs.Headers.{header_of}
use Rattle.trace_terms.specs.Entries.{Entry}
use Rattle.trace_terms.specs.Findings.{least, outside, crossed, unspaced}
use Rattle.trace_terms.specs.Terms.{terms, is_taint}
use Rattle.trace_terms.specs.Reviews.{ReviewStands}
use Rattle.trace_terms.specs.declared.review.Review.{Review}
use Rattle.trace_audit.specs.declared.audit_of.Report.{Report}
use Rattle.trace_audit.specs.declared.pass.Pass.{Pass}
use Rattle.trace_audit.specs.Entries.{lines_of, entries_of}
use Rattle.trace_audit.specs.Passes.{PassStands}
use Rattle.trace_audit.specs.Verdict.{Fault, unless, report, reviewed, judged, headed, split, verdict}

-- the first acting line outside, in the lines that a review is of
abbrev pub FirstOutside : Review → Option ℕ → Type 0
FirstOutside r o = (millis end : ℕ) (es : List Entry) → ReviewStands millis end es r → o ≡ least (outside es (terms (end + 1) es))

pub judged-wrong : (header : Header) (text : List (List ℕ)) (p : Pass) (line : ℕ) → PassStands header 2 text p → p.wrong ≡ Some line
    → judged header text ≡ Err (record { code = 40; line = line })
unfolding judged
judged-wrong header text p line h is =
    ap (λ o. unless 40 o (reviewed header.beat_millis (header.end + 1) (length text) (entries_of 2 text))) (sym h.wrong ∙ is)

-- a review that found these lines first answers
abbrev pub found : ℕ → Option ℕ → Review → Result Report Fault
found count o r =
    unless 41 r.findings.crossed (unless 42 o (unless 43 r.findings.unspaced (Ok (record { lines = count; terms = r.leads; taints = r.taints }))))

reviewed-by : (millis end count : ℕ) (es : List Entry) (r : Review) (o : Option ℕ) → ReviewStands millis end es r → o ≡ least (outside es (terms (end + 1) es))
    → reviewed millis (end + 1) count es ≡ found count o r
unfolding reviewed
reviewed-by millis end count es r o h first =
    ap (λ c. unless 41 c (unless 42 (least (outside es (terms (end + 1) es))) (unless 43 (least (unspaced millis (terms (end + 1) es))) (Ok (report count es))))) (sym h.crossed_is)
    ∙ ap (λ c. unless 41 r.findings.crossed (unless 42 c (unless 43 (least (unspaced millis (terms (end + 1) es))) (Ok (report count es))))) (sym first)
    ∙ ap (λ c. unless 41 r.findings.crossed (unless 42 o (unless 43 c (Ok (report count es))))) (sym h.unspaced_is)
    ∙ ap (λ n. unless 41 r.findings.crossed (unless 42 o (unless 43 r.findings.unspaced (Ok (record { lines = count; terms = n; taints = count_by (λ e. is_taint e.role) es }))))) (sym h.leads_is)
    ∙ ap (λ n. unless 41 r.findings.crossed (unless 42 o (unless 43 r.findings.unspaced (Ok (record { lines = count; terms = r.leads; taints = n }))))) (sym h.taints_is)

-- a trace without wrong lines is answered by its review
pub judged-right : (header : Header) (text : List (List ℕ)) (p : Pass) (o : Option ℕ) → PassStands header 2 text p → p.wrong ≡ None → FirstOutside p.review o
    → judged header text ≡ found (length text) o p.review
unfolding judged
judged-right header text p o h right first =
    ap (λ w. unless 40 w (reviewed header.beat_millis (header.end + 1) (length text) (entries_of 2 text))) (sym h.wrong ∙ right)
    ∙ reviewed-by header.beat_millis header.end (length text) (entries_of 2 text) p.review o (h.review right) (first header.beat_millis header.end (entries_of 2 text) (h.review right))

abbrev pub told : ℕ → Option ℕ → Option ℕ → Option ℕ → ℕ → ℕ → Result Report Fault
told count crossed o soon leads taints = unless 41 crossed (unless 42 o (unless 43 soon (Ok (record { lines = count; terms = leads; taints = taints }))))

-- where each of them is known
pub judged-told : (header : Header) (text : List (List ℕ)) (p : Pass) (o a b d : Option ℕ) → PassStands header 2 text p → p.wrong ≡ None → FirstOutside p.review o
    → p.review.findings.crossed ≡ a → o ≡ b → p.review.findings.unspaced ≡ d → judged header text ≡ told (length text) a b d p.review.leads p.review.taints
judged-told header text p o a b d h right first x y z =
    judged-right header text p o h right first
    ∙ ap (λ c. told (length text) c o p.review.findings.unspaced p.review.leads p.review.taints) x
    ∙ ap (λ c. told (length text) a c p.review.findings.unspaced p.review.leads p.review.taints) y
    ∙ ap (λ c. told (length text) a b c p.review.leads p.review.taints) z

pub judged-crossed : (header : Header) (text : List (List ℕ)) (p : Pass) (line : ℕ) → PassStands header 2 text p → p.wrong ≡ None → p.review.findings.crossed ≡ Some line
    → judged header text ≡ Err (record { code = 41; line = line })
unfolding judged
judged-crossed header text p line h right is =
    ap (λ w. unless 40 w (reviewed header.beat_millis (header.end + 1) (length text) (entries_of 2 text))) (sym h.wrong ∙ right)
    ∙ reviewed-by header.beat_millis header.end (length text) (entries_of 2 text) p.review (least (outside (entries_of 2 text) (terms (header.end + 1) (entries_of 2 text)))) (h.review right) refl
    ∙ ap (λ c. told (length text) c (least (outside (entries_of 2 text) (terms (header.end + 1) (entries_of 2 text)))) p.review.findings.unspaced p.review.leads p.review.taints) is

-- ---- the whole text

pub verdict-endless : (bytes : List ℕ) → cut 10 bytes ≡ None → verdict bytes ≡ Err (record { code = 40; line = 1 })
unfolding verdict
verdict-endless bytes none = ap (λ o. split o) none

pub verdict-headless : (bytes first rest : List ℕ) → cut 10 bytes ≡ Some (first, rest) → header_of first ≡ None → verdict bytes ≡ Err (record { code = 40; line = 1 })
unfolding verdict
verdict-headless bytes first rest parts none = ap (λ o. split o) parts ∙ ap (λ o. headed o rest) none

pub verdict-judged : (bytes first rest : List ℕ) (header : Header) → cut 10 bytes ≡ Some (first, rest) → header_of first ≡ Some header → verdict bytes ≡ judged header (lines_of rest)
unfolding verdict
verdict-judged bytes first rest header parts is = ap (λ o. split o) parts ∙ ap (λ o. headed o rest) is
