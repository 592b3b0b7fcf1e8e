-- The tables of a trace, one behind the other.
use Rattle.std.proofs.Common.{◌≡◌, ℕ, ◌+◌, List, [], ◌++◌, Option, ap, ◌∙◌}
use Rattle.run_edge.specs.Outcome.{Reply}
use Rattle.run_edge.specs.declared.status.Verdict.TheVariants.{Done}
use Rattle.lens_summary.specs.Tables.{table_text}
use Rattle.lens_terms.specs.declared.stretch.Stretch.{Stretch}
use Rattle.lens_terms.specs.declared.term.Term.{Term}
use Rattle.lens_terms.specs.Acting.{acting}
use Rattle.lens_terms.specs.Terms.{terms}
use Rattle.lens_terms.specs.Together.{overlap, beats_of_two}
use Rattle.lens_trace.proofs.ShownLaws.{added}
use Rattle.trace_lines.specs.declared.header.Header.{Header}
use Rattle.trace_lines.specs.declared.line.Line.{Line}
use Rattle.lens_summary.specs.Leaders.{term_rows, span_rows}
use Rattle.lens_summary.specs.Part.{part}
use Rattle.lens_summary.specs.Summary.{trace_rows, line_in, told, summary}
use Rattle.lens_summary.specs.Totals.{total_rows}
use Rattle.lens_summary.specs.Subjects.{subject_rows}
use Rattle.lens_summary.specs.declared.subject.Subject.TheVariants.{Zones, Nodes, Pods}

-- seven texts
all-added : (t t1 t2 t3 t4 t5 t6 t7 a b c d e f g : List ℕ) → t1 ≡ t ++ a → t2 ≡ t1 ++ b → t3 ≡ t2 ++ c → t4 ≡ t3 ++ d → t5 ≡ t4 ++ e → t6 ≡ t5 ++ f → t7 ≡ t6 ++ g
    → t7 ≡ t ++ (a ++ b ++ c ++ d ++ e ++ f ++ g)
all-added t t1 t2 t3 t4 t5 t6 t7 a b c d e f g pa pb pc pd pe pf pg =
    let two : t2 ≡ t ++ (a ++ b) = added t t1 t2 a b pa pb in
    let three : t3 ≡ t ++ (a ++ b ++ c) = added t t2 t3 (a ++ b) c two pc in
    let four : t4 ≡ t ++ (a ++ b ++ c ++ d) = added t t3 t4 (a ++ b ++ c) d three pd in
    let five : t5 ≡ t ++ (a ++ b ++ c ++ d ++ e) = added t t4 t5 (a ++ b ++ c ++ d) e four pe in
    let six : t6 ≡ t ++ (a ++ b ++ c ++ d ++ e ++ f) = added t t5 t6 (a ++ b ++ c ++ d ++ e) f five pf in
    added t t6 t7 (a ++ b ++ c ++ d ++ e ++ f) g six pg

pub told-is : (header : Header) (ls : List (Line (List ℕ))) (overlap_line : Option ℕ) (beats : ℕ) (ts : List (Term (List ℕ))) (first_all second_all all : List (Stretch (List ℕ)))
    (none one two three four five six seven : List ℕ)
    → ts ≡ terms 2 ls → first_all ≡ acting (header.end + 1) ls → second_all ≡ acting (header.end + 1) ls → all ≡ acting (header.end + 1) ls → none ≡ []
    → overlap_line ≡ line_in (overlap first_all) → beats ≡ beats_of_two (header.end + 1) second_all
    → one ≡ none ++ part (trace_rows header overlap_line beats)
    → two ≡ one ++ part (term_rows header.beat_millis (header.end + 1) ts)
    → three ≡ two ++ part (span_rows header.beat_millis (header.end + 1) all)
    → four ≡ three ++ part (subject_rows Zones header.beat_millis ls)
    → five ≡ four ++ part (subject_rows Nodes header.beat_millis ls)
    → six ≡ five ++ part (subject_rows Pods header.beat_millis ls)
    → seven ≡ six ++ table_text (total_rows ls)
    → (let r : Reply = record { verdict = Done; text = seven } in r) ≡ summary header ls
unfolding told
told-is header ls overlap_line beats ts first_all second_all all none one two three four five six seven are was were too empty crossed counted begun second third fourth fifth sixth last =
    let stop = header.end + 1 in
    let millis = header.beat_millis in
    let so = acting stop ls in
    let whole : seven ≡ none ++ told header (terms 2 ls) so ls
    = all-added none one two three four five six seven
    (part (trace_rows header (line_in (overlap so)) (beats_of_two stop so))) (part (term_rows millis stop (terms 2 ls))) (part (span_rows millis stop so))
    (part (subject_rows Zones millis ls)) (part (subject_rows Nodes millis ls)) (part (subject_rows Pods millis ls)) (table_text (total_rows ls))
    (begun ∙ ap (λ o. none ++ part (trace_rows header o beats)) (crossed ∙ ap (λ x. line_in (overlap x)) was)
    ∙ ap (λ n. none ++ part (trace_rows header (line_in (overlap so)) n)) (counted ∙ ap (beats_of_two stop) were))
    (second ∙ ap (λ x. one ++ part (term_rows millis stop x)) are)
    (third ∙ ap (λ x. two ++ part (span_rows millis stop x)) too)
    fourth fifth sixth last in
    ap (λ t. let r : Reply = record { verdict = Done; text = t } in r) (whole ∙ ap (λ t. t ++ told header (terms 2 ls) so ls) empty)
