use Rattle.std.proofs.Common.{◌≡◌, ◌+◌, map, ap, ◌∙◌}
use Rattle.trace_lines.specs.Reads.{seen}
use Rattle.lens_terms.specs.Acting.{acting, shown as stretch_shown}
use Rattle.lens_terms.specs.Terms.{shown, terms}
use Rattle.lens_summary.proofs.ToldLaws.{told-is}
use Rattle.lens_summary.proofs.summary.SummaryTelling.tell.Goals as goal

pub returns : goal.returns
returns c =
    let header = c.args.trace.now.header in
    let ls = map seen c.args.trace.now.lines.now in
    let stop = header.end + 1 in
    let was : map stretch_shown c.deref.result.now ≡ acting stop ls = ap (map stretch_shown) c.deref.ensures.value ∙ c.in_ok-acting.ensures in
    let were : map stretch_shown c.deref-2.result.now ≡ acting stop ls = ap (map stretch_shown) c.deref-2.ensures.value ∙ c.in_ok-acting.ensures in
    let are : map shown c.deref-3.result.now ≡ terms 2 ls = ap (map shown) c.deref-3.ensures.value ∙ c.in_ok-found.ensures in
    let too : map stretch_shown c.deref-4.result.now ≡ acting stop ls = ap (map stretch_shown) c.deref-4.ensures.value ∙ c.in_ok-acting.ensures in
    told-is header ls c.overlap_line-crossing.result c.beats_of_two-beats.result _ _ _ _ _ _ _ _ _ _ _ _ are was were too c.new-text.ensures.items c.overlap_line-crossing.ensures c.beats_of_two-beats.ensures
    c.in_ok-tell_trace.ensures c.in_ok-tell_terms.ensures c.in_ok-tell_spans.ensures c.in_ok-tell_subject.ensures c.in_ok-tell_subject-2.ensures c.in_ok-tell_subject-3.ensures c.in_ok-tell_totals.ensures
