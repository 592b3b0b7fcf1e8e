use Rattle.std.proofs.Common.{◌≡◌, ◌+◌, IfOk, map, subst, ap, ◌∙◌}
use Rattle.lens_json.specs.Parts.{part_of}
use Rattle.trace_lines.specs.Reads.{seen}
use Rattle.lens_terms.specs.Acting.{acting, shown as stretch_shown}
use Rattle.lens_terms.specs.Terms.{shown, terms}
use Rattle.lens_summary.specs.Figures.{figure_members}
use Rattle.lens_summary.proofs.figures.answering.parts.Goals as goal

pub returns : goal.returns
returns c =
    let header = c.args.trace.now.header in
    let ls = map seen c.args.trace.now.lines.now in
    let all = map stretch_shown c.deref-2.result.now in
    let are : map shown c.deref.result.now ≡ terms 2 ls = ap (map shown) c.deref.ensures.value ∙ c.in_ok-found.ensures in
    let too : all ≡ acting (header.end + 1) ls = ap (map stretch_shown) c.deref-2.ensures.value ∙ c.in_ok-acting.ensures in
    subst (λ ms. IfOk c.parts_by.result (λ parts. map part_of parts ≡ ms))
    (ap (λ ts. figure_members header (header.end + 1) ts all ls) are ∙ ap (λ stretches. figure_members header (header.end + 1) (terms 2 ls) stretches ls) too)
    c.parts_by.ensures
