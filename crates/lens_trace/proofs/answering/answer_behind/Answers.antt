use Rattle.std.proofs.Common.{◌≡◌, IfOk, map, filter_map, sym, ap, subst, ◌∙◌}
use Rattle.run_edge.specs.Outcome.{reply_of}
use Rattle.trace_audit.specs.Entries.{lines_of}
use Rattle.trace_lines.specs.Forms.{line_of}
use Rattle.trace_lines.specs.Reads.{seen}
use Rattle.lens_trace.specs.Traces.{answer_by}
use Rattle.lens_trace.proofs.answering.answer_behind.Goals as goal

pub returns-in-Wrong : goal.returns-in-Wrong
returns-in-Wrong g c =
    let told = g.T.Telling.told c.args.telling.now in
    subst (λ j. IfOk c.refuse_line.result (λ a. reply_of a ≡ answer_by told j c.args.header (filter_map line_of (lines_of c.args.rest.now)))) (sym c.in-Wrong.is)
    c.refuse_line.ensures

pub returns : goal.returns
returns g c =
    let told = g.T.Telling.told c.args.telling.now in
    let formed = filter_map line_of (lines_of c.args.rest.now) in
    let read : map seen c.deref.result.now ≡ formed = ap (map seen) c.deref.ensures.value ∙ c.in_ok-lines.ensures in
    subst (λ r. IfOk c.tell.result (λ a. reply_of a ≡ r))
    (ap (told c.args.header) read ∙ ap (λ j. answer_by told j c.args.header formed) (sym c.in-IsTrace.is)) c.tell.ensures
