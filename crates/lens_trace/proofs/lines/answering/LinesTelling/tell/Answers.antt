use Rattle.lens_trace.proofs.ToldLaws.{told-is}
use Rattle.lens_trace.proofs.lines.answering.LinesTelling.tell.Goals as goal

pub returns : goal.returns
returns c = told-is c.args.trace.now.header c.args.trace.now.lines.now _ _ _ c.new-text.ensures.items c.in_ok-add_header.ensures c.in_ok-add_lines.ensures
