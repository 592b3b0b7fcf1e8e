use Rattle.std.proofs.Common.{map, filter_map}
use Rattle.trace_audit.specs.Entries.{lines_of}
use Rattle.trace_lines.specs.Forms.{line_of}
use Rattle.trace_lines.specs.Reads.{seen}
use Rattle.lens_trace.proofs.CutLaws.{cut-is, cut-shorter}
use Rattle.lens_trace.proofs.ReadLaws.{read-more, read-last}
use Rattle.lens_trace.proofs.reading.read_lines.Goals as goal

pub lines-preserved : goal.lines-preserved
lines-preserved c =
    read-more (map seen c.lines.lines.items) (map seen c.add.new.lines.items) (filter_map line_of (lines_of c.args.text.now)) c.lines.rest.now c.in-Some.line.now c.in-Some.behind.now
    c.in-Some.ensures c.lines.invariant c.in_ok-add.ensures

pub lines-smaller : goal.lines-smaller
lines-smaller c = cut-shorter c.lines.rest.now c.in-Some.line.now c.in-Some.behind.now (cut-is c.lines.rest.now c.in-Some.line.now c.in-Some.behind.now c.in-Some.ensures)

pub returns : goal.returns
returns c =
    read-last (map seen c.lines.lines.items) (map seen c.add-2.new.lines.items) (filter_map line_of (lines_of c.args.text.now)) c.lines.rest.now
    c.in_default.ensures c.lines.invariant c.in_ok-add-2.ensures
