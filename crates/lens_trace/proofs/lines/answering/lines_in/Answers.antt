use Rattle.lens_trace.proofs.LineLaws.{one-object-a-line}
use Rattle.lens_trace.proofs.lines.answering.lines_in.Goals as goal

pub returns-clause-lines : goal.returns-clause-lines
returns-clause-lines c header ls = one-object-a-line header ls
