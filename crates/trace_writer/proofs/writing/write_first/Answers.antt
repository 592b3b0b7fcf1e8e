use Rattle.byte_edge.proofs.Fronts.{gave-nothing}
use Rattle.trace_writer.specs.Lines.{first_line}
use Rattle.trace_writer.proofs.writing.write_first.Goals as goal

pub returns-in-Err-clause-front : goal.returns-in-Err-clause-front
returns-in-Err-clause-front g c = gave-nothing (g.K.Sink.taken c.args.sink.now) (first_line c.args.settings.now c.args.premise)
