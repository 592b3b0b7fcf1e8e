use Rattle.byte_edge.proofs.Fronts.{gave-nothing}
use Rattle.trace_writer.specs.Lines.{line_of}
use Rattle.trace_writer.proofs.writing.write_deed.Goals as goal

pub returns-in-Err-clause-front : goal.returns-in-Err-clause-front
returns-in-Err-clause-front g c = gave-nothing (g.K.Sink.taken c.args.sink.now) (line_of c.args.names.now c.args.processes.now c.args.deed.now)
