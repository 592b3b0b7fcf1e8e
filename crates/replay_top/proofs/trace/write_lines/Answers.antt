use Rattle.std.proofs.Common.{◌++◌, refl}
use Rattle.trace_writer.specs.Lines.{lines_of}
use Rattle.replay_top.proofs.Said.{spoken-more, spoken-longer}
use Rattle.replay_top.proofs.trace.write_lines.Goals as goal

pub returns-in-Ok-clause-spoken : goal.returns-in-Ok-clause-spoken
returns-in-Ok-clause-spoken g c before said s =
    let more = lines_of c.args.names.now c.args.processes.now c.args.deeds.now in
    c.give_long.ensures.spoken before (said ++ more)
    (spoken-more before (g.K.Sink.taken c.args.sink.now) c.args.buffer.now.text.items more c.add_lines.new.buffer.text.items said (said ++ more) s c.in-Ok.ensures refl)

pub returns-in-Ok-clause-front : goal.returns-in-Ok-clause-front
returns-in-Ok-clause-front g c before said s =
    let more = lines_of c.args.names.now c.args.processes.now c.args.deeds.now in
    c.give_long.ensures.front before (said ++ more)
    (spoken-more before (g.K.Sink.taken c.args.sink.now) c.args.buffer.now.text.items more c.add_lines.new.buffer.text.items said (said ++ more) s c.in-Ok.ensures refl)

pub returns-in-Err-clause-front : goal.returns-in-Err-clause-front
returns-in-Err-clause-front g c before said s =
    let more = lines_of c.args.names.now c.args.processes.now c.args.deeds.now in
    spoken-longer before (g.K.Sink.taken c.args.sink.now) c.args.buffer.now.text.items said more s
