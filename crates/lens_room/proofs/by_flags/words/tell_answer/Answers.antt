use Rattle.lens_room.proofs.WordEndings.{ends-shown}
use Rattle.lens_room.proofs.by_flags.words.tell_answer.Goals as goal

pub returns-in-Ok-clause-text : goal.returns-in-Ok-clause-text
returns-in-Ok-clause-text g c left =
    ends-shown c.args.answer c.in-Ok.answer c.deref.result.now left (g.K.Sink.taken c.args.sink.now) (g.K.Sink.taken c.tell.new.sink) c.tell.result c.in-Ok.is
    c.deref.ensures.value (c.tell.ensures.text left)
