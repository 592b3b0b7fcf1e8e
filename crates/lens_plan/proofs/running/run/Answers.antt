use Rattle.std.proofs.Common.{map, string_bytes}
use Rattle.lens_room.specs.Flags.{behind}
use Rattle.lens_room.proofs.WordEndings.{ends-told}
use Rattle.lens_plan.specs.Answers.{IsAnswer}
use Rattle.lens_plan.proofs.running.run.Goals as goal

pub returns-clause-text : goal.returns-clause-text
returns-clause-text g c left =
    ends-told IsAnswer (map string_bytes c.behind.result.now) (behind (map string_bytes c.args.words.now.items)) c.answer.result left
    (g.K.Sink.taken c.args.sink.now) (g.K.Sink.taken c.tell_answer.new.sink) c.tell_answer.result c.behind.ensures c.answer.ensures (c.tell_answer.ensures.text left)
