use Rattle.std.proofs.Common.{[]}
use Rattle.run_edge.proofs.Endings.{ends-read, ends-long}
use Rattle.run_edge.proofs.asking.ask.Goals as goal

pub returns-in-Ok-clause-text : goal.returns-in-Ok-clause-text
returns-in-Ok-clause-text g c bytes told =
    let taken = g.K.Sink.taken in
    ends-read (g.Q.Question.is_reply c.args.question.now) (g.S.Source.left c.take_input.new.source) bytes c.in-Ok.bytes.items c.deref.result.now c.answer.result
    (taken c.args.sink.now) (taken c.give.new.sink) c.give.result c.deref.ensures.value (c.in-Ok.ensures.whole bytes told) c.answer.ensures (c.give.ensures.text []) c.give.ensures.memory

pub returns-in-Err-TooLarge-clause-text : goal.returns-in-Err-TooLarge-clause-text
returns-in-Err-TooLarge-clause-text g c bytes told =
    let taken = g.K.Sink.taken in
    ends-long (g.Q.Question.is_reply c.args.question.now) (g.S.Source.left c.take_input.new.source) bytes (taken c.args.sink.now) (taken c.tell_too_large.new.sink) c.tell_too_large.result
    (c.in-Err-TooLarge.ensures.long bytes told c.in-Err-TooLarge.field-0-is) c.tell_too_large.ensures.text
