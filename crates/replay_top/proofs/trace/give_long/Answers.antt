use Rattle.std.proofs.Common.{subst, sym}
use Rattle.byte_edge.specs.Bytes.{Gives, Gave}
use Rattle.replay_top.specs.Spoken.{Spoken}
use Rattle.replay_top.proofs.Said.{spoken-front, spoken-emptied}
use Rattle.replay_top.proofs.trace.give_long.Goals as goal

pub returns-in-Ok-clause-spoken : goal.returns-in-Ok-clause-spoken
returns-in-Ok-clause-spoken g c before said s =
    let taken = g.K.Sink.taken in
    let text = c.args.text.now.items in
    let given = subst (Gives (taken c.args.sink.now) (taken c.give_all.new.sink)) c.deref.ensures.value c.in-Ok.ensures.all in
    subst (λ l. Spoken before (taken c.give_all.new.sink) l said) (sym c.clear.ensures.items)
    (spoken-emptied before (taken c.args.sink.now) (taken c.give_all.new.sink) text said s given)

pub returns-in-Err-clause-front : goal.returns-in-Err-clause-front
returns-in-Err-clause-front g c before said s =
    let taken = g.K.Sink.taken in
    let text = c.args.text.now.items in
    let gave = subst (Gave (taken c.args.sink.now) (taken c.give_all.new.sink)) c.deref.ensures.value c.in-Err.ensures.front in
    spoken-front before (taken c.args.sink.now) (taken c.give_all.new.sink) text said s gave
