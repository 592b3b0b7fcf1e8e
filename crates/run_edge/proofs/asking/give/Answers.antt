use Rattle.std.proofs.Common.{Some, IfOk, sym, subst}
use Rattle.run_edge.specs.Outcome.{Ends, Reply, Unread, reply_of}
use Rattle.run_edge.proofs.asking.give.Goals as goal

pub returns-in-Ok-clause-text : goal.returns-in-Ok-clause-text
returns-in-Ok-clause-text g c left =
    let before = g.K.Sink.taken c.args.sink.now in
    let after = g.K.Sink.taken c.tell.new.sink in
    let told : Ends (Unread (reply_of c.in-Ok.answer) left) (Some left) before after c.tell.result
    = subst (λ text. Ends (Unread (let r : Reply = record { verdict = c.in-Ok.answer.verdict; text = text } in r) left) (Some left) before after c.tell.result) c.deref.ensures.value (c.tell.ensures.text left) in
    subst (λ r. IfOk r (λ a. Ends (Unread (reply_of a) left) (Some left) before after c.tell.result)) (sym c.in-Ok.is) told
