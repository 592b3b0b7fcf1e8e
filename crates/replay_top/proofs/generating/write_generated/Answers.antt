use Rattle.std.proofs.Common.{Some, ap, subst, ◌∙◌, refl}
use Rattle.byte_edge.proofs.Fronts.{gave-nothing}
use Rattle.replay_top.specs.Generated.{generated_line}
use Rattle.replay_top.specs.Outcome.{Ends, unread}
use Rattle.replay_top.specs.Replies.{done}
use Rattle.replay_top.proofs.Endings.{ends-unread}
use Rattle.replay_top.proofs.generating.write_generated.Goals as goal

pub returns-in-Ok-clause-text : goal.returns-in-Ok-clause-text
returns-in-Ok-clause-text g c left =
    let before = g.K.Sink.taken c.args.sink.now in
    let after = g.K.Sink.taken c.tell.new.sink in
    subst (λ text. Ends (unread (done text) left) (Some left) before after c.tell.result) (c.deref.ensures.value ∙ c.in-Ok.ensures.line)
    (ends-unread (done c.deref.result.now) left (Some left) before after c.tell.result refl (c.tell.ensures.text left))

pub returns-in-Err-clause-text : goal.returns-in-Err-clause-text
returns-in-Err-clause-text g c left = gave-nothing (g.K.Sink.taken c.args.sink.now) (generated_line c.args.sizes)
