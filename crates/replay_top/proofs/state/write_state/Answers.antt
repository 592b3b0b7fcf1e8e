use Rattle.std.proofs.Common.{Some, [], codes, refl, sym, ap, ◌∙◌, arith}
use Rattle.byte_edge.proofs.Fronts.{gave-nothing}
use Rattle.run_edge.specs.Outcome.{refusal}
use Rattle.replay_top.specs.Outcome.{unread}
use Rattle.replay_top.specs.Replies.{done, state_answer}
use Rattle.replay_top.proofs.Endings.{ends-moved, ends-unread, refusing-done, refusing-source}
use Rattle.replay_top.proofs.States.{state-past, state-within}
use Rattle.replay_top.proofs.state.write_state.Goals as goal

pub returns-then-document-last-clause-text : goal.returns-then-document-last-clause-text
returns-then-document-last-clause-text g c =
    let d = c.args.document in
    let last = c.args.last.0 in
    let taken = g.K.Sink.taken in
    ends-moved (unread (refusal 34 (codes "/")) []) (unread (state_answer d last) []) (Some []) (Some []) (taken c.args.sink.now) (taken c.tell_refusal.new.sink) c.tell_refusal.result
    (ap (λ reply. unread reply []) (state-past d last c.if-document-last.true)) refl
    (ends-unread (refusal 34 (codes "/")) [] (Some []) (taken c.args.sink.now) (taken c.tell_refusal.new.sink) c.tell_refusal.result refl (c.tell_refusal.ensures.text []))

pub returns-then-document-last-clause-reads_back : goal.returns-then-document-last-clause-reads_back
returns-then-document-last-clause-reads_back g c done = absurd (refusing-done c.tell_refusal.result c.tell_refusal.ensures.status done)

pub returns-then-document-last-clause-silent : goal.returns-then-document-last-clause-silent
returns-then-document-last-clause-silent g c fault = refusing-source c.tell_refusal.result c.tell_refusal.ensures.status fault

pub returns-in-Ok-clause-text : goal.returns-in-Ok-clause-text
returns-in-Ok-clause-text g c =
    let d = c.args.document in
    let last = c.args.last.0 in
    let taken = g.K.Sink.taken in
    let past = c.if-document-last.false in
    ends-moved (unread (done c.deref.result.now) []) (unread (state_answer d last) []) (Some []) (Some []) (taken c.args.sink.now) (taken c.tell.new.sink) c.tell.result
    (ap (λ reply. unread reply []) (state-within d last (omega (arith, past)) ∙ ap done (sym (c.deref.ensures.value ∙ c.in-Ok.ensures.text.0)))) refl
    (ends-unread (done c.deref.result.now) [] (Some []) (taken c.args.sink.now) (taken c.tell.new.sink) c.tell.result refl (c.tell.ensures.text []))

pub returns-in-Ok-clause-reads_back : goal.returns-in-Ok-clause-reads_back
returns-in-Ok-clause-reads_back g c done = c.in-Ok.ensures.text.1

pub returns-in-Err-clause-text : goal.returns-in-Err-clause-text
returns-in-Err-clause-text g c = gave-nothing (g.K.Sink.taken c.args.sink.now) (state_answer c.args.document c.args.last.0).text
