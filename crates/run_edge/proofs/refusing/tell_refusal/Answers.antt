use Rattle.std.proofs.Common.{ℕ, List, Some, ap, ◌∙◌, subst}
use Rattle.run_edge.specs.declared.status.Verdict.TheVariants.{Refused}
use Rattle.run_edge.specs.Outcome.{Ends, Reply, Unread}
use Rattle.run_edge.proofs.refusing.tell_refusal.Goals as goal

pub returns-in-Ok-clause-text : goal.returns-in-Ok-clause-text
returns-in-Ok-clause-text g c left =
    let P : List ℕ → Type 0 = λ text. Ends (Unread (let r : Reply = record { verdict = Refused; text = text } in r) left) (Some left) (g.K.Sink.taken c.args.sink.now) (g.K.Sink.taken c.tell.new.sink) c.tell.result in
    subst P (c.deref.ensures.value ∙ ap (λ r. r.text) c.in-Ok.ensures) (c.tell.ensures.text left)
