use Rattle.std.proofs.Common.{◌∙◌, ap, subst, sym, None}
use Rattle.kube_objects.specs.Deletes.{answer_delete}
use Rattle.kube_objects.specs.Entry.{Ticks, entry}
use Rattle.kube_objects.specs.Stored.{node_key, try_write}
use Rattle.object_store.specs.StoreAnswers.{IsReply}
use Rattle.term_state.proofs.Answering.{passed, tried_stands}
use Rattle.term_state.proofs.tries.try_delete.Goals as goal

pub returns-in-Ok-clause-stands : goal.returns-in-Ok-clause-stands
returns-in-Ok-clause-stands c q k h tick st passing written =
    let e = entry k 4 q (Ticks tick) in
    let replied = answer_delete c.args.pod c.args.given (node_key c.args.node) c.args.node_given h in
    tried_stands h e c.delete_pod.new.self (c.args.pod, None) replied c.in-Ok.answer c.delete_pod.result
    (subst (λ n. IsReply c.delete_pod.result (answer_delete c.args.pod c.args.given n c.args.node_given h)) c.node.ensures (c.delete_pod.ensures.answer h st))
    (sym c.in-Ok.is ∙ c.answer.ensures)
    (written ∙ ap (try_write (c.args.pod, None)) (passed q replied h c.args.passes c.if-not-passes.false passing))
    (λ is. c.delete_pod.ensures.ok h e st is)
    (c.delete_pod.ensures.err h st)
