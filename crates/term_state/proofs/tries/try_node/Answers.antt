use Rattle.std.proofs.Common.{◌∙◌, ap, subst, sym, Some}
use Rattle.kube_objects.specs.declared.object.Object.TheVariants as object
use Rattle.kube_objects.specs.Answers.{answer_update}
use Rattle.kube_objects.specs.Entry.{Ticks, entry}
use Rattle.kube_objects.specs.Stored.{next_version, node_key, node_write, stored, try_write}
use Rattle.object_store.specs.StoreAnswers.{IsReply}
use Rattle.term_state.proofs.Answering.{passed, tried_stands}
use Rattle.term_state.proofs.tries.try_node.Goals as goal

pub returns-in-Ok-clause-stands : goal.returns-in-Ok-clause-stands
returns-in-Ok-clause-stands c q k h tick st passing written =
    let w = node_write c.args.name c.args.written.now in
    let e = entry k 4 q (Ticks tick) in
    let replied = answer_update (next_version h) c.args.given (stored (node_key c.args.name) h) in
    tried_stands h e c.update.new.self w replied c.in-Ok.answer c.update.result
    (subst (λ n. IsReply c.update.result (answer_update (next_version h) c.args.given (stored n h))) c.node.ensures (c.update.ensures.answer h st))
    (sym c.in-Ok.is ∙ c.answer.ensures)
    (written ∙ ap (try_write w) (passed q replied h c.args.passes c.if-not-passes.false passing))
    (λ is. c.update.ensures.ok h e st (is
    ∙ ap (λ n. Some (n, Some (object.Node c.args.written.now))) (sym c.node.ensures)
    ∙ ap (λ x. Some (c.node.result, Some (object.Node x))) (sym c.in_ok-copy.ensures)))
    (c.update.ensures.err h st)
