use Rattle.std.proofs.Common.{◌∙◌, ap, sym, None}
use Rattle.kube_objects.specs.Deletes.{answer_delete_alone}
use Rattle.kube_objects.specs.Entry.{Ticks, entry}
use Rattle.kube_objects.specs.Stored.{try_write}
use Rattle.term_state.proofs.Answering.{passed, tried_stands}
use Rattle.term_state.proofs.tries.try_delete_alone.Goals as goal

pub returns-in-Ok-clause-stands : goal.returns-in-Ok-clause-stands
returns-in-Ok-clause-stands c q k h tick st passing written =
    let e = entry k 4 q (Ticks tick) in
    let replied = answer_delete_alone c.args.pod c.args.given h in
    tried_stands h e c.delete_pod_alone.new.self (c.args.pod, None) replied c.in-Ok.answer c.delete_pod_alone.result (c.delete_pod_alone.ensures.answer h st)
    (sym c.in-Ok.is ∙ c.answer.ensures)
    (written ∙ ap (try_write (c.args.pod, None)) (passed q replied h c.args.passes c.if-not-passes.false passing))
    (λ is. c.delete_pod_alone.ensures.ok h e st is)
    (c.delete_pod_alone.ensures.err h st)
