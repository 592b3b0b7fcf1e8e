use Rattle.std.proofs.Common.{length, is_none, sym, ap, ◌∙◌}
use Rattle.kube_objects.specs.declared.rules.ReleaseActing.TheVariants.{Acts}
use Rattle.history.specs.Premise.{answers_come}
use Rattle.script_reader.specs.Documents.{doc_of}
use Rattle.lens_room.specs.Late.{first_late}
use Rattle.lens_room.proofs.LateReplies.{late-tells}
use Rattle.lens_room.proofs.late.late_reply.Goals as goal

pub returns-in-Acts-clause-law : goal.returns-in-Acts-clause-law
returns-in-Acts-clause-law c =
    let doc = doc_of c.args.document.now in
    let found = c.first_late.ensures.is doc (sym (ap length c.as_slice-in-Acts.ensures)) ∙ ap (first_late doc 0) c.as_slice.ensures in
    ap (λ acting. answers_come acting doc) c.in-Acts.is ∙ late-tells Acts doc ∙ ap is_none (sym found)
