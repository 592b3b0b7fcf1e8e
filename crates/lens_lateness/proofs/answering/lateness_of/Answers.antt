use Rattle.lens_lateness.proofs.answering.lateness_of.Goals as goal

pub answer_on-requires : goal.answer_on-requires
answer_on-requires c = c.documents_are_lawful.ensures.lawful c.split_at.result.0.now c.in-Ok.document c.in-Ok.ensures
