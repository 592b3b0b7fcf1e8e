use Rattle.lens_lateness.proofs.RefusalLaws.{refusals-are-the-same}
use Rattle.lens_lateness.proofs.figures.answering.figures_of.Goals as goal

pub answer_beside-requires : goal.answer_beside-requires
answer_beside-requires c = c.documents_are_lawful.ensures.lawful c.split_at.result.0.now c.in-Ok.document c.in-Ok.ensures

pub returns-in-Ok-clause-refusals : goal.returns-in-Ok-clause-refusals
returns-in-Ok-clause-refusals c input = refusals-are-the-same input

pub returns-in-Err-Refused-clause-refusals : goal.returns-in-Err-Refused-clause-refusals
returns-in-Err-Refused-clause-refusals c input = refusals-are-the-same input

pub returns-in-Err-NoMemory-clause-refusals : goal.returns-in-Err-NoMemory-clause-refusals
returns-in-Err-NoMemory-clause-refusals c input = refusals-are-the-same input
