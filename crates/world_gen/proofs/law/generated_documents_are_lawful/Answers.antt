use Rattle.world_gen.proofs.Lawful.{generated-lawful}
use Rattle.world_gen.proofs.Premised.{generated-premise}
use Rattle.world_gen.proofs.law.generated_documents_are_lawful.Goals as goal

pub returns-clause-lawful : goal.returns-clause-lawful
returns-clause-lawful c seed nodes pods beats few fewer soon = generated-lawful seed nodes pods beats few fewer soon c.objects_are_readable.ensures.apart

pub returns-clause-premise : goal.returns-clause-premise
returns-clause-premise c = generated-premise
