use Rattle.document_laws.proofs.LawfulWalk.{documents-written}
use Rattle.document_laws.proofs.sets_are_written_out.Goals as goal

pub returns : goal.returns
returns c = documents-written
