use Rattle.document_laws.proofs.EarlierDocuments.{earlier-own}
use Rattle.document_laws.proofs.earlier_documents_go_by_own.Goals as goal

pub returns : goal.returns
returns c = earlier-own
