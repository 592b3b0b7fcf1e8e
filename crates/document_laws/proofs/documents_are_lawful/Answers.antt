use Rattle.document_laws.proofs.LawfulWalk.{documents-lawful, documents-well_named, documents-within}
use Rattle.document_laws.proofs.documents_are_lawful.Goals as goal

pub returns-clause-lawful : goal.returns-clause-lawful
returns-clause-lawful c = documents-lawful

pub returns-clause-named : goal.returns-clause-named
returns-clause-named c = documents-well_named

pub returns-clause-within : goal.returns-clause-within
returns-clause-within c = documents-within
