use Rattle.document_laws.proofs.SoundDocuments.{sound-document}
use Rattle.document_laws.proofs.lawful_documents_are_sound.Goals as goal

pub returns : goal.returns
returns c = sound-document
