use Rattle.check_tables.proofs.document.read_text.Goals as goal

pub document_text-requires : goal.document_text-requires
document_text-requires c = c.documents_are_lawful.ensures.lawful c.as_bytes.result.now c.in-Ok.document c.in-Ok.ensures
