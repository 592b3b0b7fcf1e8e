use Rattle.std.proofs.Common.{◌≡◌, Ok}
use Rattle.script_reader.specs.Walk.{document_walk}
use Rattle.replay_top.proofs.reading.read_bytes.Goals as goal

pub returns-clause-lawful : goal.returns-clause-lawful
unfolding document_walk
returns-clause-lawful c =
    let read : document_walk c.args.bytes.now ≡ Ok c.in_ok-document.document = rw c.in_ok-value.ensures c.in_ok-document.ensures in
    c.documents_are_lawful.ensures.lawful c.args.bytes.now c.in_ok-document.document read

pub returns-clause-named : goal.returns-clause-named
unfolding document_walk
returns-clause-named c =
    let read : document_walk c.args.bytes.now ≡ Ok c.in_ok-document.document = rw c.in_ok-value.ensures c.in_ok-document.ensures in
    c.documents_are_lawful.ensures.named c.args.bytes.now c.in_ok-document.document read
