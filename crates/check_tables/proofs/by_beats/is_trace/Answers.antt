use Rattle.std.proofs.Common.{sym, subst}
use Rattle.std.specs.List.{All}
use Rattle.kube_objects.specs.Document.{processes}
use Rattle.kube_objects.specs.Writable.{IsWritable}
use Rattle.script_reader.specs.Documents.{doc_of}
use Rattle.script_reader.specs.Walk.{document_walk}
use Rattle.check_tables.proofs.ByBeats.{found, same}
use Rattle.check_tables.proofs.by_beats.is_trace.Goals as goal

pub all_deeds-requires-clause-lawful : goal.all_deeds-requires-clause-lawful
all_deeds-requires-clause-lawful c =
    let walk = document_walk c.as_bytes-bytes.result.now in
    let d = c.in-Some.played in
    c.documents_are_lawful.ensures.lawful c.as_bytes-bytes.result.now d (found walk c.in_ok-played.field-0 d c.in_ok-played.ensures c.in-Some.is)

pub all_deeds-requires-clause-named : goal.all_deeds-requires-clause-named
all_deeds-requires-clause-named c =
    let walk = document_walk c.as_bytes-bytes.result.now in
    let d = c.in-Some.played in
    c.documents_are_lawful.ensures.named c.as_bytes-bytes.result.now d (found walk c.in_ok-played.field-0 d c.in_ok-played.ensures c.in-Some.is)

pub write_lines-requires-clause-lawful : goal.write_lines-requires-clause-lawful
write_lines-requires-clause-lawful c =
    let walk = document_walk c.as_bytes-bytes.result.now in
    let d = c.in-Some-2.named in
    c.documents_are_lawful.ensures.lawful c.as_bytes-bytes.result.now d (found walk c.in_ok-named.field-0 d c.in_ok-named.ensures c.in-Some-2.is)

pub write_lines-requires-clause-named : goal.write_lines-requires-clause-named
write_lines-requires-clause-named c =
    let walk = document_walk c.as_bytes-bytes.result.now in
    let d = c.in-Some-2.named in
    c.documents_are_lawful.ensures.named c.as_bytes-bytes.result.now d (found walk c.in_ok-named.field-0 d c.in_ok-named.ensures c.in-Some-2.is)

pub write_lines-requires-clause-writable : goal.write_lines-requires-clause-writable
write_lines-requires-clause-writable c =
    let walk = document_walk c.as_bytes-bytes.result.now in
    let played = c.in-Some.played in
    let named = c.in-Some-2.named in
    let both = same c.in_ok-deeds.deeds walk played named
    (found walk c.in_ok-played.field-0 played c.in_ok-played.ensures c.in-Some.is)
    (found walk c.in_ok-named.field-0 named c.in_ok-named.ensures c.in-Some-2.is)
    c.in_ok-deeds.ensures in
    subst (All (IsWritable named.names (processes (doc_of named)))) (sym c.as_slice.ensures) both
