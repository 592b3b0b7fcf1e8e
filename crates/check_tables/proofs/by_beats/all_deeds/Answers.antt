use Rattle.std.proofs.Common.{sym, subst, arith, suc}
use Rattle.std.proofs.lemmas.List.Elements.{All-from_recursion}
use Rattle.std.specs.List.{All}
use Rattle.kube_objects.specs.Document.{processes, end_beat}
use Rattle.kube_objects.specs.Writable.{IsWritable}
use Rattle.history.specs.History.{whole_history}
use Rattle.history.specs.Printed.{printed}
use Rattle.script_reader.specs.Documents.{doc_of}
use Rattle.check_tables.proofs.by_beats.all_deeds.Goals as goal

pub returns : goal.returns
returns c =
    let names = c.args.document.names in
    let doc = doc_of c.args.document in
    let have = c.deeds_are_writable.ensures.deeds names doc c.len.ensures.names c.requires.lawful c.requires.named (suc (end_beat doc)) (omega (arith)) in
    subst (All (IsWritable names (processes doc))) (sym c.in_ok-deeds.ensures)
    (All-from_recursion (IsWritable names (processes doc)) (printed (whole_history doc)) have)
