use Rattle.manifest_json.proofs.ListsBack.{reads-back}
use Rattle.manifest_json.proofs.write.write_list.Goals as goal

pub returns-clause-reads_back : goal.returns-clause-reads_back
returns-clause-reads_back c = reads-back c.args.names.now c.len-held.ensures.once c.args.known.now c.args.items.now c.list_value.result c.list_value.ensures
