use Rattle.manifest_json.proofs.NamesKept.{numbered-kept, same-kept}
use Rattle.manifest_json.proofs.field.number.Goals as goal

pub returns-in-Ok-clause-names : goal.returns-in-Ok-clause-names
returns-in-Ok-clause-names c = numbered-kept c.args.names.now c.number.new.self c.as_bytes.result.now c.in-Ok.ensures.held

pub returns-in-Err-clause-names : goal.returns-in-Err-clause-names
returns-in-Err-clause-names c = same-kept c.args.names.now c.number.new.self c.in-Err.ensures.err
