use Rattle.std.proofs.Common.{codes}
use Rattle.serde_json.specs.View.{view}
use Rattle.manifest_json.specs.declared.codes.TheConstants.{BAD_JSON}
use Rattle.manifest_json.proofs.KeptLemmas.{fails-by}
use Rattle.script_reader.specs.Walk.{data_of}
use Rattle.script_reader.proofs.Parsed.{data-found, data-refused, never}
use Rattle.script_reader.proofs.reading.read_value.Goals as goal

pub returns-in-Ok : goal.returns-in-Ok
returns-in-Ok c = data-found c.args.bytes.now (view c.in-Ok.value) c.in-Ok.ensures.ok.0 c.in-Ok.ensures.ok.1

pub returns-else-is_memory : goal.returns-else-is_memory
returns-else-is_memory c =
    fails-by BAD_JSON (codes "/") c.fault_at.result (data_of c.args.bytes.now) c.fault_at.ensures
    (data-refused c.args.bytes.now (λ text. c.in-Err.ensures.err (λ memory. never (c.if-is_memory.ensures.1 memory)) text))
