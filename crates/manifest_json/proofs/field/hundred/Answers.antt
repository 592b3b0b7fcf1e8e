use Rattle.std.proofs.Common.{◌++◌}
use Rattle.manifest_json.specs.declared.codes.TheConstants.{TOO_MANY}
use Rattle.manifest_json.proofs.KeptLemmas.{fails-by}
use Rattle.manifest_json.proofs.Loops.{hundred-over, hundred-few}
use Rattle.manifest_json.proofs.field.hundred.Goals as goal

pub returns-then-list-gt100 : goal.returns-then-list-gt100
returns-then-list-gt100 c = fails-by TOO_MANY (c.args.path.now ++ c.args.key.now) c.fault_below.result _ c.fault_below.ensures (hundred-over (c.args.path.now ++ c.args.key.now) c.args.list.now c.if-list-gt100.true)

pub returns : goal.returns
returns c = hundred-few (c.args.path.now ++ c.args.key.now) c.args.list.now c.if-list-gt100.false
