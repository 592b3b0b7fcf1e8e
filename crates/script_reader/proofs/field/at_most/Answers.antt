use Rattle.manifest_json.specs.declared.codes.TheConstants.{TOO_MANY}
use Rattle.manifest_json.proofs.KeptLemmas.{fails-by}
use Rattle.script_reader.proofs.Loops.{at_most-over, at_most-few}
use Rattle.script_reader.proofs.field.at_most.Goals as goal

pub returns-then-list-most-clause-gives : goal.returns-then-list-most-clause-gives
returns-then-list-most-clause-gives c = fails-by TOO_MANY c.args.path.now c.fault.result _ c.fault.ensures (at_most-over c.args.most c.args.path.now c.args.list.now c.if-list-most.true)

pub returns-clause-gives : goal.returns-clause-gives
returns-clause-gives c = at_most-few c.args.most c.args.path.now c.args.list.now c.if-list-most.false
