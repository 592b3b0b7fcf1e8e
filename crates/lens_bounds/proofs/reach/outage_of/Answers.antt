use Rattle.script_reader.specs.Documents.{doc_of}
use Rattle.lens_bounds.proofs.Reaches.{outage-is}
use Rattle.lens_bounds.proofs.reach.outage_of.Goals as goal

pub returns-clause-outage : goal.returns-clause-outage
returns-clause-outage c = rw c.outage_with.ensures (rw c.reach_of.ensures (rw c.reach_of-2.ensures (outage-is (doc_of c.args.document.now) c.requires)))
