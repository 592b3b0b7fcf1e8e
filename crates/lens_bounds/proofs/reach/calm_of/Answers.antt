use Rattle.script_reader.specs.Documents.{doc_of}
use Rattle.lens_bounds.proofs.Reaches.{calm-is}
use Rattle.lens_bounds.proofs.reach.calm_of.Goals as goal

pub returns-clause-calm : goal.returns-clause-calm
returns-clause-calm c = rw c.calm_with.ensures (rw c.reach_of.ensures (calm-is (doc_of c.args.document.now) c.requires))
