use Rattle.std.proofs.Common.{◌∙◌, ap, sym}
use Rattle.controller_core.specs.Passing.{reading_of}
use Rattle.controller_core.proofs.FirstSync.{settled_none, settled_some}
use Rattle.controller_core.proofs.sync.has_settled.Goals as goal

pub returns-in-None : goal.returns-in-None
returns-in-None c doc k q h settles now = settled_none doc k q h (ap reading_of (sym c.in-None.is) ∙ settles)

pub returns-in-Some : goal.returns-in-Some
returns-in-Some c doc k q h settles now = settled_some doc k q h c.in-Some.at.0 c.args.now.0 (ap reading_of (sym c.in-Some.is) ∙ settles) now
