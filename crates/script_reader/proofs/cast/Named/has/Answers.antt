use Rattle.std.proofs.Common.{◌∙◌, ap}
use Rattle.std.specs.Prelude.{is_some}
use Rattle.script_reader.proofs.Named.{has-is}
use Rattle.script_reader.proofs.cast.Named.has.Goals as goal

pub returns : goal.returns
returns c = c.contains_key.ensures ∙ ap is_some (c.requires.places c.args.name) ∙ has-is c.args.name c.args.self.now.procs
