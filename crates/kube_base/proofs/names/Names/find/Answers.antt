use Rattle.std.proofs.Common.{◌∙◌, sym}
use Rattle.kube_base.proofs.NameLemmas.{number_of-is}
use Rattle.kube_base.proofs.names.Names.find.Goals as goal

pub returns-in-Some-get_index_of : goal.returns-in-Some-get_index_of
returns-in-Some-get_index_of c = rw (← c.self.view_is) (c.in-Some-get_index_of.ensures.index ∙ sym (number_of-is c.self.inside.texts.keys c.args.bytes.now))

pub returns-in-None : goal.returns-in-None
returns-in-None c = rw (← c.self.view_is) (c.in-None.ensures.index ∙ sym (number_of-is c.self.inside.texts.keys c.args.bytes.now))
