use Rattle.kube_base.proofs.NameLemmas.{number_of-held}
use Rattle.kube_base.proofs.names.Names.len.Goals as goal

pub returns-clause-once : goal.returns-clause-once
returns-clause-once c = rw (← c.self.view_is) (λ i text. number_of-held c.self.inside.texts.keys i text c.len.ensures.unique)
