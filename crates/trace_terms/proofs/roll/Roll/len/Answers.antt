use Rattle.trace_terms.proofs.SeatsLaws.{once-map}
use Rattle.trace_terms.proofs.roll.Roll.len.Goals as goal

pub returns-clause-once : goal.returns-clause-once
returns-clause-once c = rw (← c.self.view_is) (once-map (λ text. text.items) c.self.inside.texts.keys c.len.ensures.unique)
