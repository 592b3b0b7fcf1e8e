use Rattle.std.proofs.Common.{◌≡◌, Some, sym}
use Rattle.kube_base.specs.Names.{number_of}
use Rattle.kube_base.proofs.NameLemmas.{number_in-found, with_name-found}
use Rattle.trace_terms.proofs.RollTexts.{number_of-map}
use Rattle.trace_terms.proofs.roll.Roll.place.Goals as goal

found : (c : goal.In-Some) → number_of c.args.self.now c.args.text.now ≡ Some c.in-Some.index
found c = rw (← c.self.view_is, number_of-map (λ t. t.items) c.self.inside.texts.keys c.args.text.now) (sym c.in-Some.ensures.index)

pub returns-in-Some-clause-place : goal.returns-in-Some-clause-place
returns-in-Some-clause-place c = sym (number_in-found c.args.self.now c.args.text.now c.in-Some.index (found c))

pub returns-in-Some-clause-held : goal.returns-in-Some-clause-held
returns-in-Some-clause-held c = sym (with_name-found c.args.self.now c.args.text.now c.in-Some.index (found c))
