use Rattle.std.proofs.Common.{sym, ap, arith, length, ◌∙◌}
use Rattle.kube_base.proofs.NameLemmas.{number_in-found, with_name-found, number_in-le, AreNames-with_name}
use Rattle.kube_base.proofs.names.Names.number.Goals as goal

pub returns-in-Some-clause-number : goal.returns-in-Some-clause-number
returns-in-Some-clause-number c = sym (number_in-found c.args.self.now c.args.bytes.now c.in-Some.number (sym c.find.ensures ∙ c.in-Some.is))

pub returns-in-Some-clause-held : goal.returns-in-Some-clause-held
returns-in-Some-clause-held c = c.self.view_is ∙ sym (with_name-found c.args.self.now c.args.bytes.now c.in-Some.number (sym c.find.ensures ∙ c.in-Some.is))

pub overflow_cast-result : goal.overflow_cast-result
overflow_cast-result c =
    let le = number_in-le c.self.inside.texts.keys c.args.bytes.now in
    omega (arith, le, c.in_ok-index.ensures.place, c.requires.few, ap length c.self.view_is)

pub invariant_of-self-2 : goal.invariant_of-self-2
invariant_of-self-2 c =
    rw c.in_ok-index.ensures.held (AreNames-with_name c.self.inside.texts.keys c.args.bytes.now c.self.invariant c.requires.text (rw c.self.view_is c.requires.few))
