use Rattle.std.proofs.Common.{◌++◌, ◌∙◌, sym, ap}
use Rattle.kube_base.specs.Names.{number_in, with_name}
use Rattle.kube_base.proofs.NameLemmas.{number_in-is, with_name-is, AreNames-with_name}
use Rattle.kube_base.proofs.names.Names.number_joined.Goals as goal

pub returns-clause-number : goal.returns-clause-number
returns-clause-number c =
    c.in_ok-index.ensures.index ∙ sym (number_in-is c.self.inside.texts.keys c.in_ok-text.text)
    ∙ ap (number_in c.self.inside.texts.keys) c.in_ok-text.ensures ∙ ap (λ names. number_in names (c.args.front.now ++ c.args.back.now)) c.self.view_is

pub returns-clause-held : goal.returns-clause-held
returns-clause-held c =
    c.in_ok-index.ensures.keys ∙ sym (with_name-is c.self.inside.texts.keys c.in_ok-text.text)
    ∙ ap (with_name c.self.inside.texts.keys) c.in_ok-text.ensures ∙ ap (λ names. with_name names (c.args.front.now ++ c.args.back.now)) c.self.view_is

pub invariant_of-self-2 : goal.invariant_of-self-2
invariant_of-self-2 c =
    rw (c.in_ok-index.ensures.keys, ← with_name-is c.self.inside.texts.keys c.in_ok-text.text, c.in_ok-text.ensures)
    (AreNames-with_name c.self.inside.texts.keys (c.args.front.now ++ c.args.back.now) c.self.invariant c.requires.text (rw c.self.view_is c.requires.few))
