use Rattle.std.proofs.Common.{Some, ◌∙◌, sym, ap}
use Rattle.kube_base.proofs.NameLemmas.{held-IsUtf8}
use Rattle.kube_base.proofs.names.Names.bytes.Goals as goal

pub returns-in-Some-clause-utf8 : goal.returns-in-Some-clause-utf8
returns-in-Some-clause-utf8 c =
    held-IsUtf8 c.self.inside.texts.keys c.args.number c.bytes.result.now c.self.invariant.text
    (sym c.in-Some.ensures.key ∙ ap (λ text. Some text) (sym c.bytes.ensures))
