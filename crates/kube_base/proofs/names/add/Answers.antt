use Rattle.std.proofs.Common.{◌∙◌, sym, ap, append-nil}
use Rattle.kube_base.proofs.NameLemmas.{number_in-is, with_name-is}
use Rattle.kube_base.specs.Names.{number_in, with_name}
use Rattle.kube_base.proofs.names.add.Goals as goal

pub returns-clause-place : goal.returns-clause-place
returns-clause-place c =
    c.in_ok-index.ensures.index ∙ sym (number_in-is c.args.texts.now.keys c.in_ok-owned.owned)
    ∙ ap (number_in c.args.texts.now.keys) (c.in_ok-owned.ensures ∙ append-nil c.args.text.now)

pub returns-clause-held : goal.returns-clause-held
returns-clause-held c =
    c.in_ok-index.ensures.keys ∙ sym (with_name-is c.args.texts.now.keys c.in_ok-owned.owned)
    ∙ ap (with_name c.args.texts.now.keys) (c.in_ok-owned.ensures ∙ append-nil c.args.text.now)
