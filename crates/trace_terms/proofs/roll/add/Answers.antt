use Rattle.std.proofs.Common.{◌∙◌, sym, ap, map}
use Rattle.kube_base.specs.Names.{number_in, with_name}
use Rattle.trace_terms.proofs.RollTexts.{number_in-map, with_name-map}
use Rattle.trace_terms.proofs.roll.add.Goals as goal

pub returns-clause-place : goal.returns-clause-place
returns-clause-place c =
    let place = c.in_ok-index.ensures.index in
    place ∙ sym (number_in-map (λ t. t.items) c.args.texts.now.keys c.in_ok-owned.owned.items) ∙ ap (number_in (map (λ t. t.items) c.args.texts.now.keys)) c.in_ok-owned.ensures.items

pub returns-clause-held : goal.returns-clause-held
returns-clause-held c =
    ap (map (λ t. t.items)) c.in_ok-index.ensures.keys
    ∙ sym (with_name-map (λ t. t.items) c.args.texts.now.keys c.in_ok-owned.owned)
    ∙ ap (with_name (map (λ t. t.items) c.args.texts.now.keys)) c.in_ok-owned.ensures.items
