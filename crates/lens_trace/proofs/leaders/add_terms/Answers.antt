use Rattle.std.proofs.Common.{◌∙◌}
use Rattle.std.proofs.lemmas.Result.{on_ok_weaker}
use Rattle.lens_trace.proofs.ShownLaws.{terms-told}
use Rattle.lens_trace.proofs.leaders.add_terms.Goals as goal

pub returns : goal.returns
returns c =
    on_ok_weaker c.add_spans.result
    (λ then. terms-told c.args.stop c.args.found.now c.args.acting.now c.deref.result.now c.args.text.now.items c.add_each.new.text.items c.add_spans.new.text.items
    (c.deref.ensures.value ∙ c.in_ok-spans.ensures) c.in_ok-add_each.ensures then)
    c.add_spans.ensures
