use Rattle.std.proofs.Common.{◌++◌, decimal, ap, ◌∙◌}
use Rattle.std.proofs.lemmas.Result.{on_ok_weaker}
use Rattle.lens_trace.proofs.ShownLaws.{span-told}
use Rattle.lens_trace.proofs.leaders.add_span.Goals as goal

pub returns : goal.returns
returns c =
    on_ok_weaker c.add-3.result
    (λ then. span-told c.args.span c.args.text.now.items c.add.new.text.items c.add_number.new.text.items c.add-2.new.text.items c.add_number-2.new.text.items c.add-3.new.text.items
    c.in_ok-add.ensures (c.in_ok-add_number.ensures ∙ ap (λ n. c.add.new.text.items ++ decimal n) c.from.ensures)
    c.in_ok-add-2.ensures (c.in_ok-add_number-2.ensures ∙ ap (λ n. c.add-2.new.text.items ++ decimal n) c.from-2.ensures) then)
    c.add-3.ensures
