use Rattle.std.proofs.Common.{◌++◌, codes, decimal, Some, None, ap, ◌∙◌}
use Rattle.std.proofs.lemmas.Result.{on_ok_weaker}
use Rattle.lens_trace.proofs.ShownLaws.{overlap-told}
use Rattle.lens_trace.proofs.leaders.add_overlap.Goals as goal

pub returns-in-Some : goal.returns-in-Some
returns-in-Some c =
    on_ok_weaker c.add_beside.result
    (λ then. overlap-told c.args.acting.now c.args.stretch.now (Some c.in-Some.other.now) c.args.text.now.items c.add_count.new.text.items c.add_count-2.new.text.items c.add.new.text.items
    c.add-2.new.text.items c.add_beside.new.text.items
    c.in-Some.ensures c.in_ok-add_count.ensures (c.in_ok-add_count-2.ensures ∙ ap (λ n. c.add_count.new.text.items ++ (codes " from=" ++ decimal n)) c.from.ensures)
    c.in_ok-add.ensures c.in_ok-add-2.ensures then)
    c.add_beside.ensures

pub returns-in-None : goal.returns-in-None
returns-in-None c =
    on_ok_weaker c.add-in-None.result
    (λ then. overlap-told c.args.acting.now c.args.stretch.now None c.args.text.now.items c.add_count.new.text.items c.add_count-2.new.text.items c.add.new.text.items
    c.add-2.new.text.items c.add-in-None.new.text.items
    c.in-None.ensures c.in_ok-add_count.ensures (c.in_ok-add_count-2.ensures ∙ ap (λ n. c.add_count.new.text.items ++ (codes " from=" ++ decimal n)) c.from.ensures)
    c.in_ok-add.ensures c.in_ok-add-2.ensures then)
    c.add-in-None.ensures
