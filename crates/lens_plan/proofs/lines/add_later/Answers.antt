use Rattle.std.proofs.Common.{◌≡◌, ◌++◌, codes, decimal, subst}
use Rattle.trace_writer.proofs.Added.{added, where-ok}
use Rattle.lens_plan.specs.Lines.{crash_line, later_text}
use Rattle.lens_plan.proofs.lines.add_later.Goals as goal

pub returns : goal.returns
unfolding later_text
returns c =
    let old = c.args.text.now.items in
    let one = c.add_crash.new.text.items in
    let two = c.add.new.text.items in
    let three = c.add_decimal.new.text.items in
    let four = c.add-2.new.text.items in
    let line = crash_line c.args.least (codes " failover=") c.args.wish.failover_millis in
    where-ok c.add-2.result (four ≡ three ++ codes "ms\nnone\n") (four ≡ old ++ later_text c.args.wish c.args.least)
    (λ last. added old three four (line ++ codes "least-failover=" ++ decimal c.args.least) (codes "ms\nnone\n")
    (added old two three (line ++ codes "least-failover=") (decimal c.args.least)
    (added old one two line (codes "least-failover=") (subst (λ n. one ≡ old ++ crash_line c.args.least (codes " failover=") n) c.from.ensures c.in_ok-add_crash.ensures) c.in_ok-add.ensures)
    c.in_ok-add_decimal.ensures)
    last)
    c.add-2.ensures
