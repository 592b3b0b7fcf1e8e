use Rattle.std.proofs.Common.{◌≡◌, ◌++◌, codes}
use Rattle.trace_writer.proofs.Added.{added, where-ok}
use Rattle.lens_plan.specs.Lines.{crash_line, millis_text}
use Rattle.lens_plan.proofs.lines.add_crash.Goals as goal

pub returns : goal.returns
unfolding crash_line
returns c =
    let old = c.args.text.now.items in
    let one = c.add.new.text.items in
    let two = c.add_millis.new.text.items in
    let three = c.add_millis-2.new.text.items in
    let four = c.add-2.new.text.items in
    let most = millis_text (codes " at-most=") c.args.most in
    let beside = millis_text c.args.label.now c.args.other in
    where-ok c.add-2.result (four ≡ three ++ codes "\n") (four ≡ old ++ crash_line c.args.most c.args.label.now c.args.other)
    (λ last. added old three four (codes "crash nobody-leads" ++ most ++ beside) (codes "\n")
    (added old two three (codes "crash nobody-leads" ++ most) beside
    (added old one two (codes "crash nobody-leads") most c.in_ok-add.ensures c.in_ok-add_millis.ensures)
    c.in_ok-add_millis-2.ensures)
    last)
    c.add-2.ensures
