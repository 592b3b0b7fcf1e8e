use Rattle.std.proofs.Common.{◌≡◌, ◌++◌, codes, subst}
use Rattle.trace_writer.proofs.Added.{added, where-ok}
use Rattle.lens_calm.specs.Lines.{gone_line, seconds_text, tainted_if}
use Rattle.lens_calm.proofs.lines.add_gone.Goals as goal

pub returns : goal.returns
unfolding gone_line
returns c =
    let old = c.args.text.now.items in
    let one = c.add_seconds.new.text.items in
    let two = c.add_taint.new.text.items in
    let three = c.add.new.text.items in
    let time = seconds_text (codes "pods gone toleration=") c.args.seconds in
    where-ok c.add.result (three ≡ two ++ codes "\n") (three ≡ old ++ gone_line c.args.seconds c.args.gone)
    (λ last. added old two three (time ++ tainted_if c.args.gone) (codes "\n")
    (added old one two time (tainted_if c.args.gone)
    (subst (λ n. one ≡ old ++ seconds_text (codes "pods gone toleration=") n) c.from.ensures c.in_ok-add_seconds.ensures) c.in_ok-add_taint.ensures)
    last)
    c.add.ensures
