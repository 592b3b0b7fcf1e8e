use Rattle.std.proofs.Common.{◌≡◌, ◌++◌, codes, decimal}
use Rattle.trace_writer.proofs.Added.{added, where-ok}
use Rattle.lens_room.specs.FlagReplies.{ppm_text}
use Rattle.lens_room.proofs.by_flags.lines.add_ppm.Goals as goal

pub returns : goal.returns
unfolding ppm_text
returns c =
    let old = c.args.text.now.items in
    let one = c.add.new.text.items in
    let two = c.add_number.new.text.items in
    let three = c.add-2.new.text.items in
    where-ok c.add-2.result (three ≡ two ++ codes "ppm\n") (three ≡ old ++ ppm_text c.args.ppm)
    (λ last. added old one three (codes "greatest-skew=") (decimal c.args.ppm ++ codes "ppm\n") c.in_ok-add.ensures
    (added one two three (decimal c.args.ppm) (codes "ppm\n") c.in_ok-add_number.ensures last))
    c.add-2.ensures
