use Rattle.std.proofs.Common.{◌≡◌, ◌++◌, codes}
use Rattle.trace_writer.proofs.Added.{added, where-ok}
use Rattle.lens_room.specs.Words.{unknown_text}
use Rattle.lens_room.proofs.by_flags.words.add_unknown.Goals as goal

pub returns : goal.returns
unfolding unknown_text
returns c =
    let old = c.args.text.now.items in
    let one = c.add.new.text.items in
    let two = c.add-2.new.text.items in
    where-ok c.add-2.result (two ≡ one ++ c.args.word.now) (two ≡ old ++ unknown_text c.args.word.now)
    (λ last. added old one two (codes "no such flag: ") c.args.word.now c.in_ok-add.ensures last)
    c.add-2.ensures
