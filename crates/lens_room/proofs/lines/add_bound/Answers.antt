use Rattle.std.proofs.Common.{◌++◌, codes, decimal}
use Rattle.lens_room.specs.Lines.{bound_text}
use Rattle.trace_writer.proofs.Added.{added-both}
use Rattle.lens_room.proofs.lines.add_bound.Goals as goal

pub returns : goal.returns
unfolding bound_text
returns c =
    added-both c.args.text.now.items _ _ (codes " lease=" ++ decimal c.args.lease) (codes "ms must-exceed=") (decimal c.args.must_exceed)
    c.in_ok-add_number.ensures c.in_ok-add_number-2.ensures
