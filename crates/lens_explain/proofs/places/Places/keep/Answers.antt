use Rattle.std.proofs.Common.{◌∙◌}
use Rattle.lens_explain.proofs.KeptLaws.{keeps-more, place-any}
use Rattle.lens_explain.proofs.places.Places.keep.Goals as goal

pub returns-clause-before : goal.returns-clause-before
returns-clause-before c earlier kept =
    c.in_ok-before.ensures.old ∙ kept (c.args.key.owner, c.args.key.text) ∙ place-any earlier c.args.key.owner 0 c.args.key.place c.args.key.text.now

pub returns-clause-kept : goal.returns-clause-kept
returns-clause-kept c earlier kept =
    keeps-more c.args.self.now.kept c.insert.new.self (c.args.key.owner, c.args.key.text) c.args.key.place earlier kept c.in_ok-before.ensures.updates
