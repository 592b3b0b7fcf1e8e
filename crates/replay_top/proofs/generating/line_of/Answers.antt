use Rattle.std.proofs.Common.{◌++◌, ap, ◌∙◌}
use Rattle.replay_top.specs.Generated.{counted_line}
use Rattle.replay_top.proofs.generating.line_of.Goals as goal

pub returns-clause-line : goal.returns-clause-line
returns-clause-line g c =
    let sizes = c.args.sizes in
    c.in_ok-add_line.ensures ∙ ap (λ l. l ++ counted_line sizes c.in_ok-counts.counts) c.new-text.ensures.items ∙ ap (counted_line sizes) c.in_ok-counts.ensures.whole
