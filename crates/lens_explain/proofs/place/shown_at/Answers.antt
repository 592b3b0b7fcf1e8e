use Rattle.std.proofs.Common.{ap, ◌∙◌}
use Rattle.lens_explain.specs.Places.{column_of, line_of}
use Rattle.lens_explain.proofs.Parts.{behind-place}
use Rattle.lens_explain.proofs.place.shown_at.Goals as goal

pub returns : goal.returns
returns c =
    let input = c.args.input.now in
    let cut = c.cut_at in
    let part = c.split_at in (
      c.line_in.ensures ∙ ap line_of cut.ensures.front,
      c.column_in.ensures ∙ ap column_of cut.ensures.front,
      (part.result.1.now, behind-place input cut.result.1.now part.result.0.now part.result.1.now c.args.place c.shown_of.result cut.ensures.rest part.ensures.front part.ensures.back),
    )
