use Rattle.std.proofs.Common.{refl}
use Rattle.lens_explain.specs.declared.place.Shown.{Shown}
use Rattle.lens_explain.proofs.Parts.{shortened}
use Rattle.lens_explain.proofs.place.Shown.in_utf8.Goals as goal

pub returns : goal.returns
returns c input place there =
    let cut : Shown = record { line = c.args.self.line; column = c.args.self.column; text = c.split_at.result.0 } in
    shortened input place c.args.self cut c.match-from_utf8.whole refl refl c.split_at.ensures.front there
