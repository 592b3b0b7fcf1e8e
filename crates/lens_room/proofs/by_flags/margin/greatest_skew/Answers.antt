use Rattle.std.proofs.Common.{◌≡◌, ◌*◌, sym, subst, ◌∙◌}
use Rattle.lens_room.specs.FlagLaws.{IsGreatestSkew, greatest_skew, skew_where}
use Rattle.lens_room.proofs.FlagNumbers.{skew-law}
use Rattle.lens_room.proofs.by_flags.margin.greatest_skew.Goals as goal

pub returns-clause-law : goal.returns-clause-law
returns-clause-law c =
    let is : c.skew_where.result ≡ greatest_skew c.args.flags.now
    = c.skew_where.ensures ∙ (λ i. skew_where (c.are_still.ensures i) (c.from.ensures i * 1000) (c.acting.ensures.is i)) in
    subst (IsGreatestSkew c.args.flags.now) (sym is) (skew-law c.args.flags.now)
