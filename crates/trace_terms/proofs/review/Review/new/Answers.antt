use Rattle.std.proofs.Common.{refl}
use Rattle.trace_terms.proofs.ReviewLaws.{nothing-stands}
use Rattle.trace_terms.proofs.review.Review.new.Goals as goal

pub returns : goal.returns
returns c = nothing-stands c.args.millis c.args.end _ refl refl c.new.ensures c.new-2.ensures.items refl refl refl refl
