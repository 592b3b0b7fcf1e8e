use Rattle.std.proofs.Common.{◌≡◌, w64, to_z, of_z, refl, sym, subst}
use Rattle.std.proofs.lemmas.Int.{to_z-of_z}
use Rattle.skew_clock.specs.Clocking.{IsOffset}
use Rattle.skew_clock.proofs.Keeping.{kept-first}
use Rattle.skew_clock.proofs.clock.Clock.new.Goals as goal

pub invariant_of-result : goal.invariant_of-result
invariant_of-result c =
    let same : to_z w64 (of_z w64 c.args.offset_micros) ≡ c.args.offset_micros = to_z-of_z w64 c.args.offset_micros c.ranges.offset_micros in
    let offset : IsOffset (to_z w64 (of_z w64 c.args.offset_micros)) = subst IsOffset (sym same) c.requires.offset in
    kept-first _ _ (rw c.new-segments.ensures.items at c.in_ok-push.ensures.items) refl refl refl c.requires.rate c.requires.epoch offset c.requires.span
