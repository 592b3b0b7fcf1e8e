use Rattle.std.proofs.Common.{◌≡◌, ◌∙◌, sym, ap, pos, to_z, Some, w64, w32, w16, w8, FitsSigned, arith}
use Rattle.std.proofs.lemmas.Int.{ints, to_z-of_z}
use Rattle.jiff_core.proofs.SignedLemmas.{signed_casts}
use Rattle.kube_base.proofs.DayLemmas.{day_number-is}
use Rattle.kube_base.proofs.times.day_number.Goals as goal

pub returns-in-Ok-clause-value : goal.returns-in-Ok-clause-value
returns-in-Ok-clause-value c =
    let fits : FitsSigned w64 c.from.result = omega (arith, ints, c.from.ensures, c.to_unix_epoch_day.ensures.bound) in
    let inner : FitsSigned w32 c.to_unix_epoch_day.result = omega (arith, ints, c.to_unix_epoch_day.ensures.bound) in
    let year : to_z w16 c.args.year ≡ pos c.args.year = omega (arith, signed_casts, c.requires.year_in) in
    let month : to_z w8 c.args.month ≡ pos c.args.month = omega (arith, signed_casts, c.requires.month_in) in
    let day : to_z w8 c.args.day ≡ pos c.args.day = omega (arith, signed_casts, c.requires.day_in) in
    let is = day_number-is c.args.year c.args.month c.args.day c.in-Ok.date (c.in-Ok.ensures.value.0 ∙ year, c.in-Ok.ensures.value.1 ∙ month, c.in-Ok.ensures.value.2 ∙ day) in
    ap (λ z. Some z) (to_z-of_z _ _ fits ∙ c.from.ensures ∙ to_z-of_z _ _ inner ∙ c.to_unix_epoch_day.ensures.value) ∙ sym is
