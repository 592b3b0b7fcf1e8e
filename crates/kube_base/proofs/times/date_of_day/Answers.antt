use Rattle.std.proofs.Common.{arith, ◌∙◌, ap, w64, w16, FitsSigned, unsigned_abs}
use Rattle.std.proofs.lemmas.Int.{ints, to_z-of_z}
use Rattle.kube_base.proofs.DayLemmas.{date_by_begun, year_bounds}
use Rattle.kube_base.proofs.times.date_of_day.Goals as goal

pub overflow_cast-result : goal.overflow_cast-result
overflow_cast-result c =
    let day : FitsSigned w64 c.from.result = omega (arith, ints, c.from.ensures, c.requires) in
    let within = year_bounds c.args.day c.in-Ok.date (c.in-Ok.ensures.value ∙ to_z-of_z _ _ day ∙ c.from.ensures) c.requires in
    let is = within.1 in
    let fits : FitsSigned w16 c.in-Ok.date.year = omega (arith, ints, is, within.2) in
    rw (to_z-of_z w16 c.in-Ok.date.year fits, is) (tt, omega (arith, within.2))

pub returns-in-Ok-clause-year : goal.returns-in-Ok-clause-year
returns-in-Ok-clause-year c =
    let day : FitsSigned w64 c.from.result = omega (arith, ints, c.from.ensures, c.requires) in
    let number = c.in-Ok.ensures.value ∙ to_z-of_z _ _ day ∙ c.from.ensures in
    let within = year_bounds c.args.day c.in-Ok.date number c.requires in
    let is = within.1 in
    let fits : FitsSigned w16 c.in-Ok.date.year = omega (arith, ints, is, within.2) in
    ap unsigned_abs (to_z-of_z w16 c.in-Ok.date.year fits ∙ (date_by_begun c.args.day c.in-Ok.date number c.requires).0)

pub returns-in-Ok-clause-month : goal.returns-in-Ok-clause-month
returns-in-Ok-clause-month c =
    let day : FitsSigned w64 c.from.result = omega (arith, ints, c.from.ensures, c.requires) in
    c.from-in-Ok.ensures ∙ (date_by_begun c.args.day c.in-Ok.date (c.in-Ok.ensures.value ∙ to_z-of_z _ _ day ∙ c.from.ensures) c.requires).1

pub returns-in-Ok-clause-day : goal.returns-in-Ok-clause-day
returns-in-Ok-clause-day c =
    let day : FitsSigned w64 c.from.result = omega (arith, ints, c.from.ensures, c.requires) in
    c.from-in-Ok-2.ensures ∙ (date_by_begun c.args.day c.in-Ok.date (c.in-Ok.ensures.value ∙ to_z-of_z _ _ day ∙ c.from.ensures) c.requires).2
