-- Quotients give the bounds.
use Rattle.std.proofs.Common.{◌≤◌, ◌<◌, ℕ, zero, suc, ◌+◌, ◌*◌, ◌/◌, min, max, ⊎_elim, arith}
use Rattle.std.proofs.Math.Nat.{mul-le-mul_right, div-mul-le_self}
use Rattle.std.proofs.lemmas.Bool.{cases_lt}
use Rattle.std.proofs.lemmas.Grind.{div_ceil_times}
use Rattle.std.proofs.lemmas.Nat.{le-div}
use Rattle.std.specs.Int.{div_ceil}
use Rattle.span_laws.specs.Spans.{IsEnough, IsNeeded}
use Rattle.span_laws.specs.Looks.{IsAtMost, IsAtLeast, IsGreatest}
use Rattle.span_laws.specs.Quotients.{most_beats, least_beats, RoundedUp, BoundsAreExact}

-- a number is below the next multiple
next_multiple : (n m : ℕ) → 1 ≤ m → n < (n / m + 1) * m
next_multiple n m some = ⊎_elim (λ less. less) (λ le. absurd (omega (arith, le-div (n / m + 1) n m some le))) (cases_lt n ((n / m + 1) * m))

pub rounded_is : RoundedUp
rounded_is speed time some = ((div_ceil_times time speed some).0, needed)
  where
    needed : (n : ℕ) → time ≤ n * speed → div_ceil time speed ≤ n
    needed n le = ⊎_elim (λ lt. absurd (omega (arith, le, mul-le-mul_right speed lt, (div_ceil_times time speed some).1))) (λ more. more) (cases_lt n (div_ceil time speed))

most_is : (near far beats : ℕ) → 1 ≤ near → IsAtMost near far beats (most_beats near far beats) × IsGreatest near far beats (most_beats near far beats)
most_is near far zero some = ((λ steps le. omega arith, omega arith), λ n bound. omega (arith, bound.0 0 (omega arith)))
most_is near far (suc last) some = ((reached, omega arith), greatest)
  where
    reached : (steps : ℕ) → suc last ≤ steps * near → min ((last / near + 1) * far) (last + far) ≤ steps * far
    reached steps le = ⊎_elim (λ lt. omega (arith, mul-le-mul_right far lt)) (λ few. absurd (omega (arith, le, mul-le-mul_right near few, div-mul-le_self last near))) (cases_lt (last / near) steps)

    greatest : (n : ℕ) → IsAtMost near far (suc last) n → n ≤ min ((last / near + 1) * far) (last + far)
    greatest n bound = omega (arith, bound.0 (last / near + 1) (next_multiple last near some), bound.1)

least_is : (near far beats : ℕ) → 1 ≤ far → IsAtLeast near far beats (least_beats near far beats) × ((n : ℕ) → IsAtLeast near far beats n → least_beats near far beats ≤ n)
least_is near far beats some = ((omega arith, steps_fit), least)
  where
    up : IsEnough far beats (div_ceil beats far) × IsNeeded far beats (div_ceil beats far)
    up = rounded_is far beats some

    steps_fit : (steps : ℕ) → IsNeeded far beats steps → steps * near ≤ max beats (div_ceil beats far * near)
    steps_fit steps need = omega (arith, mul-le-mul_right near (need (div_ceil beats far) up.0))

    least : (n : ℕ) → IsAtLeast near far beats n → max beats (div_ceil beats far * near) ≤ n
    least n bound = omega (arith, bound.0, bound.1 (div_ceil beats far) up.1)

pub bounds_are_exact : BoundsAreExact
bounds_are_exact near far beats = (most_is near far beats, least_is near far beats)
