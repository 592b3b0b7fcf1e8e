-- Times of day as sums over the integers.
use Rattle.std.proofs.Common.{◌≡◌, ℕ, ◌≤◌, ℤ, pos, negsuc, ◌+ℤ◌, arith}
use Rattle.std.proofs.lemmas.Int.{ints}
use Rattle.skew_clock.specs.Clocking.{moved, IsOffset}

-- no time of the years 2000 on is moved before 0
pub moved-exact : (offset : ℤ) (at : ℕ) → 946684800000000 ≤ at → IsOffset offset → pos (moved offset at) ≡ pos at +ℤ offset
moved-exact (pos micros) at late small = omega (arith, ints)
moved-exact (negsuc micros) at late small = omega (arith, ints)
