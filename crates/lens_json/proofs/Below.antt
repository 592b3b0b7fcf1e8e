-- What is written of a number below 0.
use Rattle.std.proofs.Common.{◌≡◌, ℕ, zero, suc, ◌<◌, ◌∷◌, decimal, neg_ℤ, pos, refl, arith}
use Rattle.std.specs.Fmt.{signed_decimal}

pub below_written : (n : ℕ) → 0 < n → signed_decimal (neg_ℤ (pos n)) ≡ 45 ∷ decimal n
below_written zero some = absurd (omega arith)
below_written (suc n) some = refl

pub nothing_written : (n : ℕ) → n ≡ 0 → signed_decimal (neg_ℤ (pos n)) ≡ decimal n
nothing_written zero none = refl
nothing_written (suc n) none = absurd (omega arith)
