-- Times rounded up to beats, and the looks that find one over.
use Rattle.std.specs.Int.{div_ceil}
use Rattle.std.proofs.Common.{◌⊎◌, ℕ, zero, suc, ◌+◌, ◌*◌, ◌/◌, ◌<◌, ◌≤◌, inl, inr, arith}
use Rattle.std.proofs.Math.Nat.{mul-le-mul_right, mul-le-mul_left}
use Rattle.std.proofs.lemmas.Bool.{cases_lt}
use Rattle.std.proofs.lemmas.Grind.{div_ceil_times}
use Rattle.std.proofs.lemmas.Nat.{div-add-mod', mod_below, le-div, mul-le}
use Rattle.span_laws.specs.Quotients.{most_beats}

-- so many beats are enough
pub ceil-enough : (time speed : ℕ) → 0 < speed → time ≤ div_ceil time speed * speed
ceil-enough time speed some = (div_ceil_times time speed some).0

-- and none less
pub ceil-least : (time speed : ℕ) → 0 < speed → (n : ℕ) → time ≤ n * speed → div_ceil time speed ≤ n
ceil-least time speed some n enough = by_less (cases_lt n (div_ceil time speed))
  where
    by_less : (n < div_ceil time speed) ⊎ (div_ceil time speed ≤ n) → div_ceil time speed ≤ n
    by_less (inr within) = within
    by_less (inl short) = let more : suc n * speed ≤ div_ceil time speed * speed = mul-le-mul_right speed short in absurd (omega (arith, enough, (div_ceil_times time speed some).1, more))

-- a longer time takes more beats, and so does a slower clock
pub ceil-more : (time longer speed slower : ℕ) → 0 < slower → slower ≤ speed → time ≤ longer → div_ceil time speed ≤ div_ceil longer slower
ceil-more time longer speed slower some less more =
    let enough = ceil-enough longer slower some in
    let faster : div_ceil longer slower * slower ≤ div_ceil longer slower * speed = mul-le-mul_left (div_ceil longer slower) less in
    ceil-least time speed (omega arith) (div_ceil longer slower) (omega (arith, enough, faster))

pub quotient-more : (a b k : ℕ) → 0 < k → a ≤ b → a / k ≤ b / k
quotient-more a b k some less = le-div (a / k) b k some (omega (arith, div-add-mod' a k))

-- a look that comes later finds more over
pub looks-more : (near far a b : ℕ) → 1 ≤ near → a ≤ b → most_beats near far a ≤ most_beats near far b
looks-more near far zero b some less = omega arith
looks-more near far (suc a) zero some less = absurd (omega arith)
looks-more near far (suc a) (suc b) some less =
    let quotients = quotient-more a b near some (omega arith) in
    let products : (a / near + 1) * far ≤ (b / near + 1) * far = mul-le-mul_right far (omega (arith, quotients)) in
    omega (arith, products)

-- and none finds a time over before it is
pub looks-least : (near far a : ℕ) → 1 ≤ near → near ≤ far → a ≤ most_beats near far a
looks-least near far zero some less = omega arith
looks-least near far (suc a) some less =
    let whole : (a / near + 1) * near ≤ (a / near + 1) * far = mul-le-mul_left (a / near + 1) less in
    let rest = mod_below a near some in
    omega (arith, div-add-mod' a near, whole, rest)

-- what the beats of a stall count
pub weight : (pauses millis fast slow : ℕ) → pauses ≤ 4294967296 → millis ≤ 1000 → fast ≤ 1500000 → slow ≤ 1000000 → pauses * (millis * 1000 * fast) * slow ≤ 6442450944000000000000000000
weight pauses millis fast slow few short high low =
    let one : millis * 1000 * fast ≤ 1500000000000 = mul-le (millis * 1000) fast 1000000 1500000 (omega arith) high in
    let two : pauses * (millis * 1000 * fast) ≤ 6442450944000000000000 = mul-le pauses (millis * 1000 * fast) 4294967296 1500000000000 few one in
    mul-le (pauses * (millis * 1000 * fast)) slow 6442450944000000000000 1000000 two low
