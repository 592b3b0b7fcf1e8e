-- The sizes of products.
use Rattle.std.proofs.Common.{ℕ, ◌*◌, ◌≤◌, arith}
use Rattle.std.proofs.lemmas.Nat.{mul-le}

-- what pauses count
pub weight : (pauses millis fast slow : ℕ) → pauses ≤ 8589934592 → millis ≤ 1000 → fast ≤ 4294967295 → slow ≤ 4294967295 → pauses * (millis * 1000 * fast * slow) ≤ 158456324954741698900839628800000000
weight pauses millis fast slow few short high low =
    let one : millis * 1000 * fast ≤ 4294967295000000 = mul-le (millis * 1000) fast 1000000 4294967295 (omega arith) high in
    let two : millis * 1000 * fast * slow ≤ 18446744065119617025000000 = mul-le (millis * 1000 * fast) slow 4294967295000000 4294967295 one low in
    mul-le pauses (millis * 1000 * fast * slow) 8589934592 18446744065119617025000000 few two
