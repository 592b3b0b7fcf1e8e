use Rattle.std.proofs.Common.{◌+◌, ◌*◌, nat_lt, sym, ◌∙◌, arith}
use Rattle.std.proofs.lemmas.Nat.{mul-le}
use Rattle.lens_tune.proofs.Premises.{safe-is}
use Rattle.lens_tune.proofs.Rounding.{weight}
use Rattle.lens_tune.proofs.fitting.safe.Goals as goal

pub overflow_mul-still-4 : goal.overflow_mul-still-4
overflow_mul-still-4 c =
    let paused = weight c.stalled.result c.from.result c.from-fast.result c.from-slow.result (omega arith) (omega arith) (omega arith) (omega arith) in
    omega (arith, paused)

pub overflow_add-result : goal.overflow_add-result
overflow_add-result c =
    let paused = weight c.stalled.result c.from.result c.from-fast.result c.from-slow.result (omega arith) (omega arith) (omega arith) (omega arith) in
    let acting = mul-le ((c.from-2.result + c.from-3.result * 100 + c.from-4.result * 100) * 1000000000) c.from-fast.result 900000000000000000000 1500000 (omega arith) (omega arith) in
    omega (arith, paused, acting)

pub returns : goal.returns
returns c =
    (λ i.
    nat_lt
    (c.stalled.ensures.is i * (c.from.ensures i * 1000 * c.from-fast.ensures i) * c.from-slow.ensures i
    + ((c.from-2.ensures ∙ c.timeout_by.ensures) i + c.from-3.ensures i * 100 + c.from-4.ensures i * 100) * 1000000000 * c.from-fast.ensures i)
    (c.from-5.ensures i * 1000000000000 * c.from-slow.ensures i))
    ∙ sym (safe-is c.args.w c.args.p)
