use Rattle.std.proofs.Common.{◌*◌, ◌≤◌, arith}
use Rattle.std.proofs.Math.Nat.{mul-le-mul_right}
use Rattle.std.proofs.lemmas.Nat.{mul-le}
use Rattle.lens_margin.proofs.Bounds.{weight}
use Rattle.lens_margin.proofs.margin.margin_at.Goals as goal

pub overflow_mul-beside : goal.overflow_mul-beside
overflow_mul-beside c =
    let few : c.from-5.result ≤ 8589934592 = omega (arith, c.from-5.ensures, c.args.demand.beside_least, c.args.demand.stall_fits) in
    let paused = weight c.from-5.result c.from-beat_micros.result c.from.result c.from-2.result few (omega arith) (omega arith) (omega arith) in
    omega (arith, paused)

pub overflow_add-beside : goal.overflow_add-beside
overflow_add-beside c =
    let few : c.from-5.result ≤ 8589934592 = omega (arith, c.from-5.ensures, c.args.demand.beside_least, c.args.demand.stall_fits) in
    let paused = weight c.from-5.result c.from-beat_micros.result c.from.result c.from-2.result few (omega arith) (omega arith) (omega arith) in
    let span : c.from-3.result * 1000000000 ≤ 1000000000000000000 = omega (arith, c.from-3.ensures, c.args.demand.acting_fits) in
    let acting = mul-le (c.from-3.result * 1000000000) c.from-4.result 1000000000000000000 4294967295 span (omega arith) in
    omega (arith, paused, acting)

pub overflow_mul-demand : goal.overflow_mul-demand
overflow_mul-demand c =
    let few : c.from-6.result ≤ 8589934592 = omega (arith, c.from-6.ensures, c.args.demand.stall_fits) in
    let paused = weight c.from-6.result c.from-beat_micros.result c.from.result c.from-2.result few (omega arith) (omega arith) (omega arith) in
    omega (arith, paused)

pub overflow_add-demand : goal.overflow_add-demand
overflow_add-demand c =
    let few : c.from-6.result ≤ 8589934592 = omega (arith, c.from-6.ensures, c.args.demand.stall_fits) in
    let paused = weight c.from-6.result c.from-beat_micros.result c.from.result c.from-2.result few (omega arith) (omega arith) (omega arith) in
    let span : c.from-3.result * 1000000000 ≤ 1000000000000000000 = omega (arith, c.from-3.ensures, c.args.demand.acting_fits) in
    let acting = mul-le (c.from-3.result * 1000000000) c.from-4.result 1000000000000000000 4294967295 span (omega arith) in
    omega (arith, paused, acting)

pub longest_stall-requires-clause-part : goal.longest_stall-requires-clause-part
longest_stall-requires-clause-part c =
    let less : c.from-5.result ≤ c.from-6.result = omega (arith, c.from-5.ensures, c.from-6.ensures, c.args.demand.beside_least) in
    let part = mul-le-mul_right (c.from-beat_micros.result * 1000 * c.from.result * c.from-2.result) less in
    omega (arith, part)
