-- The bound of a crash grows with the lease, and it is no less than the lease, the wait and six ways of a message.
use Rattle.std.specs.Int.{div_ceil}
use Rattle.std.proofs.Common.{ℕ, zero, suc, ◌+◌, ◌-◌, ◌*◌, ◌<◌, ◌≤◌, arith}
use Rattle.std.proofs.Math.Nat.{mul-le-mul_right, mul-le-mul_left}
use Rattle.kube_objects.specs.Document.{of_seconds, of_millis}
use Rattle.span_laws.specs.Quotients.{most_beats}
use Rattle.lens_tune.specs.declared.plan.Plan.{Plan}
use Rattle.lens_tune.specs.declared.wish.Wish.{Wish}
use Rattle.lens_tune.specs.Plans.{bound}
use Rattle.lens_tune.specs.Searches.{plan}
use Rattle.lens_tune.specs.Wishes.{IsWish, wait_of, far_of, retry_millis}
use Rattle.lens_tune.proofs.Rounding.{ceil-enough, ceil-more, looks-more, looks-least}

-- on a clock that isn't fast so many beats are no shorter than what they are enough for
beats-least : (beats beat slow millis : ℕ) → slow ≤ 1000000 → millis * 1000000000 ≤ beats * (beat * 1000 * slow) → millis ≤ beats * beat
beats-least beats beat slow millis most enough =
    let less : beats * beat * slow ≤ beats * beat * 1000000 = mul-le-mul_left (beats * beat) most in omega (arith, less, enough)

sum-least : (e w far m beat lease wait : ℕ) → e ≤ m → lease ≤ e * beat → wait ≤ w * beat → lease + wait + 6 * far * beat ≤ (m + w + (6 * far - 2)) * beat + 2 * beat
sum-least e w far m beat lease wait more over waits =
    let all : (e + w + 6 * far) * beat ≤ (m + w + (6 * far - 2) + 2) * beat = mul-le-mul_right beat (omega (arith, more)) in
    omega (arith, all, over, waits)

module _ (w : Wish) (range : IsWish w) where
  abbrev pub slow : ℕ
  slow = w.beat_millis * 1000 * (1000000 - w.skew_ppm)

  abbrev pub fast : ℕ
  fast = w.beat_millis * 1000 * (1000000 + w.skew_ppm)

  pub slow-some : 0 < slow
  slow-some = let some : 1 * 500000 ≤ w.beat_millis * 500000 = mul-le-mul_right 500000 range.beat_least in let more : w.beat_millis * 500000 ≤ w.beat_millis * (1000000 - w.skew_ppm) = mul-le-mul_left w.beat_millis (omega (arith, range.skew)) in omega (arith, some, more)

  pub slower : slow ≤ fast
  slower = mul-le-mul_left (w.beat_millis * 1000) (omega arith)

  pub far-some : 1 ≤ far_of w
  far-some = let enough = ceil-enough w.delay_millis w.beat_millis (omega (arith, range.beat_least)) in by_far (far_of w) enough
    where
      by_far : (n : ℕ) → w.delay_millis ≤ n * w.beat_millis → 1 ≤ n
      by_far zero enough = absurd (omega (arith, enough, range.delay_least))
      by_far (suc n) enough = omega arith

  module _ (p : Plan) where
    abbrev near-step : ℕ
    near-step = div_ceil (of_millis (retry_millis p)) fast + 2 * 1

    abbrev waits : ℕ
    waits = div_ceil (of_millis (wait_of w p)) slow

    abbrev far-step : ℕ
    far-step = waits + 2 * far_of w

    abbrev over : ℕ
    over = div_ceil (of_seconds p.lease_seconds) slow

    waits-longer : retry_millis p ≤ wait_of w p
    waits-longer = mul-le-mul_left p.retry_tenths range.wait_least

    steps-longer : near-step ≤ far-step
    unfolding of_millis
    steps-longer =
        let more = ceil-more (of_millis (retry_millis p)) (of_millis (wait_of w p)) fast slow slow-some slower (omega (arith, waits-longer)) in
        omega (arith, more, far-some)

    lease-over : p.lease_seconds * 1000 ≤ over * w.beat_millis
    unfolding of_seconds
    lease-over = beats-least over w.beat_millis (1000000 - w.skew_ppm) (p.lease_seconds * 1000) (omega arith) (omega (arith, ceil-enough (of_seconds p.lease_seconds) slow slow-some))

    wait-over : wait_of w p ≤ waits * w.beat_millis
    unfolding of_millis
    wait-over = beats-least waits w.beat_millis (1000000 - w.skew_ppm) (wait_of w p) (omega arith) (omega (arith, ceil-enough (of_millis (wait_of w p)) slow slow-some))

    pub bound-least : p.lease_seconds * 1000 + wait_of w p + 6 * far_of w * w.beat_millis ≤ bound w p + 2 * w.beat_millis
    bound-least = sum-least over waits (far_of w) (most_beats near-step far-step over) w.beat_millis (p.lease_seconds * 1000) (wait_of w p) (looks-least near-step far-step over (omega arith) steps-longer) lease-over wait-over

  pub bound-more : (retry lease longer n m : ℕ) → lease ≤ longer → bound w (plan lease retry n) ≤ bound w (plan longer retry m)
  unfolding of_seconds
  bound-more retry lease longer n m less =
      let p = plan lease retry n in
      let q = plan longer retry m in
      let overs : over p ≤ over q = ceil-more (of_seconds lease) (of_seconds longer) slow slow slow-some (omega arith) (omega (arith, less)) in
      let found : most_beats (near-step p) (far-step p) (over p) ≤ most_beats (near-step p) (far-step p) (over q) = looks-more (near-step p) (far-step p) (over p) (over q) (omega arith) overs in
      mul-le-mul_right w.beat_millis (more-by (most_beats (near-step p) (far-step p) (over p)) (most_beats (near-step p) (far-step p) (over q)) (waits p) (6 * far_of w - 2) found)
    where
      more-by : (a b c d : ℕ) → a ≤ b → a + c + d ≤ b + c + d
      more-by a b c d less = omega arith
