-- What only a longer renew deadline can break, and what only a shorter one can, as facts on numbers.
use Rattle.std.specs.Int.{div_ceil}
use Rattle.std.proofs.Common.{◌≡◌, ℕ, ◌+◌, ◌-◌, ◌*◌, ◌<◌, ◌≤◌, ◌&&◌, nat_lt, nat_le, true, sym, ◌∙◌, arith}
use Rattle.std.proofs.Math.Nat.{mul-le-mul_right}
use Rattle.std.proofs.lemmas.Bool.{ltb-true, lt-ltb, leb-true, le-leb, and_parts, and_from, not-true, not_from_false, false_from_ne_true}
use Rattle.kube_objects.specs.Document.{of_seconds, of_millis}
use Rattle.lens_bounds.specs.Elections.{replies_count, renews, outlasts}
use Rattle.lens_tune.specs.declared.first.Question.{Question}
use Rattle.lens_tune.specs.declared.first.Question.TheVariants.{TooLong, Enough, Outlasting}
use Rattle.lens_tune.specs.declared.plan.Plan.{Plan}
use Rattle.lens_tune.specs.declared.wish.Timeout.{Timeout}
use Rattle.lens_tune.specs.declared.wish.Timeout.TheVariants.{RenewDeadline, Half, Fixed}
use Rattle.lens_tune.specs.declared.wish.Wish.{Wish}
use Rattle.lens_tune.specs.Plans.{starts, safe, stays, holds}
use Rattle.lens_tune.specs.Searches.{is_enough, is_outlasted, asked, plan}
use Rattle.lens_tune.specs.Wishes.{IsWish, timeout_by, timeout_of, renew_millis, retry_millis, far_of, calm_of, controller_of}
use Rattle.lens_tune.proofs.Bounds.{slow, fast, slow-some}
use Rattle.lens_tune.proofs.Premises.{outlasted, lease, safe-is}
use Rattle.lens_tune.proofs.Rounding.{ceil-more, quotient-more}

timeout-more : (t : Timeout) (a b : ℕ) → a ≤ b → timeout_by t a ≤ timeout_by t b
timeout-more RenewDeadline a b less = less
timeout-more Half a b less = omega (arith, quotient-more a b 2 (omega arith) less)
timeout-more (Fixed millis) a b less = omega arith

module _ (w : Wish) where
  record IsOutlasted (p : Plan) : Type 0 where
    shorter : renew_millis p < p.lease_seconds * 1000
    timeout : timeout_of w p ≤ 600000
    lasting : outlasted w p < lease w p
    renewal : outlasts (calm_of w p) (controller_of w p) ≡ true

  outlasted-tells : (p : Plan) → is_outlasted w p ≡ true → IsOutlasted p
  outlasted-tells p is =
      let three = and_parts _ (outlasts (calm_of w p) (controller_of w p)) is in
      let two = and_parts _ (safe w p) three.0 in
      let one = and_parts (nat_lt (renew_millis p) (p.lease_seconds * 1000)) (nat_le (timeout_of w p) 600000) two.0 in
      record {
        shorter = ltb-true _ _ one.0;
        timeout = leb-true _ _ one.1;
        lasting = ltb-true _ _ (sym (safe-is w p) ∙ two.1);
        renewal = three.1;
      }

  outlasted-from : (p : Plan) → IsOutlasted p → is_outlasted w p ≡ true
  outlasted-from p o =
      and_from _ (outlasts (calm_of w p) (controller_of w p))
      (and_from _ (safe w p) (and_from (nat_lt (renew_millis p) (p.lease_seconds * 1000)) (nat_le (timeout_of w p) 600000) (lt-ltb _ _ o.shorter) (le-leb _ _ o.timeout)) (safe-is w p ∙ lt-ltb _ _ o.lasting))
      o.renewal

  -- a longer lease, a shorter retry period and a shorter renew deadline break none of it
  lasting-more : (p q : Plan) → p.lease_seconds ≤ q.lease_seconds → q.retry_tenths ≤ p.retry_tenths → q.renew_tenths ≤ p.renew_tenths → outlasted w p < lease w p → outlasted w q < lease w q
  lasting-more p q longer sooner earlier lasts =
      let timeouts : timeout_of w q ≤ timeout_of w p = timeout-more w.timeout (renew_millis q) (renew_millis p) (omega (arith, earlier)) in
      let acts : (timeout_of w q + q.retry_tenths * 100 + q.renew_tenths * 100) * 1000000000 * (1000000 + w.skew_ppm) ≤ (timeout_of w p + p.retry_tenths * 100 + p.renew_tenths * 100) * 1000000000 * (1000000 + w.skew_ppm)
      = mul-le-mul_right (1000000 + w.skew_ppm) (omega (arith, timeouts, sooner, earlier)) in
      let leases : lease w p ≤ lease w q = mul-le-mul_right (1000000 - w.skew_ppm) (omega (arith, longer)) in
      by_parts _ _ _ _ _ acts leases lasts
    where
      by_parts : (still a b l m : ℕ) → a ≤ b → l ≤ m → still + b < l → still + a < m
      by_parts still a b l m less longer lasts = omega arith

  module _ (range : IsWish w) where
    renewal-more : (p q : Plan) → p.lease_seconds ≤ q.lease_seconds → q.retry_tenths ≤ p.retry_tenths → outlasts (calm_of w p) (controller_of w p) ≡ true → outlasts (calm_of w q) (controller_of w q) ≡ true
    unfolding of_seconds of_millis
    renewal-more p q longer sooner lasts =
        let u : ℕ = slow w range in
        let retries : div_ceil (of_millis (retry_millis q)) u ≤ div_ceil (of_millis (retry_millis p)) u = ceil-more (of_millis (retry_millis q)) (of_millis (retry_millis p)) u u (slow-some w range) (omega arith) (omega (arith, sooner)) in
        let beats : (div_ceil (of_millis (retry_millis q)) u + 5 * far_of w - 1) * fast w range ≤ (div_ceil (of_millis (retry_millis p)) u + 5 * far_of w - 1) * fast w range
        = mul-le-mul_right (fast w range) (omega (arith, retries)) in
        let before : (div_ceil (of_millis (retry_millis p)) u + 5 * far_of w - 1) * fast w range < of_seconds p.lease_seconds = ltb-true _ _ lasts in
        lt-ltb _ _ (by_parts _ _ _ _ beats before (omega (arith, longer)))
      where
        by_parts : (a b c d : ℕ) → a ≤ b → b < c → c ≤ d → a < d
        by_parts a b c d one two three = omega arith

    pub outlasted-more : (p q : Plan) → p.lease_seconds ≤ q.lease_seconds → q.retry_tenths ≤ p.retry_tenths → q.renew_tenths ≤ p.renew_tenths → is_outlasted w p ≡ true → is_outlasted w q ≡ true
    outlasted-more p q longer sooner earlier is =
        let o = outlasted-tells p is in
        outlasted-from q (record {
          shorter = omega (arith, o.shorter, longer, earlier);
          timeout = let less = timeout-more w.timeout (renew_millis q) (renew_millis p) (omega (arith, earlier)) in omega (arith, less, o.timeout);
          lasting = lasting-more p q longer sooner earlier o.lasting;
          renewal = renewal-more p q longer sooner o.renewal;
        })

  -- nor do a shorter retry period and a longer renew deadline break what is long enough
  pub enough-more : (p q : Plan) → q.retry_tenths ≤ p.retry_tenths → p.renew_tenths ≤ q.renew_tenths → is_enough w p ≡ true → is_enough w q ≡ true
  unfolding of_millis
  enough-more p q sooner later is =
      let two = and_parts _ (renews (calm_of w p) (controller_of w p)) is in
      let one = and_parts (nat_lt (6 * retry_millis p) (5 * renew_millis p)) (replies_count (calm_of w p) (controller_of w p)) two.0 in
      let jitter : 6 * retry_millis p < 5 * renew_millis p = ltb-true _ _ one.0 in
      let timeouts : timeout_of w p ≤ timeout_of w q = timeout-more w.timeout (renew_millis p) (renew_millis q) (omega (arith, later)) in
      and_from _ (renews (calm_of w q) (controller_of w q))
      (and_from (nat_lt (6 * retry_millis q) (5 * renew_millis q)) (replies_count (calm_of w q) (controller_of w q))
      (lt-ltb _ _ (omega (arith, jitter, sooner, later)))
      (le-leb _ _ (longer _ (timeout_of w p) (timeout_of w q) timeouts (leb-true _ _ one.1))))
      (le-leb _ _ (longer _ (renew_millis p) (renew_millis q) (omega (arith, later)) (leb-true _ _ two.1)))
    where
      longer : (x a b : ℕ) → a ≤ b → x ≤ a * 1000000000 → x ≤ b * 1000000000
      longer x a b less within = omega arith

  -- ---- both together

  pub holds-parts : (p : Plan) → holds w p ≡ true → (is_enough w p ≡ true) × (is_outlasted w p ≡ true)
  holds-parts p is =
      let two = and_parts _ (stays w p) is in
      let one = and_parts (starts w p) (safe w p) two.0 in
      let begins = and_parts (nat_lt (renew_millis p) (p.lease_seconds * 1000) && nat_lt (6 * retry_millis p) (5 * renew_millis p)) (nat_le (timeout_of w p) 600000) one.0 in
      let lengths = and_parts (nat_lt (renew_millis p) (p.lease_seconds * 1000)) (nat_lt (6 * retry_millis p) (5 * renew_millis p)) begins.0 in
      let calm = and_parts (replies_count (calm_of w p) (controller_of w p) && renews (calm_of w p) (controller_of w p)) (outlasts (calm_of w p) (controller_of w p)) two.1 in
      let counts = and_parts (replies_count (calm_of w p) (controller_of w p)) (renews (calm_of w p) (controller_of w p)) calm.0 in (
        and_from _ (renews (calm_of w p) (controller_of w p)) (and_from _ (replies_count (calm_of w p) (controller_of w p)) lengths.1 counts.0) counts.1,
        and_from _ (outlasts (calm_of w p) (controller_of w p)) (and_from _ (safe w p) (and_from _ (nat_le (timeout_of w p) 600000) lengths.0 begins.1) one.1) calm.1,
      )

  pub holds-from : (p : Plan) → is_enough w p ≡ true → is_outlasted w p ≡ true → holds w p ≡ true
  holds-from p enough outlasts-it =
      let two = and_parts _ (renews (calm_of w p) (controller_of w p)) enough in
      let one = and_parts (nat_lt (6 * retry_millis p) (5 * renew_millis p)) (replies_count (calm_of w p) (controller_of w p)) two.0 in
      let last = and_parts _ (outlasts (calm_of w p) (controller_of w p)) outlasts-it in
      let middle = and_parts _ (safe w p) last.0 in
      let first = and_parts (nat_lt (renew_millis p) (p.lease_seconds * 1000)) (nat_le (timeout_of w p) 600000) middle.0 in
      and_from _ (stays w p)
      (and_from (starts w p) (safe w p) (and_from _ (nat_le (timeout_of w p) 600000) (and_from _ (nat_lt (6 * retry_millis p) (5 * renew_millis p)) first.0 one.0) first.1) middle.1)
      (and_from _ (outlasts (calm_of w p) (controller_of w p)) (and_from _ (renews (calm_of w p) (controller_of w p)) one.1 two.1) last.1)

  -- ---- from some number on

  pub asked-more : IsWish w → (question : Question) (n m : ℕ) → n ≤ m → asked w question n ≡ true → asked w question m ≡ true
  asked-more range (TooLong lease retry) n m less is =
      let before = not-true (is_outlasted w (plan lease retry n)) is in
      not_from_false (is_outlasted w (plan lease retry m))
      (false_from_ne_true (is_outlasted w (plan lease retry m))
      (λ after. let never : is_outlasted w (plan lease retry n) ≡ true = outlasted-more range (plan lease retry m) (plan lease retry n) (omega arith) (omega arith) less after in cc))
  asked-more range (Enough retry) n m less is = enough-more (plan 0 retry n) (plan 0 retry m) (omega arith) less is
  asked-more range (Outlasting retry renew) n m less is = outlasted-more range (plan n retry renew) (plan m retry renew) less (omega arith) (omega arith) is
