-- Why the search misses no plan.
use Rattle.std.proofs.Common.{◌≡◌, ◌⊎◌, ℕ, ◌+◌, ◌-◌, ◌*◌, ◌/◌, ◌<◌, ◌≤◌, not, min, nat_lt, nat_le, true, false, Some, None, refl, subst, ◌∙◌, inl, inr, arith}
use Rattle.std.proofs.lemmas.Bool.{cases_lt, cases_Bool, both_ways, ltb-true, le-ltb, leb-true, le-leb, and_parts, and_from, and_left, not_from_false, not-true}
use Rattle.std.proofs.lemmas.Nat.{le-div}
use Rattle.lens_bounds.specs.Elections.{replies_count, renews, outlasts}
use Rattle.lens_margin.specs.Laws.{IsLeast}
use Rattle.lens_tune.specs.declared.first.Question.TheVariants.{TooLong}
use Rattle.lens_tune.specs.declared.plan.Plan.{Plan}
use Rattle.lens_tune.specs.declared.wish.Wish.{Wish}
use Rattle.lens_tune.specs.Greatest.{IsGreater, IsGreatestPlan, HasPlan, within, IsLeastFailover}
use Rattle.lens_tune.specs.Plans.{IsPlan, bound, soon, safe, holds, fits}
use Rattle.lens_tune.specs.Searches.{is_enough, is_outlasted, asked, plan, room, longest_retry, IsLeastRenew, IsLeastLease, IsGreatestWith, IsGreatestOf}
use Rattle.lens_tune.specs.Wishes.{IsWish, renew_millis, retry_millis, timeout_of, wait_of, calm_of, controller_of}
use Rattle.lens_tune.proofs.Bounds.{bound-least, bound-more}
use Rattle.lens_tune.proofs.Closed.{outlasted-more, enough-more, holds-parts, holds-from, asked-more}

-- ---- the smaller of two

smaller-right : (x y : ℕ) → y < x → y ≡ min x y
smaller-right x y less = omega arith

smaller-left : (x y : ℕ) → x ≤ y → x ≡ min x y
smaller-left x y less = omega arith

below-right : (x y z : ℕ) → y ≤ z → min x y ≤ z
below-right x y z less = omega arith

below-left : (x y z : ℕ) → x ≤ z → min x y ≤ z
below-left x y z less = omega arith

module _ (w : Wish) where
  -- ---- how far the search has come

  -- the least bound so far, of the plans with a retry period below this
  pub record IsBest (least : ℕ) (retry : ℕ) : Type 0 where
    pub attained : (p : Plan) × IsPlan w p × (holds w p ≡ true) × (bound w p ≡ least)
    pub below : (q : Plan) → IsPlan w q → holds w q ≡ true → q.retry_tenths < retry → least ≤ bound w q

  -- the plans of this lease that fit have retry periods below this
  pub record AreBelow (lease bound_retry : ℕ) : Type 0 where
    pub retries : (q : Plan) → q.lease_seconds ≡ lease → IsPlan w q → fits w q ≡ true → q.retry_tenths < bound_retry

  -- those that fit have leases below this
  pub record AreShorter (most : ℕ) : Type 0 where
    pub leases : (q : Plan) → IsPlan w q → fits w q ≡ true → q.lease_seconds < most

  -- ---- sizes

  pub renew-below : (p : Plan) → is_outlasted w p ≡ true → p.renew_tenths < p.lease_seconds * 10
  renew-below p is =
      let three = and_parts _ (outlasts (calm_of w p) (controller_of w p)) is in
      let two = and_parts _ (safe w p) three.0 in
      let one = and_parts (nat_lt (renew_millis p) (p.lease_seconds * 1000)) (nat_le (timeout_of w p) 600000) two.0 in
      let less : renew_millis p < p.lease_seconds * 1000 = ltb-true _ _ one.0 in
      omega (arith, less)

  retry-below-renew : (p : Plan) → is_enough w p ≡ true → p.retry_tenths < p.renew_tenths
  retry-below-renew p is =
      let two = and_parts _ (renews (calm_of w p) (controller_of w p)) is in
      let one = and_parts (nat_lt (6 * retry_millis p) (5 * renew_millis p)) (replies_count (calm_of w p) (controller_of w p)) two.0 in
      let less : 6 * retry_millis p < 5 * renew_millis p = ltb-true _ _ one.0 in
      omega (arith, less)

  pub retry-below : (p : Plan) → p.lease_seconds ≤ 86400 → holds w p ≡ true → p.retry_tenths ≤ 864000
  retry-below p short is =
      let parts = holds-parts w p is in
      let one = retry-below-renew p parts.0 in
      let two = renew-below p parts.1 in
      omega (arith, one, two, short)

  fits-parts : (p : Plan) → fits w p ≡ true → (bound w p ≤ w.failover_millis) × (holds w p ≡ true)
  fits-parts p is = let parts = and_parts (soon w p) (holds w p) is in (leb-true _ _ parts.0, parts.1)

  pub too-long : (lease retry : ℕ) → asked w (TooLong lease retry) (10 * lease) ≡ true
  too-long lease retry =
      not_from_false (is_outlasted w (plan lease retry (10 * lease)))
      (and_left _ (outlasts (calm_of w (plan lease retry (10 * lease))) (controller_of w (plan lease retry (10 * lease))))
      (and_left _ (safe w (plan lease retry (10 * lease)))
      (and_left _ (nat_le (timeout_of w (plan lease retry (10 * lease))) 600000) (le-ltb (renew_millis (plan lease retry (10 * lease))) (lease * 1000) (omega arith)))))

  -- ---- the least renew deadline

  pub no-renew : (retry most : ℕ) → is_enough w (plan 0 retry most) ≡ false → (n : ℕ) → n ≤ most → ¬ (is_enough w (plan 0 retry n) ≡ true)
  no-renew retry most not n less is = both_ways _ not (enough-more w (plan 0 retry n) (plan 0 retry most) (omega arith) less is)

  module _ (range : IsWish w) where
    -- ---- the least lease

    pub no-lease : (retry : ℕ) → IsLeastRenew w retry None → IsLeastLease w retry None
    no-lease retry none q short sooner is =
        let parts = holds-parts w q is in
        let below = renew-below q parts.1 in
        none q.renew_tenths (omega (arith, below, short)) (enough-more w q (plan 0 retry q.renew_tenths) sooner (omega arith) parts.0)

    module _ (retry renew : ℕ) (least : IsLeastRenew w retry (Some renew)) where
      shorter : (q : Plan) → retry ≤ q.retry_tenths → holds w q ≡ true → is_outlasted w (plan q.lease_seconds retry renew) ≡ true
      shorter q sooner is =
          let parts = holds-parts w q is in
          let earlier : renew ≤ q.renew_tenths = least.1.least q.renew_tenths (enough-more w q (plan 0 retry q.renew_tenths) sooner (omega arith) parts.0) in
          outlasted-more w range q (plan q.lease_seconds retry renew) (omega arith) sooner earlier parts.1

      pub some-lease : (lease : ℕ) → lease ≤ 86400 → IsLeast (λ n. is_outlasted w (plan n retry renew) ≡ true) lease → IsLeastLease w retry (Some lease)
      some-lease lease short first = (
        short,
        (renew, holds-from w (plan lease retry renew) least.1.holds first.holds),
        λ q less sooner is. first.least q.lease_seconds (shorter q sooner is),
      )

      pub lease-too-long : is_outlasted w (plan 86400 retry renew) ≡ false → IsLeastLease w retry None
      lease-too-long not q short sooner is = both_ways _ not (outlasted-more w range (plan q.lease_seconds retry renew) (plan 86400 retry renew) short (omega arith) (omega arith) (shorter q sooner is))

    -- ---- room

    pub bound-more-of : (p q : Plan) → p.retry_tenths ≡ q.retry_tenths → p.lease_seconds ≤ q.lease_seconds → bound w p ≤ bound w q
    bound-more-of p q same less = subst (λ r. bound w p ≤ bound w (plan q.lease_seconds r q.renew_tenths)) same (bound-more w range p.retry_tenths p.lease_seconds q.lease_seconds p.renew_tenths q.renew_tenths less)

    -- a plan whose bound is at most this has room
    in-room : (failover : ℕ) (q : Plan) → bound w q ≤ failover → q.lease_seconds * 1000 + wait_of w q ≤ room w failover
    in-room failover q within-it = let least = bound-least w range q in omega (arith, least, within-it)

    pub retry-within : (failover lease : ℕ) (q : Plan) → lease ≤ q.lease_seconds → q.lease_seconds ≤ 86400 → holds w q ≡ true → bound w q ≤ failover → q.retry_tenths ≤ longest_retry w failover lease
    retry-within failover lease q longer short is within-it =
        let fitting = in-room failover q within-it in
        let quotient = le-div q.retry_tenths (room w failover - lease * 1000) w.wait_percent (omega (arith, range.wait_least)) (omega (arith, fitting, longer)) in
        let most = retry-below q short is in
        omega (arith, quotient, most)

    pub lease-within : (q : Plan) → bound w q ≤ w.failover_millis → q.lease_seconds ≤ room w w.failover_millis / 1000
    lease-within q within-it = le-div q.lease_seconds (room w w.failover_millis) 1000 (omega arith) (let fitting = in-room w.failover_millis q within-it in omega (arith, fitting))

    -- ---- the least failover

    attained-by : (lease retry : ℕ) → w.retry_tenths ≤ retry → IsLeastLease w retry (Some lease) → (p : Plan) × IsPlan w p × (holds w p ≡ true) × (bound w p ≡ bound w (plan lease retry 0))
    attained-by lease retry enough found = (plan lease retry found.1.0, record { lease = found.0; retry = enough }, found.1.1, refl)

    pub best-first : (lease : ℕ) → IsLeastLease w w.retry_tenths (Some lease) → IsBest (bound w (plan lease w.retry_tenths 0)) w.retry_tenths
    best-first lease found = record {
      attained = attained-by lease w.retry_tenths (omega arith) found;
      below = λ q in-steps is less. absurd (omega (arith, in-steps.retry, less));
    }

    pub best-none : (least retry : ℕ) → IsLeastLease w retry None → IsBest least retry → IsBest least (retry + 1)
    best-none least retry none best = record {
      attained = best.attained;
      below = λ q in-steps is less. by_less q in-steps is (cases_lt q.retry_tenths retry);
    }
      where
        by_less : (q : Plan) → IsPlan w q → holds w q ≡ true → (q.retry_tenths < retry) ⊎ (retry ≤ q.retry_tenths) → least ≤ bound w q
        by_less q in-steps is (inl less) = best.below q in-steps is less
        by_less q in-steps is (inr more) = absurd (none q in-steps.lease more is)

    pub best-some : (least retry lease : ℕ) → w.retry_tenths ≤ retry → IsLeastLease w retry (Some lease) → IsBest least retry → IsBest (min (bound w (plan lease retry 0)) least) (retry + 1)
    best-some least retry lease enough found best = record {
      attained = by_size (cases_lt least (bound w (plan lease retry 0)));
      below = λ q in-steps is less. by_less q in-steps is less (cases_lt q.retry_tenths retry);
    }
      where
        by_size : (least < bound w (plan lease retry 0)) ⊎ (bound w (plan lease retry 0) ≤ least) → (p : Plan) × IsPlan w p × (holds w p ≡ true) × (bound w p ≡ min (bound w (plan lease retry 0)) least)
        by_size (inl less) = let a = best.attained in (a.0, a.1, a.2, a.3 ∙ smaller-right (bound w (plan lease retry 0)) least less)
        by_size (inr more) = let a = attained-by lease retry enough found in (a.0, a.1, a.2, a.3 ∙ smaller-left (bound w (plan lease retry 0)) least more)

        by_less : (q : Plan) → IsPlan w q → holds w q ≡ true → q.retry_tenths < retry + 1 → (q.retry_tenths < retry) ⊎ (retry ≤ q.retry_tenths) → min (bound w (plan lease retry 0)) least ≤ bound w q
        by_less q in-steps is short (inl less) = let old = best.below q in-steps is less in below-right (bound w (plan lease retry 0)) least (bound w q) old
        by_less q in-steps is short (inr more) =
            let longer = found.2 q in-steps.lease more is in
            let new = bound-more-of (plan lease retry 0) q (omega (arith, short, more)) longer in
            below-left (bound w (plan lease retry 0)) least (bound w q) new

    -- where all retry periods that there is room for were tried
    pub best-last : (least at_first lease retry : ℕ) → IsLeastLease w w.retry_tenths (Some lease) → least ≤ at_first → longest_retry w at_first lease < retry → IsBest least retry → IsLeastFailover w (Some least)
    best-last least at_first lease retry found less over best = record {
      holds = let a = best.attained in (a.0, record { lease = a.1.lease; retry = a.1.retry }, and_from (soon (within least w) a.0) (holds w a.0) (le-leb _ _ (omega (arith, a.3))) a.2);
      least = λ millis has. any millis has;
    }
      where
        of-all : (q : Plan) → IsPlan w q → holds w q ≡ true → (q.retry_tenths < retry) ⊎ (retry ≤ q.retry_tenths) → (bound w q < least) ⊎ (least ≤ bound w q) → least ≤ bound w q
        of-all q in-steps is by (inr more) = more
        of-all q in-steps is (inl short) (inl never) = best.below q in-steps is short
        of-all q in-steps is (inr long) (inl never) =
            let longer = found.2 q in-steps.lease in-steps.retry is in
            let within-it = retry-within at_first lease q longer in-steps.lease is (omega (arith, never, less)) in
            absurd (omega (arith, within-it, over, long))

        any : (millis : ℕ) → HasPlan (within millis w) → least ≤ millis
        any millis (q, in-steps, is) =
            let parts = and_parts (soon (within millis w) q) (holds w q) is in
            let in-time : bound w q ≤ millis = leb-true _ _ parts.0 in
            let found-more = of-all q (record { lease = in-steps.lease; retry = in-steps.retry }) parts.1 (cases_lt q.retry_tenths retry) (cases_lt (bound w q) least) in
            omega (arith, in-time, found-more)

    pub never : IsLeastLease w w.retry_tenths None → IsLeastFailover w None
    never none millis (q, in-steps, is) = none q in-steps.lease in-steps.retry (and_parts (soon (within millis w) q) (holds w q) is).1

    -- ---- the greatest renew deadline

    pub not-soon : (lease retry : ℕ) → soon w (plan lease retry 0) ≡ false → IsGreatestWith w lease retry None
    not-soon lease retry not n is = both_ways _ not (and_parts (soon w (plan lease retry n)) (holds w (plan lease retry n)) is).0

    module _ (lease retry too : ℕ) (first : IsLeast (λ n. asked w (TooLong lease retry) n ≡ true) too) where
      before : (n : ℕ) → is_outlasted w (plan lease retry n) ≡ true → n < too
      before n is = by_size (cases_lt n too)
        where
          by_size : (n < too) ⊎ (too ≤ n) → n < too
          by_size (inl less) = less
          by_size (inr more) = absurd (both_ways (is_outlasted w (plan lease retry n)) (not-true (is_outlasted w (plan lease retry n)) (asked-more w range (TooLong lease retry) too n more first.holds)) is)

      last : (renew : ℕ) → renew + 1 ≡ too → is_outlasted w (plan lease retry renew) ≡ true
      last renew one = by_test (cases_Bool (is_outlasted w (plan lease retry renew)))
        where
          by_test : (is_outlasted w (plan lease retry renew) ≡ true) ⊎ (is_outlasted w (plan lease retry renew) ≡ false) → is_outlasted w (plan lease retry renew) ≡ true
          by_test (inl is) = is
          by_test (inr isnt) = let never = first.least renew (not_from_false (is_outlasted w (plan lease retry renew)) isnt) in absurd (omega (arith, never, one))

      outlasted-of : (n : ℕ) → fits w (plan lease retry n) ≡ true → (is_enough w (plan lease retry n) ≡ true) × (n < too)
      outlasted-of n is =
          let parts = holds-parts w (plan lease retry n) (fits-parts (plan lease retry n) is).1 in
          (parts.0, before n parts.1)

      pub no-longest : too ≡ 0 → IsGreatestWith w lease retry None
      no-longest none n is = let less = (outlasted-of n is).1 in omega (arith, less, none)

      pub longest : (renew : ℕ) → renew + 1 ≡ too → soon w (plan lease retry 0) ≡ true → is_enough w (plan lease retry renew) ≡ true → IsGreatestWith w lease retry (Some (plan lease retry renew))
      longest renew one in-time enough = (
        refl,
        refl,
        and_from (soon w (plan lease retry renew)) (holds w (plan lease retry renew)) in-time (holds-from w (plan lease retry renew) enough (last renew one)),
        λ n is. let less = (outlasted-of n is).1 in omega (arith, less, one),
      )

      pub not-enough : (renew : ℕ) → renew + 1 ≡ too → is_enough w (plan lease retry renew) ≡ false → IsGreatestWith w lease retry None
      not-enough renew one isnt n is =
          let found = outlasted-of n is in
          both_ways _ isnt (enough-more w (plan lease retry n) (plan lease retry renew) (omega arith) (omega (arith, found.1, one)) found.0)

    -- ---- the greatest retry period

    pub retries-first : (lease most : ℕ) → most ≡ longest_retry w w.failover_millis lease + 1 → AreBelow lease most
    retries-first lease most is = record {
      retries = λ q same in-steps fitting.
          let parts = fits-parts q fitting in
          let found = retry-within w.failover_millis lease q (omega (arith, same)) in-steps.lease parts.1 parts.0 in
          omega (arith, found, is);
    }

    -- a plan by its parts
    of-parts : (q : Plan) (lease retry : ℕ) → q.lease_seconds ≡ lease → q.retry_tenths ≡ retry → fits w q ≡ true → fits w (plan lease retry q.renew_tenths) ≡ true
    of-parts q lease retry one two is = subst (λ l. fits w (plan l retry q.renew_tenths) ≡ true) one (subst (λ r. fits w (plan q.lease_seconds r q.renew_tenths) ≡ true) two is)

    pub retries-less : (lease most next : ℕ) → most + 1 ≡ next → IsGreatestWith w lease most None → AreBelow lease next → AreBelow lease most
    retries-less lease most next one none below = record {
      retries = λ q same in-steps fitting. by_less q same fitting (below.retries q same in-steps fitting) (cases_lt q.retry_tenths most);
    }
      where
        by_less : (q : Plan) → q.lease_seconds ≡ lease → fits w q ≡ true → q.retry_tenths < next → (q.retry_tenths < most) ⊎ (most ≤ q.retry_tenths) → q.retry_tenths < most
        by_less q same fitting short (inl less) = less
        by_less q same fitting short (inr more) = absurd (none q.renew_tenths (of-parts q lease most same (omega (arith, one, short, more)) fitting))

    pub greatest-of : (lease retry next : ℕ) (p : Plan) → retry + 1 ≡ next → lease ≤ 86400 → w.retry_tenths ≤ retry → AreBelow lease next → IsGreatestWith w lease retry (Some p) → IsGreatestOf w lease (Some p)
    greatest-of lease retry next p step short enough below found = (
      found.0,
      record { lease = omega (arith, found.0, short); retry = omega (arith, found.1, enough) },
      found.2,
      λ q same in-steps fitting.
          let less = below.retries q same in-steps fitting in (
            omega (arith, same, found.0),
            λ one. omega (arith, step, less, found.1),
            λ one two. found.3 q.renew_tenths (of-parts q lease retry same (two ∙ found.1) fitting),
          ),
    )

    pub none-of : (lease most : ℕ) → most ≤ w.retry_tenths → AreBelow lease most → IsGreatestOf w lease None
    none-of lease most few below q same in-steps fitting = let less = below.retries q same in-steps fitting in omega (arith, less, few, in-steps.retry)

    -- ---- the greatest lease

    pub leases-first : (most : ℕ) → most ≡ min (room w w.failover_millis / 1000) 86400 + 1 → AreShorter most
    leases-first most is = record {
      leases = λ q in-steps fitting. let found = lease-within q (fits-parts q fitting).0 in omega (arith, found, in-steps.lease, is);
    }

    pub leases-less : (most next : ℕ) → most + 1 ≡ next → IsGreatestOf w most None → AreShorter next → AreShorter most
    leases-less most next one none shorter = record {
      leases = λ q in-steps fitting. by_less q in-steps fitting (shorter.leases q in-steps fitting) (cases_lt q.lease_seconds most);
    }
      where
        by_less : (q : Plan) → IsPlan w q → fits w q ≡ true → q.lease_seconds < next → (q.lease_seconds < most) ⊎ (most ≤ q.lease_seconds) → q.lease_seconds < most
        by_less q in-steps fitting short (inl less) = less
        by_less q in-steps fitting short (inr more) = absurd (none q (omega (arith, one, short, more)) in-steps fitting)

    pub greatest : (lease next : ℕ) (p : Plan) → lease + 1 ≡ next → AreShorter next → IsGreatestOf w lease (Some p) → IsGreatestPlan w (Some p)
    greatest lease next p step shorter found = record {
      plan = found.1;
      holds = found.2;
      greatest = λ q in-steps fitting. by_less q in-steps fitting (shorter.leases q in-steps fitting) (cases_lt q.lease_seconds lease);
    }
      where
        by_less : (q : Plan) → IsPlan w q → fits w q ≡ true → q.lease_seconds < next → (q.lease_seconds < lease) ⊎ (lease ≤ q.lease_seconds) → IsGreater p q
        by_less q in-steps fitting short (inl less) = (
          omega (arith, less, found.0),
          λ one. absurd (omega (arith, one, less, found.0)),
          λ one two. absurd (omega (arith, one, less, found.0)),
        )
        by_less q in-steps fitting short (inr more) = found.3 q (omega (arith, step, short, more)) in-steps fitting

    pub none-at-all : AreShorter 0 → IsGreatestPlan w None
    none-at-all shorter q in-steps fitting = let less = shorter.leases q in-steps fitting in omega (arith, less)

    pub none-ever : IsLeastFailover w None → IsGreatestPlan w None
    none-ever none q in-steps fitting = none w.failover_millis (q, in-steps, fitting)

    pub none-in-time : (least : ℕ) → IsLeastFailover w (Some least) → w.failover_millis < least → IsGreatestPlan w None
    none-in-time least found less q in-steps fitting = let never = found.least w.failover_millis (q, in-steps, fitting) in omega (arith, never, less)
