-- The lease premise of the stalled controllers as one test of numbers.
use Rattle.std.proofs.Common.{◌≡◌, ◌⊎◌, ℕ, zero, suc, ◌+◌, ◌-◌, ◌*◌, ◌<◌, ◌≤◌, ◌&&◌, nat_lt, Bool, true, false, cond, refl, sym, ap, ap₂, ◌∙◌, inl, inr, arith}
use Rattle.std.proofs.Math.Nat.{mul-le-mul_right, mul-le-mul_left}
use Rattle.std.proofs.lemmas.Bool.{cases_lt, lt-ltb, ltb-true}
use Rattle.std.proofs.lemmas.Bool.Decides.{nat_tests}
use Rattle.kube_objects.specs.declared.rules.ReleaseActing.TheVariants.{Still}
use Rattle.kube_objects.specs.declared.rules.ReleaseRule.TheVariants.{Stop}
use Rattle.kube_objects.specs.Document.{Doc, of_seconds, of_millis}
use Rattle.history.specs.Premise.{more, longest, is_long, greatest_below, lease_premise}
use Rattle.lens_margin.specs.Laws.{paused}
use Rattle.lens_margin.proofs.Paused.{counts}
use Rattle.lens_room.specs.declared.by_flags.flags.Flags.{Flags}
use Rattle.lens_room.specs.Described.{slow, fast, described}
use Rattle.lens_room.specs.Flags.{timeout_of}
use Rattle.lens_tune.specs.declared.plan.Plan.{Plan}
use Rattle.lens_tune.specs.declared.wish.Wish.{Wish}
use Rattle.lens_tune.specs.Plans.{safe}
use Rattle.lens_tune.specs.Searches.{pauses}
use Rattle.lens_tune.specs.Wishes as wish
use Rattle.lens_tune.specs.Wishes.{stall_beats}

-- a test that another one implies
implied : (a b : Bool) → (a ≡ true → b ≡ true) → (true && a) && b ≡ a
implied true b then = then refl
implied false b then = refl

greatest-of : (skew : ℕ) → more (more 0 (1000000 - skew)) (1000000 + skew) ≡ 1000000 + skew
greatest-of skew = grind (arith, nat_tests)

-- what holds on a slow clock holds on a faster one
faster : (still acts lease slow fast : ℕ) → slow ≤ fast → still * slow + acts < lease * slow → still * fast + acts < lease * fast
faster still acts lease slow fast more less = by_size (cases_lt still lease)
  where
    by_rest : (rest : ℕ) → lease ≡ still + rest → still * fast + acts < lease * fast
    by_rest rest whole =
        let on_slow : lease * slow ≡ (still + rest) * slow = ap (λ l. l * slow) whole in
        let on_fast : lease * fast ≡ (still + rest) * fast = ap (λ l. l * fast) whole in
        let longer : rest * slow ≤ rest * fast = mul-le-mul_left rest more in
        omega (arith, on_slow, on_fast, longer, less)

    by_size : (still < lease) ⊎ (lease ≤ still) → still * fast + acts < lease * fast
    by_size (inl short) = by_rest (lease - still) (omega arith)
    by_size (inr long) = let never : lease * slow ≤ still * slow = mul-le-mul_right slow long in absurd (omega (arith, never, less))

module _ (given : Flags) where
  -- leaders give up their Leases at stops alone
  abbrev flags : Flags
  flags = record given { release = Stop; in_release = Still }

  abbrev doc : ℕ → Doc
  doc n = paused (paused (described flags) 0 n) 1 n

  abbrev acts : ℕ
  acts = of_millis (timeout_of flags) + of_millis flags.retry_millis + of_millis flags.renew_millis

  -- the test of a clock of this rate
  abbrev test : ℕ → ℕ → Bool
  test n rate = nat_lt (counts n * (flags.beat_millis * 1000 * fast flags) * rate + acts * fast flags) (of_seconds flags.lease_seconds * rate)

  fastest-is : (n : ℕ) → greatest_below (doc n) 2 ≡ fast flags
  fastest-is zero = greatest-of flags.skew_ppm
  fastest-is (suc n) = greatest-of flags.skew_ppm

  first-longest : (n : ℕ) → longest (doc n) 0 ≡ counts n
  first-longest zero = refl
  first-longest (suc n) = all n
    where
      all : (n : ℕ) → more (more 0 (suc n + 1)) 0 ≡ suc n + 1
      all n = grind (arith, nat_tests)

  second-longest : (n : ℕ) → longest (doc n) 1 ≡ counts n
  second-longest zero = refl
  second-longest (suc n) = all n
    where
      all : (n : ℕ) → more (more 0 0) (suc n + 1) ≡ suc n + 1
      all n = grind (arith, nat_tests)

  slow-is : (n : ℕ) → is_long (doc n) (fast flags) 0 ≡ test n (slow flags)
  slow-is zero = refl
  slow-is (suc n) = ap (λ l. nat_lt (l * (flags.beat_millis * 1000 * fast flags) * slow flags + acts * fast flags) (of_seconds flags.lease_seconds * slow flags)) (first-longest (suc n))

  fast-is : (n : ℕ) → is_long (doc n) (fast flags) 1 ≡ test n (fast flags)
  fast-is zero = refl
  fast-is (suc n) = ap (λ l. nat_lt (l * (flags.beat_millis * 1000 * fast flags) * fast flags + acts * fast flags) (of_seconds flags.lease_seconds * fast flags)) (second-longest (suc n))

  fast-follows : (n : ℕ) → is_long (doc n) (fast flags) 0 ≡ true → is_long (doc n) (fast flags) 1 ≡ true
  fast-follows n long =
      fast-is n
      ∙ lt-ltb _ _ (faster (counts n * (flags.beat_millis * 1000 * fast flags)) (acts * fast flags) (of_seconds flags.lease_seconds) (slow flags) (fast flags) (omega arith) (ltb-true _ _ (sym (slow-is n) ∙ long)))

  pub premise-is : (n : ℕ) → lease_premise (doc n) ≡ test n (slow flags)
  premise-is zero =
      ap (λ high. (true && is_long (doc 0) high 0) && is_long (doc 0) high 1) (fastest-is 0)
      ∙ implied (is_long (doc 0) (fast flags) 0) (is_long (doc 0) (fast flags) 1) (fast-follows 0)
      ∙ slow-is 0
  premise-is (suc n) =
      ap (λ high. (true && is_long (doc (suc n)) high 0) && is_long (doc (suc n)) high 1) (fastest-is (suc n))
      ∙ implied (is_long (doc (suc n)) (fast flags) 0) (is_long (doc (suc n)) (fast flags) 1) (fast-follows (suc n))
      ∙ slow-is (suc n)

counts-are : (n : ℕ) → counts n ≡ cond (nat_lt 0 n) (n + 1) 0
counts-are zero = refl
counts-are (suc n) = more-than n
  where
    more-than : (n : ℕ) → suc n + 1 ≡ cond (nat_lt 0 (suc n)) (suc n + 1) 0
    more-than n = grind (arith, nat_tests)

module _ (w : Wish) (p : Plan) where
  -- what the lease has to outlast, and the lease
  abbrev pub outlasted : ℕ
  outlasted =
      pauses w * (w.beat_millis * 1000 * (1000000 + w.skew_ppm)) * (1000000 - w.skew_ppm)
      + (wish.timeout_of w p + p.retry_tenths * 100 + p.renew_tenths * 100) * 1000000000 * (1000000 + w.skew_ppm)

  abbrev pub lease : ℕ
  lease = p.lease_seconds * 1000000000000 * (1000000 - w.skew_ppm)

  acts-are : (still timeout retry renew fast : ℕ) → still + (of_millis timeout + of_millis retry + of_millis renew) * fast ≡ still + (timeout + retry + renew) * 1000000000 * fast
  unfolding of_millis
  acts-are still timeout retry renew fast = omega arith

  lease-is : (seconds slow : ℕ) → of_seconds seconds * slow ≡ seconds * 1000000000000 * slow
  unfolding of_seconds
  lease-is seconds slow = omega arith

  pub safe-is : safe w p ≡ nat_lt outlasted lease
  safe-is =
      premise-is (wish.flags_of w p) (stall_beats w)
      ∙ ap₂ nat_lt
      (acts-are _ (wish.timeout_of w p) (p.retry_tenths * 100) (p.renew_tenths * 100) (1000000 + w.skew_ppm)
      ∙ ap (λ n. n * (w.beat_millis * 1000 * (1000000 + w.skew_ppm)) * (1000000 - w.skew_ppm) + (wish.timeout_of w p + p.retry_tenths * 100 + p.renew_tenths * 100) * 1000000000 * (1000000 + w.skew_ppm)) (counts-are (stall_beats w)))
      (lease-is p.lease_seconds (1000000 - w.skew_ppm))
