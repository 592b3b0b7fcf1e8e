-- The numbers of settings are those of the lease premise of the document that they describe.
use Rattle.std.proofs.Common.{◌≡◌, ◌⊎◌, ℕ, zero, suc, ◌+◌, ◌-◌, ◌*◌, ◌<◌, ◌≤◌, ◌&&◌, nat_lt, Bool, true, false, cond, Option, Some, None, refl, sym, ap, ap₂, ◌∙◌, subst, not, inl, inr, arith}
use Rattle.std.proofs.Math.Nat.{mul-le-mul_right}
use Rattle.std.proofs.lemmas.Bool.{and_parts, cases_lt, lt-ltb, le-ltb, ltb-true}
use Rattle.std.proofs.lemmas.Bool.Decides.{nat_tests}
use Rattle.kube_objects.specs.Document.{Doc, of_seconds, of_millis}
use Rattle.kube_objects.specs.declared.rules.ReleaseActing.{ReleaseActing}
use Rattle.kube_objects.specs.declared.rules.ReleaseActing.TheVariants.{Still, Acts}
use Rattle.history.specs.Premise.{more, is_long, late_calls, stall_by, span_by, answers_come, lease_part}
use Rattle.script_reader.specs.Leases.{beside_by}
use Rattle.script_reader.proofs.LeaseLemmas.{span-is}
use Rattle.lens_margin.specs.Laws.{IsGreatest, is_enough_with}
use Rattle.lens_margin.specs.Laws as margin
use Rattle.lens_margin.specs.Margins.{fastest, numbers}
use Rattle.lens_margin.proofs.Leased.{leased-is}
use Rattle.lens_margin.proofs.Numbers.{margin-law-of}
use Rattle.lens_room.specs.declared.by_flags.flags.Flags.{Flags}
use Rattle.lens_room.specs.Described.{slow, fast, controller, described, answered}
use Rattle.lens_room.specs.FlagLaws.{holds, with_lease, with_skew, flags_margin, acting, are_still, skew_within, greatest_skew, IsLeastLease, IsGreatestSkew, IsEnoughAnswered, AreNumbers}
use Rattle.lens_room.specs.Ranges.{AreInRange}
use Rattle.lens_room.proofs.Skews.{Bears, room, room-bears, room-most, bears-none}

-- ---- tests

-- both sides in a finer unit
scaled : (a b x y : ℕ) → x ≡ a * 1000000000 → y ≡ b * 1000000000 → nat_lt x y ≡ nat_lt a b
scaled a b x y left right = by_less (cases_lt a b)
  where
    by_less : (a < b) ⊎ (b ≤ a) → nat_lt x y ≡ nat_lt a b
    by_less (inl less) = lt-ltb x y (omega (arith, left, right, less)) ∙ sym (lt-ltb a b less)
    by_less (inr more) = le-ltb x y (omega (arith, left, right, more)) ∙ sym (le-ltb a b more)

-- a test that another one implies
implied : (a b : Bool) → (a ≡ true → b ≡ true) → (true && a) && b ≡ a
implied true b then = then refl
implied false b then = refl

greatest-of : (skew : ℕ) → more (more 0 (1000000 - skew)) (1000000 + skew) ≡ 1000000 + skew
greatest-of skew = grind (arith, nat_tests)

-- ---- the premise of settings

module _ (flags : Flags) where
  abbrev doc : Doc
  doc = described flags

  abbrev calls : ℕ
  calls = late_calls flags.release flags.in_release

  fastest-is : fastest doc ≡ fast flags
  fastest-is = greatest-of flags.skew_ppm

  -- a reply may be lost, so nobody may act until it comes
  come-is : (acting : ReleaseActing) → answers_come acting doc ≡ are_still acting
  come-is Still = refl
  come-is Acts = refl

  -- nobody stands still
  slow-stall : (n : ℕ) → stall_by n doc 0 ≡ 0
  slow-stall zero = refl
  slow-stall (suc n) = refl

  fast-stall : (n : ℕ) → stall_by n doc 1 ≡ 0
  fast-stall zero = refl
  fast-stall (suc n) = refl

  slow-beside : (n : ℕ) → beside_by n doc 0 ≡ 0
  slow-beside zero = refl
  slow-beside (suc n) = refl

  -- both act for as long
  slow-span : span_by calls doc 0 ≡ of_millis (acting flags)
  slow-span = sym (span-is calls (controller flags 0 (slow flags)) doc 0 (record { timeout = refl; retry = refl; renew = refl }))

  fast-span : span_by calls doc 1 ≡ of_millis (acting flags)
  fast-span = sym (span-is calls (controller flags 1 (fast flags)) doc 1 (record { timeout = refl; retry = refl; renew = refl }))

  -- the left side of the premise's test, in which no pause stands
  abbrev outlasted : ℕ → ℕ → ℕ
  outlasted high low = 0 * (flags.beat_millis * 1000 * high) * low + of_millis (acting flags) * high

  acts-finer : (acts high low : ℕ) → 0 * (flags.beat_millis * 1000 * high) * low + of_millis acts * high ≡ (acts * high) * 1000000000
  unfolding of_millis
  acts-finer acts high low = omega arith

  lease-finer : (seconds low : ℕ) → of_seconds seconds * low ≡ (seconds * 1000 * low) * 1000000000
  unfolding of_seconds
  lease-finer seconds low = omega arith

  -- the test of the controller with the slow clock, and of the one with the fast clock
  slow-is : is_long doc (fast flags) 0 ≡ nat_lt (acting flags * fast flags) (flags.lease_seconds * 1000 * slow flags)
  slow-is =
      (λ i.
      nat_lt
      (slow-stall calls i * (flags.beat_millis * 1000 * fast flags) * slow flags + slow-span i * fast flags)
      (of_seconds flags.lease_seconds * slow flags))
      ∙ scaled _ _ _ _ (acts-finer (acting flags) (fast flags) (slow flags)) (lease-finer flags.lease_seconds (slow flags))

  fast-is : is_long doc (fast flags) 1 ≡ nat_lt (acting flags * fast flags) (flags.lease_seconds * 1000 * fast flags)
  fast-is =
      (λ i.
      nat_lt
      (fast-stall calls i * (flags.beat_millis * 1000 * fast flags) * fast flags + fast-span i * fast flags)
      (of_seconds flags.lease_seconds * fast flags))
      ∙ scaled _ _ _ _ (acts-finer (acting flags) (fast flags) (fast flags)) (lease-finer flags.lease_seconds (fast flags))

  fast-follows : is_long doc (fast flags) 0 ≡ true → is_long doc (fast flags) 1 ≡ true
  fast-follows long =
      let less : acting flags * fast flags < flags.lease_seconds * 1000 * slow flags = ltb-true _ _ (sym slow-is ∙ long) in
      let more : slow flags * (flags.lease_seconds * 1000) ≤ fast flags * (flags.lease_seconds * 1000) = mul-le-mul_right (flags.lease_seconds * 1000) (omega arith) in
      fast-is ∙ lt-ltb _ _ (omega (arith, less, more))

  pub long-is : lease_part doc ≡ nat_lt (acting flags * fast flags) (flags.lease_seconds * 1000 * slow flags)
  long-is =
      ap (λ high. (true && is_long doc high 0) && is_long doc high 1) fastest-is
      ∙ implied (is_long doc (fast flags) 0) (is_long doc (fast flags) 1) fast-follows
      ∙ slow-is

  -- the premise holds exactly where nobody acts in a release and the lease on the slow clock outlasts the acting on the fast one
  pub premise-is : holds flags ≡ (are_still flags.in_release && nat_lt (acting flags * fast flags) (flags.lease_seconds * 1000 * slow flags))
  premise-is = ap₂ (λ a b. a && b) (come-is flags.in_release) long-is

  millis-are : (acts : ℕ) → acts * 1000000000 ≡ of_millis acts
  unfolding of_millis
  millis-are acts = refl

  pub numbers-are : (still : Bool) (acts : ℕ) → still ≡ are_still flags.in_release → acts ≡ acting flags
      → numbers still flags.lease_seconds (acts * 1000000000 * fast flags) 0 0 flags.beat_millis (slow flags) (fast flags) ≡ flags_margin flags
  numbers-are still acts stills acting =
      λ i.
      numbers ((stills ∙ sym (come-is flags.in_release)) i) flags.lease_seconds
      ((ap (λ n. n * fast flags) (millis-are acts ∙ ap of_millis acting ∙ sym slow-span) ∙ ap (λ high. span_by calls doc 0 * high) (sym fastest-is)) i)
      (sym (slow-stall calls) i) (sym (slow-beside calls) i) flags.beat_millis (slow flags) (sym fastest-is i)

-- ---- the least lease

module _ (flags : Flags) where
  lease-test : (s : ℕ) → is_enough_with (described flags) 0 s ≡ holds (with_lease flags s)
  lease-test s =
      let long : nat_lt
      (stall_by (calls flags) (described flags) 0 * (flags.beat_millis * 1000 * fastest (described flags)) * slow flags + span_by (calls flags) (described flags) 0 * fastest (described flags))
      (of_seconds s * slow flags)
      ≡ nat_lt (acting flags * fast flags) (s * 1000 * slow flags)
      = (λ i.
      nat_lt
      (slow-stall flags (calls flags) i * (flags.beat_millis * 1000 * fastest-is flags i) * slow flags + slow-span flags i * fastest-is flags i)
      (of_seconds s * slow flags))
      ∙ scaled _ _ _ _ (acts-finer flags (acting flags) (fast flags) (slow flags)) (lease-finer flags s (slow flags)) in
      leased-is (described flags) 0 s (omega arith)
      ∙ ap₂ (λ a b. a && b) (come-is flags flags.in_release) long
      ∙ sym (premise-is (with_lease flags s))

  least-from : (o : Option ℕ) → margin.IsLeastLease (described flags) 0 o → IsLeastLease flags o
  least-from (Some seconds) (most, least) = (
    most,
    record {
      holds = sym (lease-test seconds) ∙ least.holds;
      least = λ s long. least.least s (lease-test s ∙ long);
    },
  )
  least-from None none = λ s long. none s (lease-test s ∙ long)

-- ---- the greatest skew

module _ (flags : Flags) where
  abbrev lease : ℕ
  lease = flags.lease_seconds * 1000

  parts-of : (s : ℕ) → holds (with_skew flags s) ≡ true → (are_still flags.in_release ≡ true) × Bears lease (acting flags) s
  parts-of s long =
      let parts = and_parts (are_still flags.in_release) _ (sym (premise-is (with_skew flags s)) ∙ long) in
      (parts.0, ltb-true _ _ parts.1)

  bears-to : are_still flags.in_release ≡ true → (s : ℕ) → Bears lease (acting flags) s → holds (with_skew flags s) ≡ true
  bears-to still s bears = premise-is (with_skew flags s) ∙ ap₂ (λ a b. a && b) still (lt-ltb _ _ bears)

  skew-greatest : are_still flags.in_release ≡ true → acting flags < lease → IsGreatest (λ s. holds (with_skew flags s) ≡ true) (room lease (acting flags))
  skew-greatest still some = record {
    holds = bears-to still (room lease (acting flags)) (room-bears lease (acting flags) some);
    greatest = λ s long. room-most lease (acting flags) some s (parts-of s long).1;
  }

  skew-by : are_still flags.in_release ≡ true → (b : Bool) → nat_lt (acting flags) lease ≡ b → IsGreatestSkew flags (cond b (Some (room lease (acting flags))) None)
  skew-by still true is = skew-greatest still (ltb-true (acting flags) lease is)
  skew-by still false is = λ s long. bears-none lease (acting flags) (let none : nat_lt (acting flags) lease ≡ false = is in grind (arith, nat_tests)) s (parts-of s long).1

  skew-where : (b : Bool) → are_still flags.in_release ≡ b → IsGreatestSkew flags (cond b (skew_within lease (acting flags)) None)
  skew-where true still = skew-by still _ refl
  skew-where false acts = λ s long. let still = (parts-of s long).0 in let never : false ≡ true = sym acts ∙ still in cc

  pub skew-law : IsGreatestSkew flags (greatest_skew flags)
  skew-law = skew-where _ refl

-- ---- where replies come in time

module _ (flags : Flags) (beats : ℕ) where
  comes : (acting : ReleaseActing) → beats ≤ 3 → answers_come acting (answered flags beats) ≡ true
  comes Still soon = refl
  comes Acts soon = ap (λ late. not (true && late) && (not (true && late) && true)) (le-ltb 3 beats soon)

  same-stall : (n : ℕ) → (stall_by n (answered flags beats) 0 ≡ stall_by n (described flags) 0) × (stall_by n (answered flags beats) 1 ≡ stall_by n (described flags) 1)
  same-stall zero = (refl, refl)
  same-stall (suc n) = (refl, refl)

  same-span : (n : ℕ) → (span_by n (answered flags beats) 0 ≡ span_by n (described flags) 0) × (span_by n (answered flags beats) 1 ≡ span_by n (described flags) 1)
  same-span zero = (refl, refl)
  same-span (suc n) = (refl, refl)

  long-at : (n high low lease : ℕ) → {stall other_stall span other_span : ℕ} → stall ≡ other_stall → span ≡ other_span
      → nat_lt (stall * (flags.beat_millis * 1000 * high) * low + span * high) lease ≡ nat_lt (other_stall * (flags.beat_millis * 1000 * high) * low + other_span * high) lease
  long-at n high low lease stalls spans = ap₂ (λ a b. nat_lt (a * (flags.beat_millis * 1000 * high) * low + b * high) lease) stalls spans

  same-part : lease_part (answered flags beats) ≡ lease_part (described flags)
  same-part =
      let high = fastest (described flags) in
      let n = calls flags in
      ap₂ (λ a b. (true && a) && b)
      (long-at n high (slow flags) (of_seconds flags.lease_seconds * slow flags) (same-stall n).0 (same-span n).0)
      (long-at n high (fast flags) (of_seconds flags.lease_seconds * fast flags) (same-stall n).1 (same-span n).1)

module _ (flags : Flags) (ranges : AreInRange flags) where
  finer : (acts must seconds low : ℕ) → (acts * 1000000000) ≤ must * 1000000000 * low → must < seconds * 1000 → 0 < low → acts < seconds * 1000 * low
  finer acts must seconds low most more some =
      let over : (must + 1) * low ≤ seconds * 1000 * low = mul-le-mul_right low (omega (arith, more)) in
      omega (arith, most, over, some)

  outlasted-is : (n : ℕ) → n ≡ calls flags → margin.outlasted (described flags) 0 (stall_by n (described flags) 0) ≡ (acting flags * fast flags) * 1000000000
  outlasted-is n same =
      (λ i.
      slow-stall flags n i * (flags.beat_millis * 1000 * fastest-is flags i) * slow flags + slow-span flags i * fastest-is flags i)
      ∙ acts-finer flags (acting flags) (fast flags) (slow flags)

  pub answered-law : (must : ℕ) → margin.outlasted (described flags) 0 (stall_by (calls flags) (described flags) 0) ≤ of_millis must * slow flags → IsEnoughAnswered flags must
  unfolding of_millis
  answered-law must most s beats more soon =
      let longer : acting flags * fast flags < s * 1000 * slow flags
      = finer (acting flags * fast flags) must s (slow flags) (subst (λ n. n ≤ must * 1000000000 * slow flags) (outlasted-is (calls flags) refl) most) more (let skew = ranges.skew in omega (arith, skew)) in
      ap₂ (λ a b. a && b) (comes (with_lease flags s) beats flags.in_release soon)
      (same-part (with_lease flags s) beats ∙ long-is (with_lease flags s) ∙ lt-ltb _ _ longer)

-- ---- all

pub numbers-law : (flags : Flags) → AreInRange flags → AreNumbers flags
numbers-law flags ranges =
    let law = margin-law-of (described flags) 0 (omega arith) (omega (arith, ranges.skew)) (let is = fastest-is flags in omega (arith, is)) (omega (arith, ranges.beat_least)) in
    record {
      margin = law;
      least_lease = least-from flags _ law.least_seconds;
      greatest_skew = skew-law flags;
      answered = answered-law flags ranges _ law.must_exceed.holds;
    }
