-- The numbers of a margin are the least and the greatest that the lease premise's tests allow.
use Rattle.std.proofs.Common.{◌≡◌, ◌⊎◌, ℕ, zero, suc, ◌+◌, ◌-◌, ◌*◌, ◌/◌, ◌<◌, ◌≤◌, ◌&&◌, nat_lt, Bool, true, false, cond, length, Some, None, is_some, refl, sym, ap, ap₂, ◌∙◌, subst, inl, inr, arith}
use Rattle.std.specs.Int.{div_ceil}
use Rattle.std.proofs.Math.Nat.{mul-le-mul_right}
use Rattle.std.proofs.lemmas.Bool.{and_parts, cases_lt, lt-ltb, ltb-true}
use Rattle.std.proofs.lemmas.Bool.Decides.{nat_tests}
use Rattle.std.proofs.lemmas.Grind.{div_ceil_times}
use Rattle.std.proofs.lemmas.Nat.{div-add-mod', mod_below, le-div}
use Rattle.kube_objects.specs.Document.{Doc, of_seconds, of_millis}
use Rattle.history.specs.Premise.{more, waited_by, is_long, calls_late, stall_by, span_by, answers_come}
use Rattle.script_reader.specs.Lawful.{IsLawfulDoc}
use Rattle.script_reader.specs.Leases.{beside_by, waited_seconds}
use Rattle.script_reader.proofs.LeaseLemmas.{waited-is}
use Rattle.lens_margin.specs.Laws.{IsLeast, IsLeastLease, IsLongestStall, IsMargin, outlasted, is_enough_with, bears}
use Rattle.lens_margin.specs.Margins.{acting, fastest, slowest, least_within, numbers, margin_of}
use Rattle.lens_margin.proofs.Positive.{slowest-some, fastest-some}
use Rattle.lens_margin.proofs.Leased.{leased-is}
use Rattle.lens_margin.proofs.Paused.{counts, bears-is, rest_by, stall-parts}

-- ---- rounded up

pub rounded-least : (needed milli : ℕ) → 0 < milli → (n : ℕ) → needed ≤ n * milli → div_ceil needed milli ≤ n
rounded-least needed milli some n enough = by_less (div_ceil_times needed milli some) (cases_lt n (div_ceil needed milli))
  where
    by_less : (needed ≤ div_ceil needed milli * milli) × (div_ceil needed milli * milli < needed + milli) → (n < div_ceil needed milli) ⊎ (div_ceil needed milli ≤ n) → div_ceil needed milli ≤ n
    by_less times (inr within) = within
    by_less times (inl short) = let more : suc n * milli ≤ div_ceil needed milli * milli = mul-le-mul_right milli short in absurd (omega (arith, enough, times.1, more))

-- ---- the whole units in a number

module _ (needed unit : ℕ) (some : 0 < unit) where
  unit-below : needed / unit * unit ≤ needed
  unit-below = omega (arith, div-add-mod' needed unit)

  unit-above : needed < (needed / unit + 1) * unit
  unit-above = omega (arith, div-add-mod' needed unit, mod_below needed unit some)

  unit-least : (m : ℕ) → needed < m * unit → needed / unit + 1 ≤ m
  unit-least m above = by_less (cases_lt (needed / unit) m)
    where
      by_less : (needed / unit < m) ⊎ (m ≤ needed / unit) → needed / unit + 1 ≤ m
      by_less (inl before) = omega (arith, before)
      by_less (inr after) = let less : m * unit ≤ needed / unit * unit = mul-le-mul_right unit after in absurd (omega (arith, less, unit-below, above))

-- ---- the pauses that fit

-- a pause of so many beats and one more fits beside the acting
abbrev Fits : ℕ → ℕ → ℕ → ℕ → Type 0
Fits lease acts beat pauses = pauses * beat + acts < lease

module _ (lease acts beat pauses : ℕ) (some : 0 < beat) (now : Fits lease acts beat pauses) where
  abbrev room : ℕ
  room = (lease - acts - 1) / beat

  room-fits : Fits lease acts beat room
  room-fits = omega (arith, unit-below (lease - acts - 1) beat some, now)

  room-most : (n : ℕ) → Fits lease acts beat n → n ≤ room
  room-most n fits = le-div n (lease - acts - 1) beat some (omega (arith, fits))

  more-fits : (n : ℕ) → Fits lease acts beat n → Fits lease acts beat (more pauses n)
  more-fits n fits = by_test (nat_lt pauses n)
    where
      by_test : (b : Bool) → Fits lease acts beat (cond b n pauses)
      by_test true = fits
      by_test false = now

  -- a further pause of one beat less than there is room for
  stall-fits : (n : ℕ) → n ≡ room - 1 → Fits lease acts beat (more pauses (counts n))
  stall-fits zero is = more-fits 0 (omega (arith, now))
  stall-fits (suc n) is = more-fits (suc n + 1) (let same : suc n + 1 ≡ room = omega (arith, is) in subst (Fits lease acts beat) (sym same) room-fits)

  fits-less : (n m : ℕ) → n ≤ m → Fits lease acts beat m → Fits lease acts beat n
  fits-less n m less fits = let part : n * beat ≤ m * beat = mul-le-mul_right beat less in omega (arith, part, fits)

  stall-most : (n : ℕ) → Fits lease acts beat (more pauses (counts n)) → n ≤ room - 1
  stall-most zero fits = omega arith
  stall-most (suc n) fits =
      let above : suc n + 1 ≤ more pauses (suc n + 1) = grind (arith, nat_tests) in
      let most = room-most (suc n + 1) (fits-less (suc n + 1) (more pauses (suc n + 1)) above fits) in
      omega (arith, most)

-- ---- the numbers of a document's controller

-- the seconds that others wait
abbrev pub waited : Doc → ℕ → ℕ
waited doc p = waited_seconds doc.settings.rules.respect doc p

module _ (doc : Doc) (p : ℕ) where
  abbrev unit : ℕ
  unit = slowest doc p * 1000000000

  abbrev one : ℕ
  one = doc.settings.beat_millis * 1000 * fastest doc * slowest doc p

  abbrev stall : ℕ
  stall = stall_by (calls_late doc) doc p

  abbrev need : ℕ
  need = stall * one + acting doc p

  -- the beats that a further pause is added to, and those that it takes the place of
  abbrev beside : ℕ
  beside = beside_by (calls_late doc) doc p

  abbrev rest : ℕ
  rest = rest_by (calls_late doc) doc p

  abbrev beside_acts : ℕ
  beside_acts = beside * one + acting doc p

  abbrev lease : ℕ
  lease = waited doc p * 1000 * unit

  outlasted-is : (pauses : ℕ) → outlasted doc p pauses ≡ pauses * one + acting doc p
  outlasted-is pauses = omega arith

  lease-is : (seconds : ℕ) → of_seconds seconds * slowest doc p ≡ seconds * 1000 * unit
  unfolding of_seconds
  lease-is seconds = omega arith

  milli-is : (millis : ℕ) → of_millis millis * slowest doc p ≡ millis * unit
  unfolding of_millis
  milli-is millis = omega arith

  -- the test, with other units
  test-is : (pauses seconds : ℕ) → nat_lt (outlasted doc p pauses) (of_seconds seconds * slowest doc p) ≡ nat_lt (pauses * one + acting doc p) (seconds * 1000 * unit)
  test-is pauses seconds = ap₂ nat_lt (outlasted-is pauses) (lease-is seconds)

  passes : (pauses seconds : ℕ) → pauses * one + acting doc p < seconds * 1000 * unit → nat_lt (outlasted doc p pauses) (of_seconds seconds * slowest doc p) ≡ true
  passes pauses seconds less = test-is pauses seconds ∙ lt-ltb _ _ less

  passed : (pauses seconds : ℕ) → nat_lt (outlasted doc p pauses) (of_seconds seconds * slowest doc p) ≡ true → pauses * one + acting doc p < seconds * 1000 * unit
  passed pauses seconds is = ltb-true _ _ (sym (test-is pauses seconds) ∙ is)

  in-seconds : (left : ℕ) → nat_lt left (waited_by doc.settings.rules.respect doc p * slowest doc p) ≡ nat_lt left (of_seconds (waited doc p) * slowest doc p)
  in-seconds left = ap (λ w. nat_lt left (w * slowest doc p)) (waited-is doc.settings.rules.respect doc p)

  abbrev come : Bool
  come = answers_come doc.settings.rules.in_release doc

  to-fit : (n : ℕ) → (beside + n) * one + acting doc p < lease → Fits lease beside_acts one n
  to-fit n less = omega (arith, less)

  of-fit : (n : ℕ) → Fits lease beside_acts one n → (beside + n) * one + acting doc p < lease
  of-fit n fits = omega (arith, fits)

  module _ (inside : p < length doc.controllers) (slow : 0 < slowest doc p) where
    must-least : IsLeast (λ n. outlasted doc p stall ≤ of_millis n * slowest doc p) (div_ceil need unit)
    must-least = record {
      holds = omega (arith, outlasted-is stall, milli-is (div_ceil need unit), (div_ceil_times need unit (omega arith)).0);
      least = λ n enough. rounded-least need unit (omega arith) n (omega (arith, outlasted-is stall, milli-is n, enough));
    }

    abbrev second : ℕ
    second = unit * 1000

    enough-long : (s : ℕ) → is_enough_with doc p s ≡ true → (come ≡ true) × (nat_lt (outlasted doc p stall) (of_seconds s * slowest doc p) ≡ true)
    enough-long s enough = and_parts come _ (sym (leased-is doc p s inside) ∙ enough)

    seconds-least : come ≡ true → IsLeast (λ s. is_enough_with doc p s ≡ true) (need / second + 1)
    seconds-least comes = record {
      holds = leased-is doc p (need / second + 1) inside
          ∙ ap₂ (λ a b. a && b) comes (passes stall (need / second + 1) (omega (arith, unit-above need second (omega arith))));
      least = λ s enough. unit-least need second (omega arith) s (omega (arith, passed stall s (enough-long s enough).1));
    }

    least-by : come ≡ true → (b : Bool) → nat_lt (need / second) 86400 ≡ b → IsLeastLease doc p (cond b (Some (need / second + 1)) None)
    least-by comes true is = (omega (arith, ltb-true (need / second) 86400 is), seconds-least comes)
    least-by comes false is = λ s enough. let least = (seconds-least comes).least s enough in grind (arith, nat_tests)

    least-where : (b : Bool) → come ≡ b → IsLeastLease doc p (cond b (least_within need unit) None)
    least-where true comes = least-by comes _ refl
    least-where false late = λ s enough. let comes = (enough-long s enough).0 in absurd (let never : false ≡ true = sym late ∙ comes in cc)

    test-at : is_long doc (fastest doc) p ≡ nat_lt (outlasted doc p stall) (of_seconds (waited doc p) * slowest doc p)
    test-at = in-seconds (outlasted doc p stall)

    bears-at : (n : ℕ) → bears doc p n ≡ nat_lt (outlasted doc p (beside + more rest (counts n))) (of_seconds (waited doc p) * slowest doc p)
    bears-at n = bears-is doc p n ∙ in-seconds (outlasted doc p (beside + more rest (counts n)))

    module _ (some : 0 < one) where
      longest-by : (b : Bool) → nat_lt need lease ≡ b → IsLongestStall doc p (cond b (Some (((lease - beside_acts - 1) / one - 1) * doc.settings.beat_millis)) None)
      longest-by true is =
          let parts : stall * one ≡ (beside + rest) * one = ap (λ n. n * one) (stall-parts (calls_late doc) doc p) in
          let now : Fits lease beside_acts one rest = to-fit rest (omega (arith, parts, ltb-true need lease is)) in
          let beats : ℕ = (lease - beside_acts - 1) / one - 1 in (
            beats,
            refl,
            record {
              holds = bears-at beats ∙ passes (beside + more rest (counts beats)) (waited doc p) (of-fit (more rest (counts beats)) (stall-fits lease beside_acts one rest some now beats refl));
              greatest = λ n bears. stall-most lease beside_acts one rest some now n
                  (to-fit (more rest (counts n)) (passed (beside + more rest (counts n)) (waited doc p) (sym (bears-at n) ∙ bears)));
            },
          )
      longest-by false is = λ long. let never : false ≡ true = sym is ∙ sym (test-is stall (waited doc p)) ∙ sym test-at ∙ long in cc

product-some : (a b : ℕ) → 0 < a → 0 < b → 0 < a * b
product-some zero b one two = absurd (omega arith)
product-some (suc a) b one two = omega (arith, two)

pub margin-law-of : (doc : Doc) (p : ℕ) → p < length doc.controllers → 0 < slowest doc p → 0 < fastest doc → 0 < doc.settings.beat_millis → IsMargin doc p (margin_of doc p)
margin-law-of doc p inside slow fast beat =
    let some : 0 < one doc p = product-some (doc.settings.beat_millis * 1000 * fastest doc) (slowest doc p) (product-some (doc.settings.beat_millis * 1000) (fastest doc) (omega (arith, beat)) fast) slow in
    record {
      lease = refl;
      must_exceed = must-least doc p inside slow;
      least_seconds = least-where doc p inside slow _ refl;
      longest_stall = longest-by doc p inside slow some _ refl;
    }

pub margin-law : (doc : Doc) → IsLawfulDoc doc → (p : ℕ) → p < length doc.controllers → IsMargin doc p (margin_of doc p)
margin-law doc lawful p inside = margin-law-of doc p inside (slowest-some doc lawful p inside) (fastest-some doc lawful) (omega (arith, lawful.settings.beat_least))

some-when : (b : Bool) (n : ℕ) → is_some (cond b (Some n) None) ≡ b
some-when true n = refl
some-when false n = refl

-- where a stall is borne, if only of no beat, the lease is long enough
pub stall-tells : (doc : Doc) (p : ℕ) → is_some (margin_of doc p).longest_stall ≡ is_long doc (fastest doc) p
stall-tells doc p = some-when (nat_lt (need doc p) (lease doc p)) _ ∙ sym (test-is doc p (stall doc p) (waited doc p)) ∙ sym (in-seconds doc p (outlasted doc p (stall doc p)))

-- ---- what the code counts with

millis-are : (millis fast span : ℕ) → of_millis millis ≡ span → millis * 1000000000 * fast ≡ span * fast
unfolding of_millis
millis-are millis fast span is = ap (λ n. n * fast) is

pub numbers-are : (doc : Doc) (p : ℕ) (hears : Bool) (awaited acts stands further slow fast : ℕ) → hears ≡ answers_come doc.settings.rules.in_release doc → awaited ≡ waited doc p
    → of_millis acts ≡ span_by (calls_late doc) doc p → stands ≡ stall_by (calls_late doc) doc p → further ≡ beside_by (calls_late doc) doc p
    → slow ≡ slowest doc p → fast ≡ fastest doc
    → numbers hears awaited (acts * 1000000000 * fast) stands further doc.settings.beat_millis slow fast ≡ margin_of doc p
numbers-are doc p hears awaited acts stands further slow fast comes leased acting pauses besides low high =
    λ i.
    numbers (comes i) (leased i) ((millis-are acts fast _ acting ∙ ap (λ f. span_by (calls_late doc) doc p * f) high) i) (pauses i) (besides i)
    doc.settings.beat_millis (low i) (high i)
