-- Amounts that are written are read as their sum.
use Rattle.std.proofs.Common.{◌≡◌, ℕ, ◌+◌, ◌-◌, ◌*◌, ◌/◌, ◌%◌, ◌<◌, ◌≤◌, ◌&&◌, nat_le, true, cond, List, [], ◌∷◌, ◌++◌, decimal, Some, None, refl, ap, ◌∙◌, arith, append_assoc}
use Rattle.std.specs.Char.{is_ascii_digit}
use Rattle.std.proofs.lemmas.Bool.{le-leb}
use Rattle.std.proofs.lemmas.Bool.Decides.{nat_tests}
use Rattle.std.proofs.lemmas.Fmt.{decimal_by_steps}
use Rattle.lens_room.specs.declared.by_flags.duration.Reading.{Reading}
use Rattle.lens_room.specs.declared.by_flags.duration.Stage.TheVariants.{Whole, Digits, Minutes}
use Rattle.lens_room.specs.Amounts.{Measure, hours, minutes, seconds, millis, text_of, millis_of, written, total_of}
use Rattle.lens_room.specs.Durations.{up_to_a_day, with_amount, behind, in_digits, with_digit, with_first_digit, step, total, read_from, duration}

digit_in : (d : ℕ) → d < 10 → is_ascii_digit (48 + d) ≡ true
digit_in d small = ap (λ b. b && nat_le (48 + d) 57) (le-leb 48 (48 + d) (omega arith)) ∙ le-leb (48 + d) 57 (omega arith)

day-in : (n : ℕ) → n ≤ 86400000 → up_to_a_day n ≡ Some n
day-in n most = ap (λ b. cond b (Some n) None) (le-leb n 86400000 most)

-- one more digit
next-digit : (sum number d n : ℕ) → d < 10 → d + number * 10 ≡ n → n ≤ 86400000 → with_digit sum number (48 + d) ≡ Some (record { millis = sum; number = n; stage = Digits })
next-digit sum number d n small is most =
    let back : (48 + d - 48) + number * 10 ≡ n = omega (arith, is) in
    ap (λ b. cond b (in_digits sum (up_to_a_day ((48 + d - 48) + number * 10))) None) (digit_in d small)
    ∙ ap (λ k. in_digits sum (up_to_a_day k)) back
    ∙ ap (in_digits sum) (day-in n most)

digit-step : (sum number d : ℕ) → d < 10 → step Digits sum number (48 + d) ≡ with_digit sum number (48 + d)
digit-step sum number d small = grind (arith, nat_tests)

-- a reading that stands behind amounts of this sum
pub record IsBehind (sum : ℕ) (r : Reading) : Type 0 where
  pub first : (d : ℕ) → d < 10 → step r.stage r.millis r.number (48 + d) ≡ with_digit sum 0 (48 + d)
  pub whole : total r.stage r.millis r.number ≡ Some sum

module _ (sum : ℕ) (r : Reading) (after : IsBehind sum r) where
  abbrev Reads : ℕ → List ℕ → Type 0
  Reads n digits = n ≤ 86400000 → (rest : List ℕ) → read_from (Some r) (digits ++ rest) ≡ read_from (Some (record { millis = sum; number = n; stage = Digits })) rest

  reads-one : (n : ℕ) → n < 10 → Reads n ((48 + n) ∷ [])
  reads-one n small most rest = ap (λ o. read_from o rest) (after.first n small ∙ next-digit sum 0 n n small (omega arith) most)

  reads-more : (n : ℕ) (digits : List ℕ) → 10 ≤ n → Reads (n / 10) digits → Reads n (digits ++ ((48 + n % 10) ∷ []))
  reads-more n digits ten before most rest =
      ap (read_from (Some r)) (append_assoc digits ((48 + n % 10) ∷ []) rest)
      ∙ before (omega arith) ((48 + n % 10) ∷ rest)
      ∙ ap (λ o. read_from o rest) (digit-step sum (n / 10) (n % 10) (omega arith) ∙ next-digit sum (n / 10) (n % 10) n (omega arith) (omega arith) most)

  reads-number : (n : ℕ) → n ≤ 86400000 → (rest : List ℕ) → read_from (Some r) (decimal n ++ rest) ≡ read_from (Some (record { millis = sum; number = n; stage = Digits })) rest
  reads-number n most = decimal_by_steps Reads reads-one reads-more n (omega arith) most

behind-whole : (sum : ℕ) → IsBehind sum (record { millis = sum; number = 0; stage = Whole })
behind-whole sum = record { first = λ d small. refl; whole = refl }

minutes-first : (sum number more d : ℕ) → d < 10 → with_amount sum number 60000 ≡ Some more → step Minutes sum number (48 + d) ≡ with_digit more 0 (48 + d)
minutes-first sum number more d small is = not-s ∙ ap (with_first_digit (48 + d)) is
  where
    not-s : step Minutes sum number (48 + d) ≡ with_first_digit (48 + d) (with_amount sum number 60000)
    not-s = grind (arith, nat_tests)

behind-minutes : (sum number more : ℕ) → with_amount sum number 60000 ≡ Some more → IsBehind more (record { millis = sum; number = number; stage = Minutes })
behind-minutes sum number more is = record { first = λ d small. minutes-first sum number more d small is; whole = is }

-- ---- amounts

-- the amounts behind are read from wherever they stand
abbrev ReadOn : List (ℕ × Measure) → Type 0
ReadOn amounts = (sum : ℕ) (r : Reading) → IsBehind sum r → sum + total_of amounts ≤ 86400000 → read_from (Some r) (written amounts) ≡ Some (sum + total_of amounts)

module _ (amounts : List (ℕ × Measure)) (on : ReadOn amounts) (n sum : ℕ) (r : Reading) (after : IsBehind sum r) where
  abbrev more : Measure → ℕ
  more u = sum + n * millis_of u

  read-unit : (u : Measure) → sum + (n * millis_of u + total_of amounts) ≤ 86400000
      → read_from (Some r) (decimal n ++ (text_of u ++ written amounts)) ≡ Some (sum + (n * millis_of u + total_of amounts))
  read-unit hours most =
      reads-number sum r after n (omega arith) (text_of hours ++ written amounts)
      ∙ ap (λ o. read_from (behind o) (written amounts)) (day-in (more hours) (omega arith))
      ∙ on (more hours) _ (behind-whole (more hours)) (omega arith)
      ∙ ap Some (omega arith)
  read-unit minutes most =
      reads-number sum r after n (omega arith) (text_of minutes ++ written amounts)
      ∙ on (more minutes) _ (behind-minutes sum n (more minutes) (day-in (more minutes) (omega arith))) (omega arith)
      ∙ ap Some (omega arith)
  read-unit seconds most =
      reads-number sum r after n (omega arith) (text_of seconds ++ written amounts)
      ∙ ap (λ o. read_from (behind o) (written amounts)) (day-in (more seconds) (omega arith))
      ∙ on (more seconds) _ (behind-whole (more seconds)) (omega arith)
      ∙ ap Some (omega arith)
  read-unit millis most =
      reads-number sum r after n (omega arith) (text_of millis ++ written amounts)
      ∙ ap (λ o. read_from (behind o) (written amounts)) (day-in (more millis) (omega arith))
      ∙ on (more millis) _ (behind-whole (more millis)) (omega arith)
      ∙ ap Some (omega arith)

read-all : (amounts : List (ℕ × Measure)) → ReadOn amounts
read-all [] sum r after most = after.whole ∙ ap Some (omega arith)
read-all (amount ∷ amounts) sum r after most = read-unit amounts (read-all amounts) amount.0 sum r after amount.1 most

pub durations-sum : (amounts : List (ℕ × Measure)) → total_of amounts ≤ 86400000 → duration (written amounts) ≡ Some (total_of amounts)
unfolding duration
durations-sum amounts most = read-all amounts 0 _ (behind-whole 0) (omega arith) ∙ ap Some (omega arith)
