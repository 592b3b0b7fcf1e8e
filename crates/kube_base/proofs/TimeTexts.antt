-- What is written of a time is UTF-8, and is read as that time.
use Rattle.std.proofs.Common.{◌≡◌, ℕ, ◌+◌, ◌-◌, ◌*◌, ◌/◌, ◌%◌, ◌<◌, ◌≤◌, Bool, true, not, cond, ◌&&◌, ◌==◌, nat_le, nat_lt, List, [], ◌∷◌, ◌++◌, length, slice_index, unwrap_or, codes, Some, None, refl, ap, ◌∙◌, arith, pos}
use Rattle.std.specs.Char.{is_ascii_digit}
use Rattle.std.specs.List.{position_or_len}
use Rattle.std.specs.Str.{IsUtf8, IsAscii}
use Rattle.std.proofs.lemmas.Bool.{le-leb, lt-ltb}
use Rattle.std.proofs.lemmas.Str.{IsUtf8-from_ascii}
use Rattle.std.proofs.lemmas.Str.Ascii.{IsAscii-nil, IsAscii-cons}
use Rattle.jiff_core.proofs.SignedLemmas.{signed_arith}
use Rattle.kube_base.specs.declared.numbers.Wall.{Wall}
use Rattle.kube_base.specs.Times.{◌>>=◌, digit, digit_at, two_at, two_digits, date_text, date_time_text, six_digits, seconds_text, micros_text, day_at, day_number, second_at, first_other, few_digits, fraction_digits, fraction_digit, micros_of, offset_at, wall_of, instant, time_of, year_of, month_of, day_of, last_wall}
use Rattle.kube_base.proofs.WrittenDays.{written_date}

-- ---- digits

digit-lt : (n : ℕ) → digit n < 128
digit-lt n = omega arith

in_range : (c : ℕ) → 48 ≤ c → c ≤ 57 → is_ascii_digit c ≡ true
in_range c low high = ap (λ b. b && nat_le c 57) (le-leb 48 c low) ∙ le-leb c 57 high

is_digit : (n : ℕ) → is_ascii_digit (digit n) ≡ true
is_digit n = in_range (digit n) (omega arith) (omega arith)

digit_at-written : (text : List ℕ) (place n : ℕ) → slice_index text place ≡ digit n → digit_at text place ≡ Some (n % 10)
digit_at-written text place n h =
    ap (λ c. cond (is_ascii_digit c) (Some (c - 48)) None) h
    ∙ ap (λ b. cond b (Some (digit n - 48)) None) (is_digit n)
    ∙ ap (λ m. Some m) (by (n % 10))
  where
    by : (m : ℕ) → 48 + m - 48 ≡ m
    by m = omega arith

two_at-written : (text : List ℕ) (place a b : ℕ) → slice_index text place ≡ digit a → slice_index text (place + 1) ≡ digit b → two_at text place ≡ Some (10 * (a % 10) + b % 10)
unfolding two_at
two_at-written text place a b h k =
    ap (λ o. o >>= λ tens. digit_at text (place + 1) >>= λ ones. Some (10 * tens + ones)) (digit_at-written text place a h)
    ∙ ap (λ o. o >>= λ ones. Some (10 * (a % 10) + ones)) (digit_at-written text (place + 1) b k)

two_at-number : (text : List ℕ) (place n : ℕ) → n < 100 → slice_index text place ≡ digit (n / 10) → slice_index text (place + 1) ≡ digit n → two_at text place ≡ Some n
two_at-number text place n lt h k =
    two_at-written text place (n / 10) n h k ∙ ap (λ m. Some m) (by n lt)
  where
    by : (n : ℕ) → n < 100 → 10 * (n / 10 % 10) + n % 10 ≡ n
    by n lt = omega arith

-- ---- the date and the clock

module _ (year month day hour minute second : ℕ) (rest : List ℕ) where
  abbrev stamp : List ℕ
  stamp =
      date_text year month day ++ codes "T" ++ two_digits hour ++ codes ":" ++ two_digits minute ++ codes ":" ++ two_digits second ++ rest

  day_at-stamp : year < 10_000 → month < 100 → day < 100 → day_at stamp ≡ day_number year month day
  unfolding day_at
  day_at-stamp y m d =
      ap (λ o. o >>= λ century. two_at stamp 2 >>= λ years. two_at stamp 5 >>= λ months. two_at stamp 8 >>= λ days. day_number (100 * century + years) months days) (two_at-written stamp 0 (year / 1000) (year / 100) refl refl)
      ∙ ap (λ o. o >>= λ years. two_at stamp 5 >>= λ months. two_at stamp 8 >>= λ days. day_number (100 * (10 * (year / 1000 % 10) + year / 100 % 10) + years) months days) (two_at-written stamp 2 (year / 10) year refl refl)
      ∙ ap (λ o. o >>= λ months. two_at stamp 8 >>= λ days. day_number (100 * (10 * (year / 1000 % 10) + year / 100 % 10) + (10 * (year / 10 % 10) + year % 10)) months days) (two_at-number stamp 5 month m refl refl)
      ∙ ap (λ o. o >>= λ days. day_number (100 * (10 * (year / 1000 % 10) + year / 100 % 10) + (10 * (year / 10 % 10) + year % 10)) month days) (two_at-number stamp 8 day d refl refl)
      ∙ ap (λ n. day_number n month day) (whole year y)
    where
      whole : (n : ℕ) → n < 10_000 → 100 * (10 * (n / 1000 % 10) + n / 100 % 10) + (10 * (n / 10 % 10) + n % 10) ≡ n
      whole n lt = omega arith

  second_at-stamp : hour < 24 → minute < 60 → second < 60 → second_at stamp ≡ Some (3600 * hour + 60 * minute + second)
  unfolding second_at
  second_at-stamp h m s =
      ap (λ o. o >>= λ hours. two_at stamp 14 >>= λ minutes. two_at stamp 17 >>= λ seconds. cond (nat_lt hours 24 && nat_lt minutes 60 && nat_lt seconds 60) (Some (3600 * hours + 60 * minutes + seconds)) None) (two_at-number stamp 11 hour (omega arith) refl refl)
      ∙ ap (λ o. o >>= λ minutes. two_at stamp 17 >>= λ seconds. cond (nat_lt hour 24 && nat_lt minutes 60 && nat_lt seconds 60) (Some (3600 * hour + 60 * minutes + seconds)) None) (two_at-number stamp 14 minute (omega arith) refl refl)
      ∙ ap (λ o. o >>= λ seconds. cond (nat_lt hour 24 && nat_lt minute 60 && nat_lt seconds 60) (Some (3600 * hour + 60 * minute + seconds)) None) (two_at-number stamp 17 second (omega arith) refl refl)
      ∙ ap (λ b. cond (b && nat_lt minute 60 && nat_lt second 60) (Some (3600 * hour + 60 * minute + second)) None) (lt-ltb hour 24 h)
      ∙ ap (λ b. cond (b && nat_lt second 60) (Some (3600 * hour + 60 * minute + second)) None) (lt-ltb minute 60 m)
      ∙ ap (λ b. cond b (Some (3600 * hour + 60 * minute + second)) None) (lt-ltb second 60 s)

-- ---- the fraction

abbrev no_digit : ℕ → Bool
no_digit byte = not (is_ascii_digit byte)

one_more : (x : ℕ) (xs : List ℕ) → is_ascii_digit x ≡ true → position_or_len no_digit (x ∷ xs) ≡ 1 + position_or_len no_digit xs
one_more x xs h = ap (λ b. cond (not (not b)) (1 + position_or_len no_digit xs) 0) h

first_other-is : (text : List ℕ) (n : ℕ) → position_or_len no_digit text ≡ n → n < length text → first_other text ≡ n
first_other-is text n is lt =
    let within : position_or_len no_digit text < length text = omega arith in
    ap (λ b. unwrap_or (cond b (Some (position_or_len no_digit text)) None) (length text)) (lt-ltb _ _ within) ∙ is

module _ (a b c d e f : ℕ) where
  abbrev six : List ℕ
  six = digit a ∷ digit b ∷ digit c ∷ digit d ∷ digit e ∷ digit f ∷ 90 ∷ []

  first_other-six : first_other six ≡ 6
  first_other-six = first_other-is six 6 (one_more (digit a) (digit b ∷ digit c ∷ digit d ∷ digit e ∷ digit f ∷ 90 ∷ []) (is_digit a) ∙ ap (λ n. 1 + n) (one_more (digit b) (digit c ∷ digit d ∷ digit e ∷ digit f ∷ 90 ∷ []) (is_digit b) ∙ ap (λ n. 1 + n) (one_more (digit c) (digit d ∷ digit e ∷ digit f ∷ 90 ∷ []) (is_digit c) ∙ ap (λ n. 1 + n) (one_more (digit d) (digit e ∷ digit f ∷ 90 ∷ []) (is_digit d) ∙ ap (λ n. 1 + n) (one_more (digit e) (digit f ∷ 90 ∷ []) (is_digit e) ∙ ap (λ n. 1 + n) (one_more (digit f) (90 ∷ []) (is_digit f))))))) (omega arith)

module _ (year month day hour minute second : ℕ) where
  abbrev with_micros : ℕ → List ℕ
  with_micros n = stamp year month day hour minute second (codes "." ++ six_digits n ++ codes "Z")

  fraction_digits-micros : (n : ℕ) → fraction_digits (with_micros n) ≡ Some 6
  unfolding fraction_digits
  fraction_digits-micros n = ap few_digits (first_other-six (n / 100_000) (n / 10_000) (n / 1_000) (n / 100) (n / 10) n)

  fraction_digit-micros : (n place m : ℕ) → nat_lt place 6 ≡ true → slice_index (with_micros n) (20 + place) ≡ digit m → fraction_digit (with_micros n) 6 place ≡ m % 10
  unfolding fraction_digit
  fraction_digit-micros n place m lt h =
      ap (λ b. cond b (unwrap_or (digit_at (with_micros n) (20 + place)) 0) 0) lt ∙ ap (λ o. unwrap_or o 0) (digit_at-written (with_micros n) (20 + place) m h)

  micros_of-micros : (n : ℕ) → n < 1_000_000 → micros_of (with_micros n) 6 ≡ n
  unfolding micros_of
  micros_of-micros n lt =
      let d0 = fraction_digit-micros n 0 (n / 100_000) refl refl in
      let d1 = fraction_digit-micros n 1 (n / 10_000) refl refl in
      let d2 = fraction_digit-micros n 2 (n / 1_000) refl refl in
      let d3 = fraction_digit-micros n 3 (n / 100) refl refl in
      let d4 = fraction_digit-micros n 4 (n / 10) refl refl in
      let d5 = fraction_digit-micros n 5 n refl refl in
      omega (arith, d0, d1, d2, d3, d4, d5, whole n lt)
    where
      whole : (n : ℕ) → n < 1_000_000 → 100000 * (n / 100_000 % 10) + 10000 * (n / 10_000 % 10) + 1000 * (n / 1_000 % 10) + 100 * (n / 100 % 10) + 10 * (n / 10 % 10) + n % 10 ≡ n
      whole n lt = omega arith

  offset_at-micros : (n : ℕ) → offset_at (with_micros n) 26 ≡ Some (pos 0)
  unfolding offset_at
  offset_at-micros n = refl

  abbrev no_fraction : List ℕ
  no_fraction = stamp year month day hour minute second (codes "Z")

  offset_at-seconds : offset_at no_fraction 19 ≡ Some (pos 0)
  unfolding offset_at
  offset_at-seconds = refl

  fraction_digits-seconds : fraction_digits no_fraction ≡ Some 0
  unfolding fraction_digits
  fraction_digits-seconds = refl

  micros_of-seconds : micros_of no_fraction 0 ≡ 0
  unfolding micros_of fraction_digit
  micros_of-seconds = refl

-- ---- the whole

instant-utc : (day second : ℕ) → instant (pos day) second (pos 0) ≡ pos (day * 86_400 + second)
instant-utc day second = omega (arith, signed_arith)

wall_of-is : (second micros : ℕ) → second ≤ 9_214_646_399 → wall_of (pos second) micros ≡ Some (record { 0 = second * 1_000_000 + micros })
wall_of-is second micros le = ap (λ b. cond b (Some (record { 0 = second * 1_000_000 + micros })) None) (le-leb second 9_214_646_399 le)

-- a text is read from its parts
time_of-parts : (text : List ℕ) (day second micros digits place : ℕ) → day_at text ≡ Some (pos day) → second_at text ≡ Some second → fraction_digits text ≡ Some digits
    → offset_at text (cond (digits == 0) 19 (20 + digits)) ≡ Some (pos 0) → micros_of text digits ≡ micros → day * 86_400 + second ≤ 9_214_646_399
    → time_of text ≡ Some (record { 0 = (day * 86_400 + second) * 1_000_000 + micros })
unfolding time_of
time_of-parts text day second micros digits place d s f o m le =
    ap (λ x. x >>= λ days. second_at text >>= λ seconds. fraction_digits text >>= λ count. offset_at text (cond (count == 0) 19 (20 + count)) >>= λ offset. wall_of (instant days seconds offset) (micros_of text count)) d
    ∙ ap (λ x. x >>= λ seconds. fraction_digits text >>= λ count. offset_at text (cond (count == 0) 19 (20 + count)) >>= λ offset. wall_of (instant (pos day) seconds offset) (micros_of text count)) s
    ∙ ap (λ x. x >>= λ count. offset_at text (cond (count == 0) 19 (20 + count)) >>= λ offset. wall_of (instant (pos day) second offset) (micros_of text count)) f
    ∙ ap (λ x. x >>= λ offset. wall_of (instant (pos day) second offset) (micros_of text digits)) o
    ∙ ap (λ z. wall_of z (micros_of text digits)) (instant-utc day second)
    ∙ ap (λ n. wall_of (pos (day * 86_400 + second)) n) m
    ∙ wall_of-is (day * 86_400 + second) micros le

module _ (second : ℕ) (high : second ≤ 9_214_646_399) (rest : List ℕ) where
  abbrev text_before : List ℕ
  text_before = date_time_text second ++ rest

  day_part : day_at text_before ≡ Some (pos (second / 86_400))
  day_part =
      let date = written_date (second / 86_400) (omega arith) in
      let day = second / 86_400 in
      let clock = second % 86_400 in
      day_at-stamp (year_of day) (month_of day) (day_of day) (clock / 3600) (clock / 60 % 60) (clock % 60) rest date.0 date.1 date.2 ∙ date.3

  second_part : second_at text_before ≡ Some (second % 86_400)
  second_part =
      let day = second / 86_400 in
      let clock = second % 86_400 in
      second_at-stamp (year_of day) (month_of day) (day_of day) (clock / 3600) (clock / 60 % 60) (clock % 60) rest (omega arith) (omega arith) (omega arith)
      ∙ ap (λ n. Some n) (by clock)
    where
      by : (n : ℕ) → 3600 * (n / 3600) + 60 * (n / 60 % 60) + n % 60 ≡ n
      by n = omega arith

-- a time in whole seconds is read back from its form in seconds
pub time_of-seconds_text : (at : Wall) → at.0 ≤ last_wall → time_of (seconds_text at) ≡ Some (record { 0 = at.0 / 1_000_000 * 1_000_000 })
unfolding seconds_text
time_of-seconds_text at high =
    let second = at.0 / 1_000_000 in
    let le : second ≤ 9_214_646_399 = omega arith in
    let day = second / 86_400 in
    let clock = second % 86_400 in
    let whole : day * 86_400 + clock ≡ second = omega arith in
    time_of-parts (date_time_text second ++ codes "Z") day clock 0 0 19 (day_part second le (codes "Z")) (second_part second le (codes "Z"))
    (fraction_digits-seconds (year_of day) (month_of day) (day_of day) (clock / 3600) (clock / 60 % 60) (clock % 60))
    (offset_at-seconds (year_of day) (month_of day) (day_of day) (clock / 3600) (clock / 60 % 60) (clock % 60))
    (micros_of-seconds (year_of day) (month_of day) (day_of day) (clock / 3600) (clock / 60 % 60) (clock % 60)) (omega arith)
    ∙ ap (λ n. Some (record { 0 = n })) (omega (arith, whole))

-- a time is read back from its form in microseconds
pub time_of-micros_text : (at : Wall) → at.0 ≤ last_wall → time_of (micros_text at) ≡ Some at
unfolding micros_text
time_of-micros_text at high =
    let second = at.0 / 1_000_000 in
    let micros = at.0 % 1_000_000 in
    let le : second ≤ 9_214_646_399 = omega arith in
    let day = second / 86_400 in
    let clock = second % 86_400 in
    let tail = codes "." ++ six_digits micros ++ codes "Z" in
    let whole : day * 86_400 + clock ≡ second = omega arith in
    time_of-parts (date_time_text second ++ tail) day clock micros 6 26 (day_part second le tail) (second_part second le tail)
    (fraction_digits-micros (year_of day) (month_of day) (day_of day) (clock / 3600) (clock / 60 % 60) (clock % 60) micros)
    (offset_at-micros (year_of day) (month_of day) (day_of day) (clock / 3600) (clock / 60 % 60) (clock % 60) micros)
    (micros_of-micros (year_of day) (month_of day) (day_of day) (clock / 3600) (clock / 60 % 60) (clock % 60) micros (omega arith)) (omega arith)
    ∙ ap (λ n. Some (record { 0 = n })) (omega (arith, whole))

-- ---- UTF-8

module _ (year month day hour minute second : ℕ) (rest : List ℕ) (tail : IsAscii rest) where
  IsAscii-stamp : IsAscii (stamp year month day hour minute second rest)
  IsAscii-stamp =
      let h18 = IsAscii-cons (digit second) (rest) (digit-lt second) tail in
      let h17 = IsAscii-cons (digit (second / 10)) (digit second ∷ rest) (digit-lt (second / 10)) h18 in
      let h16 = IsAscii-cons 58 (digit (second / 10) ∷ digit second ∷ rest) (omega arith) h17 in
      let h15 = IsAscii-cons (digit minute) (58 ∷ digit (second / 10) ∷ digit second ∷ rest) (digit-lt minute) h16 in
      let h14 = IsAscii-cons (digit (minute / 10)) (digit minute ∷ 58 ∷ digit (second / 10) ∷ digit second ∷ rest) (digit-lt (minute / 10)) h15 in
      let h13 = IsAscii-cons 58 (digit (minute / 10) ∷ digit minute ∷ 58 ∷ digit (second / 10) ∷ digit second ∷ rest) (omega arith) h14 in
      let h12 = IsAscii-cons (digit hour) (58 ∷ digit (minute / 10) ∷ digit minute ∷ 58 ∷ digit (second / 10) ∷ digit second ∷ rest) (digit-lt hour) h13 in
      let h11 = IsAscii-cons (digit (hour / 10)) (digit hour ∷ 58 ∷ digit (minute / 10) ∷ digit minute ∷ 58 ∷ digit (second / 10) ∷ digit second ∷ rest) (digit-lt (hour / 10)) h12 in
      let h10 = IsAscii-cons 84 (digit (hour / 10) ∷ digit hour ∷ 58 ∷ digit (minute / 10) ∷ digit minute ∷ 58 ∷ digit (second / 10) ∷ digit second ∷ rest) (omega arith) h11 in
      let h9 = IsAscii-cons (digit day) (84 ∷ digit (hour / 10) ∷ digit hour ∷ 58 ∷ digit (minute / 10) ∷ digit minute ∷ 58 ∷ digit (second / 10) ∷ digit second ∷ rest) (digit-lt day) h10 in
      let h8 = IsAscii-cons (digit (day / 10)) (digit day ∷ 84 ∷ digit (hour / 10) ∷ digit hour ∷ 58 ∷ digit (minute / 10) ∷ digit minute ∷ 58 ∷ digit (second / 10) ∷ digit second ∷ rest) (digit-lt (day / 10)) h9 in
      let h7 = IsAscii-cons 45 (digit (day / 10) ∷ digit day ∷ 84 ∷ digit (hour / 10) ∷ digit hour ∷ 58 ∷ digit (minute / 10) ∷ digit minute ∷ 58 ∷ digit (second / 10) ∷ digit second ∷ rest) (omega arith) h8 in
      let h6 = IsAscii-cons (digit month) (45 ∷ digit (day / 10) ∷ digit day ∷ 84 ∷ digit (hour / 10) ∷ digit hour ∷ 58 ∷ digit (minute / 10) ∷ digit minute ∷ 58 ∷ digit (second / 10) ∷ digit second ∷ rest) (digit-lt month) h7 in
      let h5 = IsAscii-cons (digit (month / 10)) (digit month ∷ 45 ∷ digit (day / 10) ∷ digit day ∷ 84 ∷ digit (hour / 10) ∷ digit hour ∷ 58 ∷ digit (minute / 10) ∷ digit minute ∷ 58 ∷ digit (second / 10) ∷ digit second ∷ rest) (digit-lt (month / 10)) h6 in
      let h4 = IsAscii-cons 45 (digit (month / 10) ∷ digit month ∷ 45 ∷ digit (day / 10) ∷ digit day ∷ 84 ∷ digit (hour / 10) ∷ digit hour ∷ 58 ∷ digit (minute / 10) ∷ digit minute ∷ 58 ∷ digit (second / 10) ∷ digit second ∷ rest) (omega arith) h5 in
      let h3 = IsAscii-cons (digit year) (45 ∷ digit (month / 10) ∷ digit month ∷ 45 ∷ digit (day / 10) ∷ digit day ∷ 84 ∷ digit (hour / 10) ∷ digit hour ∷ 58 ∷ digit (minute / 10) ∷ digit minute ∷ 58 ∷ digit (second / 10) ∷ digit second ∷ rest) (digit-lt year) h4 in
      let h2 = IsAscii-cons (digit (year / 10)) (digit year ∷ 45 ∷ digit (month / 10) ∷ digit month ∷ 45 ∷ digit (day / 10) ∷ digit day ∷ 84 ∷ digit (hour / 10) ∷ digit hour ∷ 58 ∷ digit (minute / 10) ∷ digit minute ∷ 58 ∷ digit (second / 10) ∷ digit second ∷ rest) (digit-lt (year / 10)) h3 in
      let h1 = IsAscii-cons (digit (year / 100)) (digit (year / 10) ∷ digit year ∷ 45 ∷ digit (month / 10) ∷ digit month ∷ 45 ∷ digit (day / 10) ∷ digit day ∷ 84 ∷ digit (hour / 10) ∷ digit hour ∷ 58 ∷ digit (minute / 10) ∷ digit minute ∷ 58 ∷ digit (second / 10) ∷ digit second ∷ rest) (digit-lt (year / 100)) h2 in
      IsAscii-cons (digit (year / 1000)) (digit (year / 100) ∷ digit (year / 10) ∷ digit year ∷ 45 ∷ digit (month / 10) ∷ digit month ∷ 45 ∷ digit (day / 10) ∷ digit day ∷ 84 ∷ digit (hour / 10) ∷ digit hour ∷ 58 ∷ digit (minute / 10) ∷ digit minute ∷ 58 ∷ digit (second / 10) ∷ digit second ∷ rest) (digit-lt (year / 1000)) h1

IsAscii-date_time : (second : ℕ) (rest : List ℕ) → IsAscii rest → IsAscii (date_time_text second ++ rest)
IsAscii-date_time second rest h =
    let day = second / 86_400 in
    let clock = second % 86_400 in
    IsAscii-stamp (year_of day) (month_of day) (day_of day) (clock / 3600) (clock / 60 % 60) (clock % 60) rest h

-- the texts of times are UTF-8
pub IsUtf8-seconds_text : (at : Wall) → IsUtf8 (seconds_text at)
unfolding seconds_text
IsUtf8-seconds_text at = IsUtf8-from_ascii (date_time_text (at.0 / 1_000_000) ++ codes "Z") (IsAscii-date_time (at.0 / 1_000_000) (codes "Z") (IsAscii-cons 90 [] (omega arith) IsAscii-nil))

pub IsUtf8-micros_text : (at : Wall) → IsUtf8 (micros_text at)
unfolding micros_text
IsUtf8-micros_text at =
    let n = at.0 % 1_000_000 in
    let end : IsAscii (90 ∷ []) = IsAscii-cons 90 [] (omega arith) IsAscii-nil in
    let d5 = IsAscii-cons (digit n) (90 ∷ []) (digit-lt n) end in
    let d4 = IsAscii-cons (digit (n / 10)) (digit n ∷ 90 ∷ []) (digit-lt (n / 10)) d5 in
    let d3 = IsAscii-cons (digit (n / 100)) (digit (n / 10) ∷ digit n ∷ 90 ∷ []) (digit-lt (n / 100)) d4 in
    let d2 = IsAscii-cons (digit (n / 1_000)) (digit (n / 100) ∷ digit (n / 10) ∷ digit n ∷ 90 ∷ []) (digit-lt (n / 1_000)) d3 in
    let d1 = IsAscii-cons (digit (n / 10_000)) (digit (n / 1_000) ∷ digit (n / 100) ∷ digit (n / 10) ∷ digit n ∷ 90 ∷ []) (digit-lt (n / 10_000)) d2 in
    let d0 = IsAscii-cons (digit (n / 100_000)) (digit (n / 10_000) ∷ digit (n / 1_000) ∷ digit (n / 100) ∷ digit (n / 10) ∷ digit n ∷ 90 ∷ []) (digit-lt (n / 100_000)) d1 in
    IsUtf8-from_ascii (date_time_text (at.0 / 1_000_000) ++ codes "." ++ six_digits n ++ codes "Z") (IsAscii-date_time (at.0 / 1_000_000) (codes "." ++ six_digits n ++ codes "Z") (IsAscii-cons 46 (six_digits n ++ codes "Z") (omega arith) d0))

pub ruleset written_texts = (time_of-seconds_text, time_of-micros_text)
