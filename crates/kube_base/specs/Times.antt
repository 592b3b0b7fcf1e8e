-- Times as the texts of RFC 3339 that Kubernetes writes, in microseconds since 1970-01-01T00:00:00Z, leap seconds not counted.
use Rattle.std.specs.Prelude.{ℕ, zero, suc, ◌+◌, ◌-◌, ◌*◌, ◌/◌, ◌%◌, ◌==◌, ◌&&◌, nat_lt, nat_le, Bool}
use Rattle.std.specs.Prelude.{List, [], ◌∷◌, ◌++◌, length, drop, position, not, slice_index, codes, Option, Some, None, unwrap_or}
use Rattle.std.specs.Prelude.{ℤ, pos, negsuc, neg_ℤ, ◌+ℤ◌, ◌-ℤ◌, ◌*ℤ◌, if◌then◌else◌}
use Rattle.std.specs.Char.{is_ascii_digit}
use Rattle.jiff_core.specs.Calendar.{days_in_month, days_from_civil, day_count}
use Rattle.kube_base.specs.declared.numbers.Wall.{Wall}

infixl 10 ◌>>=◌
abbrev pub ◌>>=◌ : {A B : Type 0} → Option A → (A → Option B) → Option B
None >>= f = None
(Some x) >>= f = f x

-- ---- reading

-- the byte at the place is this character
abbrev pub is_at : List ℕ → ℕ → ℕ → Bool
is_at text place character = slice_index text place == character

-- the digit at the place
abbrev pub digit_at : List ℕ → ℕ → Option ℕ
digit_at text place = if is_ascii_digit (slice_index text place) then Some (slice_index text place - 48) else None

-- the number of two digits from the place on
unfoldable pub two_at : List ℕ → ℕ → Option ℕ
two_at text place = do
  tens ← digit_at text place
  ones ← digit_at text (place + 1)
  Some (10 * tens + ones)

-- the calendar has this day
abbrev pub is_date : ℕ → ℕ → ℕ → Bool
is_date year month day = nat_le 1 month && nat_le month 12 && nat_le 1 day && nat_le day (days_in_month (pos year) month)

-- the day number, from 1970-01-01, of a date
abbrev pub day_number : ℕ → ℕ → ℕ → Option ℤ
day_number year month day = if is_date year month day then Some (days_from_civil (pos year) month day) else None

-- the same, of `YYYY-MM-DD` at the front
unfoldable pub day_at : List ℕ → Option ℤ
day_at text = do
  century ← two_at text 0
  year ← two_at text 2
  month ← two_at text 5
  day ← two_at text 8
  if is_at text 4 45 && is_at text 7 45 then day_number (100 * century + year) month day else None

-- the second of the day of `THH:MM:SS` behind it
unfoldable pub second_at : List ℕ → Option ℕ
second_at text = do
  hour ← two_at text 11
  minute ← two_at text 14
  second ← two_at text 17
  if is_at text 10 84 && is_at text 13 58 && is_at text 16 58 && nat_lt hour 24 && nat_lt minute 60 && nat_lt second 60
      then Some (3600 * hour + 60 * minute + second) else None

-- how many digits stand after the dot, if there is one: one to nine
abbrev pub few_digits : ℕ → Option ℕ
few_digits n = if nat_le 1 n && nat_le n 9 then Some n else None

-- the place of the first byte that is no digit, or the length
abbrev pub first_other : List ℕ → ℕ
first_other text = unwrap_or (position (λ byte. not (is_ascii_digit byte)) text) (length text)

unfoldable pub fraction_digits : List ℕ → Option ℕ
fraction_digits text = if is_at text 19 46 then few_digits (first_other (drop 20 text)) else Some 0

-- the digit of the fraction at a place, of which there are so many; what is missing is 0
unfoldable pub fraction_digit : List ℕ → ℕ → ℕ → ℕ
fraction_digit text digits place = if nat_lt place digits then unwrap_or (digit_at text (20 + place)) 0 else 0

-- the fraction in microseconds: digits after the sixth are dropped
unfoldable pub micros_of : List ℕ → ℕ → ℕ
micros_of text digits =
    100000 * fraction_digit text digits 0 + 10000 * fraction_digit text digits 1 + 1000 * fraction_digit text digits 2
    + 100 * fraction_digit text digits 3 + 10 * fraction_digit text digits 4 + fraction_digit text digits 5

-- where the zone stands
abbrev pub zone_place : ℕ → ℕ
zone_place digits = if digits == 0 then 19 else 20 + digits

abbrev pub signed_offset : ℕ → ℕ → Option ℤ
signed_offset sign seconds = if sign == 43 then Some (pos seconds) else (if sign == 45 then Some (neg_ℤ (pos seconds)) else None)

-- the offset from UTC in seconds, of `Z` or `+HH:MM` at the end
unfoldable pub offset_at : List ℕ → ℕ → Option ℤ
offset_at text place =
    if is_at text place 90 then (if length text == place + 1 then Some (pos 0) else None)
    else (do
      hours ← two_at text (place + 1)
      minutes ← two_at text (place + 4)
      if is_at text (place + 3) 58 && (length text == place + 6) && nat_lt hours 24 && nat_lt minutes 60
          then signed_offset (slice_index text place) (3600 * hours + 60 * minutes) else None)

-- the time of a second and its microseconds, from 1970-01-01T00:00:00Z to the end of 2261
abbrev pub wall_of : ℤ → ℕ → Option Wall
wall_of (pos second) micros = if nat_le second 9_214_646_399 then Some (record { 0 = second * 1_000_000 + micros }) else None
wall_of (negsuc n) micros = None

-- the second since 1970-01-01T00:00:00Z
abbrev pub instant : ℤ → ℕ → ℤ → ℤ
instant day second offset = day *ℤ pos 86_400 +ℤ pos second -ℤ offset

unfoldable pub time_of : List ℕ → Option Wall
time_of text = do
  day ← day_at text
  second ← second_at text
  digits ← fraction_digits text
  offset ← offset_at text (zone_place digits)
  wall_of (instant day second offset) (micros_of text digits)

-- ---- writing

-- the last number up to n that passes, or 0
unfoldable pub last_passing : ℕ → (ℕ → Bool) → ℕ
last_passing zero passes = 0
last_passing (suc n) passes = if passes (suc n) then suc n else last_passing n passes

-- the month of the year has begun by the day, which is counted from 1970-01-01
abbrev pub has_begun : ℕ → ℕ → ℕ → Bool
has_begun year month day = nat_le (day_count (pos year) month 1) (day_count (pos 1970) 1 1 + day)

-- the year of a day is the last that has begun, up to 2261
unfoldable pub year_of : ℕ → ℕ
year_of day = 1970 + last_passing 291 (λ years. has_begun (1970 + years) 1 day)

-- so is its month in the year
unfoldable pub month_of : ℕ → ℕ
month_of day = 1 + last_passing 11 (λ months. has_begun (year_of day) (1 + months) day)

-- and the rest is its day in the month
unfoldable pub day_of : ℕ → ℕ
day_of day = day_count (pos 1970) 1 1 + day + 1 - day_count (pos (year_of day)) (month_of day) 1

abbrev pub digit : ℕ → ℕ
digit n = 48 + n % 10

abbrev pub two_digits : ℕ → List ℕ
two_digits n = digit (n / 10) ∷ digit n ∷ []

abbrev pub date_text : ℕ → ℕ → ℕ → List ℕ
date_text year month day =
    digit (year / 1000) ∷ digit (year / 100) ∷ digit (year / 10) ∷ digit year ∷ codes "-" ++ two_digits month ++ codes "-" ++ two_digits day

abbrev pub clock_text : ℕ → List ℕ
clock_text second = two_digits (second / 3600) ++ codes ":" ++ two_digits (second / 60 % 60) ++ codes ":" ++ two_digits (second % 60)

-- `YYYY-MM-DDTHH:MM:SS` of a second
abbrev pub date_time_text : ℕ → List ℕ
date_time_text second =
    date_text (year_of (second / 86_400)) (month_of (second / 86_400)) (day_of (second / 86_400))
    ++ codes "T" ++ clock_text (second % 86_400)

-- the form in seconds
unfoldable pub seconds_text : Wall → List ℕ
seconds_text at = date_time_text (at.0 / 1_000_000) ++ codes "Z"

abbrev pub six_digits : ℕ → List ℕ
six_digits n = digit (n / 100_000) ∷ digit (n / 10_000) ∷ digit (n / 1_000) ∷ digit (n / 100) ∷ digit (n / 10) ∷ digit n ∷ []

-- the form in microseconds
unfoldable pub micros_text : Wall → List ℕ
micros_text at = date_time_text (at.0 / 1_000_000) ++ codes "." ++ six_digits (at.0 % 1_000_000) ++ codes "Z"

-- the last time that is written: the end of 2261
abbrev pub last_wall : ℕ
last_wall = 9_214_646_399_999_999
