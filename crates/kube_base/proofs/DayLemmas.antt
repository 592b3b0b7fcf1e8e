-- The date of a day number, by the years and months that have begun.
use Rattle.std.proofs.Common.{◌≡◌, ℕ, zero, suc, ◌+◌, ◌-◌, ◌<◌, ◌≤◌, Bool, true, false, cond, ◌&&◌, nat_le, Some, None, refl, sym, ap, subst, ◌∙◌, arith, ℤ, pos, negsuc, ◌≤ℤ◌, ◌⊎◌, inl, inr}
use Rattle.std.proofs.lemmas.Bool.{cases_lt, le-leb}
use Rattle.std.proofs.lemmas.Bool.Decides.{leb_tells}
use Rattle.std.proofs.lemmas.Int.{by_lt_z}
use Rattle.jiff_core.specs.Calendar.{days_in_month, day_count, days_from_civil, IsCivilDate}
use Rattle.jiff_core.specs.Date.{epoch_day, IsYmd}
use Rattle.jiff_core.specs.declared.civil.date.Date.{Date}
use Rattle.jiff_core.proofs.SignedLemmas.{signed_arith}
use Rattle.jiff_core.proofs.DateLemmas.{civil}
use Rattle.jiff_core.proofs.CalendarLemmas.{day_count-epoch, days_from_civil-day_count, day_count-day_of_year, day_count-lt_year, day_count-lt_month, day_count-day, day_count-later_year}
use Rattle.jiff_core.proofs.MarchLemmas.{day_count-early}
use Rattle.kube_base.specs.Times.{is_date, day_number, last_passing, has_begun, year_of, month_of, day_of}

pub last_passing-is : (n : ℕ) (p : ℕ → Bool) (j : ℕ) → j ≤ n → p j ≡ true → ((k : ℕ) → j < k → k ≤ n → p k ≡ false) → last_passing n p ≡ j
unfolding last_passing
last_passing-is zero p j le here none = omega arith
last_passing-is (suc n) p j le here none = by (cases_lt j (suc n)) (last_passing-is n p j)
  where
    by : ((j < suc n) ⊎ (suc n ≤ j)) → (j ≤ n → p j ≡ true → ((k : ℕ) → j < k → k ≤ n → p k ≡ false) → last_passing n p ≡ j) → cond (p (suc n)) (suc n) (last_passing n p) ≡ j
    by (inl lt) rest =
        ap (λ b. cond b (suc n) (last_passing n p)) (none (suc n) lt (omega arith))
        ∙ rest (omega arith) here (λ k low high. none k low (omega arith))
    by (inr ge) rest =
        let same : j ≡ suc n = omega arith in
        ap (λ b. cond b (suc n) (last_passing n p)) (sym (ap p same) ∙ here) ∙ sym same

leb-false : (a b : ℕ) → b < a → nat_le a b ≡ false
leb-false a b lt = by (leb_tells a b)
  where
    by : (((nat_le a b ≡ true) × (a ≤ b)) ⊎ ((nat_le a b ≡ false) × (b < a))) → nat_le a b ≡ false
    by (inl h) = absurd (omega (arith, h.1))
    by (inr h) = h.0

all_true : (a b c d : Bool) → a ≡ true → b ≡ true → c ≡ true → d ≡ true → (a && b && c && d) ≡ true
all_true true b c d e f g h = ap (λ x. x && c && d) f ∙ ap (λ x. x && d) g ∙ h
all_true false b c d e f g h = e

-- a date that the calendar has is a date
pub day_number-is : (y m d : ℕ) (date : Date) → IsYmd (pos y) (pos m) (pos d) date → day_number y m d ≡ Some (epoch_day date)
day_number-is y m d date h =
    let year : date.year ≡ pos y = h.0 in
    let month : date.month ≡ m = cc h.1 in
    let day : date.day ≡ d = cc h.2 in
    let c = civil date in
    let fits : d ≤ days_in_month (pos y) m = subst (λ n. n ≤ days_in_month (pos y) m) day (subst (λ n. date.day ≤ days_in_month (pos y) n) month (subst (λ z. date.day ≤ days_in_month z date.month) year c.2.1)) in
    let is : is_date y m d ≡ true = all_true _ _ _ _ (le-leb 1 m (omega (arith, c.1.0))) (le-leb m 12 (omega (arith, c.1.1))) (le-leb 1 d (omega (arith, c.2.0))) (le-leb d (days_in_month (pos y) m) fits) in
    ap (λ b. cond b (Some (days_from_civil (pos y) m d)) None) is
    ∙ sym (ap (λ z. Some (days_from_civil z date.month date.day)) year ∙ ap (λ n. Some (days_from_civil (pos y) n date.day)) month ∙ ap (λ n. Some (days_from_civil (pos y) m n)) day)

-- the count of a day number's date
pub day_count-of : (day : ℕ) (date : Date) → epoch_day date ≡ pos day → day_count date.year date.month date.day ≡ day_count (pos 1970) 1 1 + day
day_count-of day date e =
    let c = days_from_civil-day_count date.year date.month date.day in
    omega (arith, signed_arith, c, e, day_count-epoch)

module _ (day j m d : ℕ) (h : IsCivilDate (pos (1970 + j)) m d) (count : day_count (pos (1970 + j)) m d ≡ day_count (pos 1970) 1 1 + day) where
  -- the year, the month and the day of a date's day number are its own
  pub year_of-date : j ≤ 291 → year_of day ≡ 1970 + j
  unfolding year_of
  year_of-date high =
      let first = day_count-day_of_year (pos (1970 + j)) m d h.2.0 in
      let begun : day_count (pos (1970 + j)) 1 1 ≤ day_count (pos 1970) 1 1 + day = omega (arith, first, count, h.2.0) in
      let is = last_passing-is 291 (λ k. has_begun (1970 + k) 1 day) j high (le-leb _ _ begun)
      (λ k low le. leb-false _ _ (let lt = day_count-lt_year (pos (1970 + j)) m d (pos (1970 + k)) 1 1 h (omega arith) (omega (arith, signed_arith)) in omega (arith, lt, count))) in
      ap (λ n. 1970 + n) is

  pub month_of-date : year_of day ≡ 1970 + j → month_of day ≡ m
  unfolding month_of
  month_of-date year =
      let same = day_count-day (pos (1970 + j)) m d 1 h.2.0 (omega arith) in
      let back : 1 + (m - 1) ≡ m = omega (arith, h.1.0) in
      let begun : day_count (pos (1970 + j)) m 1 ≤ day_count (pos 1970) 1 1 + day = omega (arith, same, count, h.2.0) in
      let here : has_begun (1970 + j) (1 + (m - 1)) day ≡ true = le-leb _ _ (subst (λ n. day_count (pos (1970 + j)) n 1 ≤ day_count (pos 1970) 1 1 + day) (sym back) begun) in
      let is = last_passing-is 11 (λ k. has_begun (1970 + j) (1 + k) day) (m - 1) (omega (arith, h.1.1)) here
      (λ k low le. leb-false _ _ (let lt = day_count-lt_month (pos (1970 + j)) m d (1 + k) 1 h (omega arith) (omega arith) in omega (arith, lt, count))) in
      ap (λ y. 1 + last_passing 11 (λ k. has_begun y (1 + k) day)) year ∙ ap (λ n. 1 + n) is ∙ back

  pub day_of-date : year_of day ≡ 1970 + j → month_of day ≡ m → day_of day ≡ d
  unfolding day_of
  day_of-date year month =
      let same = day_count-day (pos (1970 + j)) m d 1 h.2.0 (omega arith) in
      ap (λ y. day_count (pos 1970) 1 1 + day + 1 - day_count (pos y) (month_of day) 1) year
      ∙ ap (λ n. day_count (pos 1970) 1 1 + day + 1 - day_count (pos (1970 + j)) n 1) month
      ∙ omega (arith, same, count, h.2.0)

in_years : (year : ℤ) → pos 1970 ≤ℤ year → year ≤ℤ pos 2261 → (j : ℕ) × (year ≡ pos (1970 + j)) × (j ≤ 291)
in_years (pos y) from to =
    let low : 1970 ≤ y = omega (arith, signed_arith, from) in
    let high : y ≤ 2261 = omega (arith, signed_arith, to) in
    let same : y ≡ 1970 + (y - 1970) = omega arith in
    (y - 1970, ap (λ n. pos n) same, omega arith)
in_years (negsuc n) from to = absurd (omega (arith, signed_arith, from))

-- the year of a day number from 1970 to 2261
pub year_bounds : (day : ℕ) (date : Date) → epoch_day date ≡ pos day → day ≤ 106_650 → (j : ℕ) × (date.year ≡ pos (1970 + j)) × (j ≤ 291)
year_bounds day date e high =
    let h = civil date in
    let count = day_count-of day date e in
    let first = day_count-day_of_year date.year date.month date.day h.2.0 in
    let last : day_count (pos 2261) 1 1 ≡ 4_478_239 = day_count-early (pos 2261) 12260 1 1 refl (omega arith) (omega arith) (omega arith) in
    by_lt_z date.year (pos 1970)
    (λ lt. absurd (omega (arith, day_count-lt_year date.year date.month date.day (pos 1970) 1 1 h (omega arith) lt, count)))
    (λ from. by_lt_z (pos 2261) date.year
    (λ later. absurd (let after = day_count-later_year (pos 2261) date.year (omega (arith, signed_arith)) later in omega (arith, after, last, count, first, day_count-epoch, high, h.2.0)))
    (λ to. in_years date.year from to))

-- the date of a day number is the one that the years and months give
pub date_by_begun : (day : ℕ) (date : Date) → epoch_day date ≡ pos day → day ≤ 106_650 → (date.year ≡ pos (year_of day)) × (date.month ≡ month_of day) × (date.day ≡ day_of day)
date_by_begun day date e high =
    let within = year_bounds day date e high in
    let h : IsCivilDate (pos (1970 + within.0)) date.month date.day = subst (λ y. IsCivilDate y date.month date.day) within.1 (civil date) in
    let count = ap (λ y. day_count y date.month date.day) (sym within.1) ∙ day_count-of day date e in
    let year = year_of-date day within.0 date.month date.day h count within.2 in
    let month = month_of-date day within.0 date.month date.day h count year in
    (within.1 ∙ ap (λ n. pos n) (sym year), sym month, sym (day_of-date day within.0 date.month date.day h count year month))
