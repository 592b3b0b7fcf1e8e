-- The date of a day number is the date whose day number it is.
use Rattle.std.proofs.Common.{◌≡◌, ℕ, zero, suc, ◌+◌, ◌-◌, ◌<◌, ◌≤◌, Bool, true, false, cond, ◌&&◌, nat_le, Some, None, refl, sym, ap, subst, ◌∙◌, arith, pos, ◌⊎◌, inl, inr}
use Rattle.std.proofs.lemmas.Bool.{cases_lt, le-leb, leb-true}
use Rattle.std.proofs.lemmas.Bool.Decides.{leb_tells}
use Rattle.jiff_core.specs.Calendar.{days_in_month, days_in_year, day_count, days_from_civil}
use Rattle.jiff_core.proofs.SignedLemmas.{signed_arith}
use Rattle.jiff_core.proofs.CalendarLemmas.{day_count-epoch, days_from_civil-day_count, day_count-day, day_count-next_year, day_count-next_month, day_count-last_of_year, days_in_month_bounds}
use Rattle.jiff_core.proofs.MarchLemmas.{day_count-early}
use Rattle.kube_base.specs.Times.{is_date, day_number, last_passing, has_begun, year_of, month_of, day_of}

last_passing-le : (n : ℕ) (p : ℕ → Bool) → last_passing n p ≤ n
unfolding last_passing
last_passing-le zero p = omega arith
last_passing-le (suc n) p = by (p (suc n)) (last_passing-le n p)
  where
    by : (b : Bool) → last_passing n p ≤ n → cond b (suc n) (last_passing n p) ≤ suc n
    by true h = omega arith
    by false h = omega arith

last_passing-passes : (n : ℕ) (p : ℕ → Bool) → p 0 ≡ true → p (last_passing n p) ≡ true
unfolding last_passing
last_passing-passes zero p first = first
last_passing-passes (suc n) p first = by (p (suc n)) refl (last_passing-passes n p first)
  where
    by : (b : Bool) → p (suc n) ≡ b → p (last_passing n p) ≡ true → p (cond b (suc n) (last_passing n p)) ≡ true
    by true e h = e
    by false e h = h

last_passing-next : (n : ℕ) (p : ℕ → Bool) → last_passing n p < n → p (suc (last_passing n p)) ≡ false
unfolding last_passing
last_passing-next zero p lt = absurd (omega arith)
last_passing-next (suc n) p lt = by (p (suc n)) refl (last_passing-next n p) lt
  where
    at_end : (l : ℕ) → l ≤ n → p (suc n) ≡ false → (l < n → p (suc l) ≡ false) → p (suc l) ≡ false
    at_end l le e rest = cases (cases_lt l n)
      where
        cases : ((l < n) ⊎ (n ≤ l)) → p (suc l) ≡ false
        cases (inl lt') = rest lt'
        cases (inr ge) =
            let same : n ≡ l = omega arith in
            subst (λ k. p (suc k) ≡ false) same e

    by : (b : Bool) → p (suc n) ≡ b → (last_passing n p < n → p (suc (last_passing n p)) ≡ false) → cond b (suc n) (last_passing n p) < suc n → p (suc (cond b (suc n) (last_passing n p))) ≡ false
    by true e rest lt' = absurd (omega arith)
    by false e rest lt' = at_end (last_passing n p) (last_passing-le n p) e rest

leb-lt : (a b : ℕ) → nat_le a b ≡ false → b < a
leb-lt a b e = by (leb_tells a b)
  where
    by : (((nat_le a b ≡ true) × (a ≤ b)) ⊎ ((nat_le a b ≡ false) × (b < a))) → b < a
    by (inl h) = absurd (let no : true ≡ false = sym h.0 ∙ e in cc)
    by (inr h) = h.1

abbrev epoch : ℕ
epoch = day_count (pos 1970) 1 1

abbrev Within : ℕ → ℕ → ℕ → Type 0
Within first count day = (first ≤ epoch + day) × (epoch + day < first + count)

-- the year has begun, and the next one hasn't
year_fact : (day : ℕ) → day ≤ 106_650 → (j : ℕ) × (year_of day ≡ 1970 + j) × (j ≤ 291) × Within (day_count (pos (1970 + j)) 1 1) (days_in_year (pos (1970 + j))) day
unfolding year_of
year_fact day high =
    let passes = λ (years : ℕ). has_begun (1970 + years) 1 day in
    let first : has_begun 1970 1 day ≡ true = le-leb epoch (epoch + day) (omega arith) in
    let begun = last_passing-passes 291 passes first in (
      last_passing 291 passes,
      refl,
      last_passing-le 291 passes,
      (leb-true _ _ begun, ends (last_passing 291 passes) (last_passing-le 291 passes) (last_passing-next 291 passes)),
    )
  where
    last : day_count (pos 2261) 1 1 ≡ 4_478_239
    last = day_count-early (pos 2261) 12260 1 1 refl (omega arith) (omega arith) (omega arith)

    ends : (j : ℕ) → j ≤ 291 → (j < 291 → has_begun (1970 + suc j) 1 day ≡ false) → epoch + day < day_count (pos (1970 + j)) 1 1 + days_in_year (pos (1970 + j))
    ends j le next = by (cases_lt j 291)
      where
        by : ((j < 291) ⊎ (291 ≤ j)) → epoch + day < day_count (pos (1970 + j)) 1 1 + days_in_year (pos (1970 + j))
        by (inl lt) =
            let later = leb-lt _ _ (next lt) in
            let year = day_count-next_year (pos (1970 + j)) (pos (1970 + suc j)) (omega (arith, signed_arith)) (omega (arith, signed_arith)) in
            omega (arith, later, year)
        by (inr ge) =
            let same : 291 ≡ j = omega arith in
            let there : epoch + day < day_count (pos 2261) 1 1 + 365 = omega (arith, last, day_count-epoch, high) in
            subst (λ n. epoch + day < day_count (pos (1970 + n)) 1 1 + days_in_year (pos (1970 + n))) same there

-- so has the month
month_fact : (day y : ℕ) → year_of day ≡ y → Within (day_count (pos y) 1 1) (days_in_year (pos y)) day
    → (k : ℕ) × (month_of day ≡ 1 + k) × (k ≤ 11) × Within (day_count (pos y) (1 + k) 1) (days_in_month (pos y) (1 + k)) day
unfolding month_of
month_fact day y year within =
    let passes = λ (months : ℕ). has_begun y (1 + months) day in
    let first : has_begun y 1 day ≡ true = le-leb _ _ within.0 in
    let begun = last_passing-passes 11 passes first in (
      last_passing 11 passes,
      ap (λ n. 1 + last_passing 11 (λ months. has_begun n (1 + months) day)) year,
      last_passing-le 11 passes,
      (leb-true _ _ begun, ends (last_passing 11 passes) (last_passing-le 11 passes) (last_passing-next 11 passes)),
    )
  where
    ends : (k : ℕ) → k ≤ 11 → (k < 11 → has_begun y (1 + suc k) day ≡ false) → epoch + day < day_count (pos y) (1 + k) 1 + days_in_month (pos y) (1 + k)
    ends k le next = by (cases_lt k 11)
      where
        by : ((k < 11) ⊎ (11 ≤ k)) → epoch + day < day_count (pos y) (1 + k) 1 + days_in_month (pos y) (1 + k)
        by (inl lt) =
            let later = leb-lt _ _ (next lt) in
            let month = day_count-next_month (pos y) (1 + k) (omega arith) in
            let same : 1 + k + 1 ≡ 1 + suc k = omega arith in
            let there = subst (λ n. day_count (pos y) n 1 ≡ day_count (pos y) (1 + k) 1 + days_in_month (pos y) (1 + k)) same month in
            omega (arith, later, there)
        by (inr ge) =
            let same : 11 ≡ k = omega arith in
            let last = day_count-last_of_year (pos y) in
            let whole = day_count-day (pos y) 12 1 31 (omega arith) (omega arith) in
            let there : epoch + day < day_count (pos y) 12 1 + 31 = omega (arith, last, whole, within.1) in
            subst (λ n. epoch + day < day_count (pos y) (1 + n) 1 + days_in_month (pos y) (1 + n)) same there

all_true : (a b c d : Bool) → a ≡ true → b ≡ true → c ≡ true → d ≡ true → (a && b && c && d) ≡ true
all_true true b c d e f g h = ap (λ x. x && c && d) f ∙ ap (λ x. x && d) g ∙ h
all_true false b c d e f g h = e

date_fact : (day y m : ℕ) → 1 ≤ m → m ≤ 12 → year_of day ≡ y → month_of day ≡ m → Within (day_count (pos y) m 1) (days_in_month (pos y) m) day
    → (d : ℕ) × (day_of day ≡ d) × (d ≤ days_in_month (pos y) m) × (day_number y m d ≡ Some (pos day))
unfolding day_of
date_fact day y m low high year month within =
    let d = epoch + day + 1 - day_count (pos y) m 1 in
    let is : day_of day ≡ d = ap (λ n. epoch + day + 1 - day_count (pos n) (month_of day) 1) year ∙ ap (λ n. epoch + day + 1 - day_count (pos y) n 1) month in
    let one : 1 ≤ d = omega (arith, within.0) in
    let fits : d ≤ days_in_month (pos y) m = omega (arith, within.1) in
    let civil : is_date y m d ≡ true = all_true _ _ _ _ (le-leb 1 m low) (le-leb m 12 high) (le-leb 1 d one) (le-leb d (days_in_month (pos y) m) fits) in
    let same = day_count-day (pos y) m d 1 one (omega arith) in
    let count : day_count (pos y) m d ≡ epoch + day = omega (arith, same, within.0) in
    let from = days_from_civil-day_count (pos y) m d in
    let number : days_from_civil (pos y) m d ≡ pos day = omega (arith, signed_arith, from, count, day_count-epoch) in
    (d, is, fits, ap (λ b. cond b (Some (days_from_civil (pos y) m d)) None) civil ∙ ap (λ z. Some z) number)

-- the date that is written of a day number has that day number
pub written_date : (day : ℕ) → day ≤ 106_650 → (year_of day < 10_000) × (month_of day < 100) × (day_of day < 100) × (day_number (year_of day) (month_of day) (day_of day) ≡ Some (pos day))
written_date day high =
    let y = year_fact day high in
    let m = month_fact day (1970 + y.0) y.1 y.3 in
    let d = date_fact day (1970 + y.0) (1 + m.0) (omega arith) (omega (arith, m.2)) y.1 m.1 m.3 in
    let few : d.0 ≤ 31 = month_end (1970 + y.0) (1 + m.0) d.0 d.2 in (
      omega (arith, y.1, y.2),
      omega (arith, m.1, m.2),
      omega (arith, d.1, few),
      ap (λ n. day_number n (month_of day) (day_of day)) y.1 ∙ ap (λ n. day_number (1970 + y.0) n (day_of day)) m.1 ∙ ap (λ n. day_number (1970 + y.0) (1 + m.0) n) d.1 ∙ d.3,
    )
  where
    month_end : (y m d : ℕ) → d ≤ days_in_month (pos y) m → d ≤ 31
    month_end y m d le = omega (arith, (days_in_month_bounds (pos y) m).0)
