-- A clock's time of day, in whole microseconds and seconds, beside its reading.
use Rattle.std.proofs.Common.{◌≤◌, ◌<◌, ℕ, ℤ, pos, negsuc, suc, ◌+◌, ◌*◌, ◌/◌, ⊎_elim, arith}
use Rattle.std.proofs.Math.Nat.{div-mul-le_self}
use Rattle.std.proofs.lemmas.Nat.{le-div}
use Rattle.std.proofs.lemmas.Bool.{cases_lt}
use Rattle.kube_objects.specs.Clocks.{local, moved, wall, whole_second}
use Rattle.kube_objects.specs.Document.{Doc, of_seconds, offset_millis}
use Rattle.outage_laws.specs.Gone.{IsMoved, IsDated}

-- a number is below the next multiple
floor_less : (n : ℕ) → n < (n / 1000000 + 1) * 1000000
floor_less n =
    ⊎_elim (λ less. less) (λ le. absurd (omega (arith, le-div (n / 1000000 + 1) n 1000000 (omega arith) le))) (cases_lt n ((n / 1000000 + 1) * 1000000))

pub whole_before : (at : ℕ) → whole_second at ≤ at
whole_before at = div-mul-le_self at 1000000

pub whole_after : (at : ℕ) → at < whole_second at + 1000000
whole_after at = omega (arith, floor_less at)

moved_more : (offset : ℤ) (epoch a b n : ℕ) → IsMoved offset epoch → a + n ≤ b → moved offset (epoch + a) + n ≤ moved offset (epoch + b)
moved_more (pos millis) epoch a b n is le = omega (arith, le)
moved_more (negsuc millis) epoch a b n is le = omega (arith, le, is)

-- so many seconds later by the reading, it is so many seconds later by the time of day
pub wall_later : (doc : Doc) (p t k seconds : ℕ) → IsDated doc p → local doc p t + of_seconds seconds ≤ local doc p k → wall doc p t + seconds * 1000000 ≤ wall doc p k
unfolding of_seconds
wall_later doc p t k seconds dated le =
    moved_more (offset_millis doc p) doc.settings.epoch.0 (local doc p t / 1000000) (local doc p k / 1000000) (seconds * 1000000) dated
    (le-div (local doc p t / 1000000 + seconds * 1000000) (local doc p k) 1000000 (omega arith) (omega (arith, le, div-mul-le_self (local doc p t) 1000000)))

moved_less : (offset : ℤ) (epoch a b n m : ℕ) → m < n → moved offset (epoch + a) + n ≤ moved offset (epoch + b) + m → a + n ≤ b + m
moved_less (pos millis) epoch a b n m lt le = omega (arith, le)
moved_less (negsuc millis) epoch a b n m lt le = omega (arith, le, lt)

-- where it is so much later than a whole second by the time of day, it is more than a second less later by the reading
pub reading_later : (doc : Doc) (p t k seconds : ℕ) → whole_second (wall doc p t) + suc seconds * 1000000 ≤ wall doc p k → local doc p t + (of_seconds seconds + 1) ≤ local doc p k
unfolding of_seconds
reading_later doc p t k seconds le =
    let micros : local doc p t / 1000000 + (suc seconds * 1000000 + 1) ≤ local doc p k / 1000000 + 1000000 =
    moved_less (offset_millis doc p) doc.settings.epoch.0 (local doc p t / 1000000) (local doc p k / 1000000) (suc seconds * 1000000 + 1) 1000000 (omega arith) (omega (arith, le, whole_after (wall doc p t))) in
    omega (arith, micros, floor_less (local doc p t), div-mul-le_self (local doc p k) 1000000)
