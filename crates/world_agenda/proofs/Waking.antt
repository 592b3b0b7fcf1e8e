-- The beat at which a process is woken by a reading or a time of day.
use Rattle.std.proofs.Common.{◌≡◌, ◌⊎◌, ℕ, ◌+◌, ◌*◌, ◌/◌, ◌<◌, ◌≤◌, ◌&&◌, ◌||◌, max, nat_lt, Bool, true, false, ℤ, pos, negsuc, Option, Some, None, refl, sym, ap, ◌∙◌, subst, inl, inr, arith}
use Rattle.std.proofs.Math.Nat.{div-mul-le_self}
use Rattle.std.proofs.lemmas.Bool.{cases_lt, lt-ltb}
use Rattle.std.proofs.lemmas.Bool.Decides.{nat_tests}
use Rattle.std.proofs.lemmas.Nat.{le-div}
use Rattle.kube_base.specs.declared.numbers.Beat.{Beat}
use Rattle.kube_base.specs.declared.numbers.Local.{Local}
use Rattle.kube_objects.specs.Clocks.{local, wall}
use Rattle.kube_objects.specs.Document.{Doc, end_beat}
use Rattle.history_laws.proofs.Plainly.{none_is, some_is}
use Rattle.agenda_laws.specs.Times.{is_early, sooner}
use Rattle.skew_clock.specs.Clocking.{Clocking, reading, moved, wall_of, IsFirst}
use Rattle.skew_clock.proofs.Readings.{reading-monotone}
use Rattle.world_process.specs.Clocked.{ClockStands}
use Rattle.world_process.proofs.Readings.{reading-local, wall-when}
use Rattle.world_core.specs.declared.wakes.Wakes.{Wakes}
use Rattle.world_core.specs.Waits.{IsTurnBeat, beat_of, local_of, reading_of, room_of}
use Rattle.world_core.proofs.Awake.{early-sooner, sooner-within}
use Rattle.world_agenda.specs.Woken.{IsDeleteBeat, IsTimeBeat, IsWoken}

-- ---- times of day

moved-monotone : (offset : ℤ) (a b : ℕ) → a ≤ b → moved offset a ≤ moved offset b
moved-monotone (pos micros) a b most = omega (arith, most)
moved-monotone (negsuc micros) a b most = omega (arith, most)

wall-monotone : (c : Clocking) (j k : ℕ) → j ≤ k → wall_of c j ≤ wall_of c k
wall-monotone c j k most =
    let low = reading c j in
    let high = reading c k in
    let fits : low / 1000000 * 1000000 ≤ high = omega (arith, div-mul-le_self low 1000000, reading-monotone c j k most) in
    let whole : low / 1000000 ≤ high / 1000000 = le-div (low / 1000000) high 1000000 (omega arith) fits in
    moved-monotone c.offset (c.epoch + low / 1000000) (c.epoch + high / 1000000) (omega (arith, whole))

time-early : (c : Clocking) (at micros b : ℕ) → IsFirst (wall_of c) c.end micros b → micros ≤ at → at ≤ wall_of c b → (j : ℕ) → nat_lt j b ≡ nat_lt (wall_of c j) at
time-early c at micros b first most reached j = by_order (cases_lt j b)
  where
    by_order : (j < b) ⊎ (b ≤ j) → nat_lt j b ≡ nat_lt (wall_of c j) at
    by_order (inl less) =
        let before : wall_of c j < at = omega (arith, first.before j less, most) in
        let one : nat_lt j b ≡ true = grind (arith, nat_tests) in
        let two : nat_lt (wall_of c j) at ≡ true = grind (arith, nat_tests) in
        one ∙ sym two
    by_order (inr after) =
        let later : at ≤ wall_of c j = omega (arith, wall-monotone c b j after, reached) in
        let one : nat_lt j b ≡ false = grind (arith, nat_tests) in
        let two : nat_lt (wall_of c j) at ≡ false = grind (arith, nat_tests) in
        one ∙ sym two

pub time-reached : (c : Clocking) (at micros : ℕ) (b : Beat) → IsFirst (wall_of c) c.end micros b.0 → micros ≤ at → at ≤ wall_of c b.0 → IsTimeBeat c (Some at) (Some b)
time-reached c at micros b first most reached =
    record {
      reached = λ j within. time-early c at micros b.0 first most reached j;
      within = λ n is. subst (λ m. m ≤ c.end) (some_is b.0 n is) first.within;
    }

wall-is : (doc : Doc) (p j : ℕ) (c : Clocking) → ClockStands doc p c → wall_of c j ≡ wall doc p j
wall-is doc p j c s = wall-when doc p j (reading c j) c s (reading-local doc p j c s)

-- ---- a time of day that counts from a reading on

or-true : (b : Bool) → (b || true) ≡ true
or-true true = refl
or-true false = refl

or-false : (b : Bool) → (b || false) ≡ b
or-false true = refl
or-false false = refl

not-before-first : (now : ℕ) → nat_lt now 0 ≡ false
not-before-first now = grind (arith, nat_tests)

lt-max : (j a b : ℕ) → nat_lt j (max a b) ≡ (nat_lt j a || nat_lt j b)
lt-max j a b = by_tests (nat_lt j a) (nat_lt j b) refl refl
  where
    by_tests : (x y : Bool) → nat_lt j a ≡ x → nat_lt j b ≡ y → nat_lt j (max a b) ≡ (x || y)
    by_tests true true one other = grind (arith, nat_tests)
    by_tests true false one other = grind (arith, nat_tests)
    by_tests false true one other = grind (arith, nat_tests)
    by_tests false false one other = grind (arith, nat_tests)

first-early : (c : Clocking) (at b : ℕ) → IsFirst (reading c) c.end at b → (j : ℕ) → nat_lt j b ≡ nat_lt (reading c j) at
first-early c at b first j = by_order (cases_lt j b)
  where
    by_order : (j < b) ⊎ (b ≤ j) → nat_lt j b ≡ nat_lt (reading c j) at
    by_order (inl less) = lt-ltb j b less ∙ sym (lt-ltb (reading c j) at (first.before j less))
    by_order (inr after) =
        let later : at ≤ reading c j = omega (arith, reading-monotone c b j after, first.reached) in
        let one : nat_lt j b ≡ false = grind (arith, nat_tests) in
        let two : nat_lt (reading c j) at ≡ false = grind (arith, nat_tests) in
        one ∙ sym two

module _ (c : Clocking) (w : Wakes) where
  abbrev shown : ℕ → Bool
  shown j = is_early (wall_of c j) w.wall

  -- by what is waited for as a reading
  abbrev read : ℕ → Option Local → Bool
  read j o = shown j || is_early (reading c j) (local_of o)

  pub never-timed : IsTimeBeat c w.wall None → IsDeleteBeat c w None
  never-timed t = record { reached = λ j within. ap (λ b. b || is_early (reading c j) (room_of w)) (t.reached j within); within = λ n is. absurd (none_is n is) }

  pub never-allowed : w.room ≡ None → IsDeleteBeat c w None
  never-allowed is = record { reached = λ j within. sym (ap (read j) is ∙ or-true (shown j)); within = λ n at. absurd (none_is n at) }

  pub allowed-first : (time : Beat) (room : Local) → IsTimeBeat c w.wall (Some time) → w.room ≡ Some room → room.0 ≡ 0 → IsDeleteBeat c w (Some time)
  allowed-first time room t is zero =
      record {
        reached = λ j within.
            t.reached j within
            ∙ sym (ap (read j) is ∙ ap (λ n. shown j || nat_lt (reading c j) n) zero ∙ ap (λ b. shown j || b) (not-before-first (reading c j)) ∙ or-false (shown j));
        within = t.within;
      }

  pub allowed-late : (room : Local) → w.room ≡ Some room → ((k : ℕ) → k ≤ c.end → reading c k < room.0) → IsDeleteBeat c w None
  allowed-late room is late =
      record {
        reached = λ j within. sym (ap (read j) is ∙ ap (λ b. shown j || b) (lt-ltb (reading c j) room.0 (late j within)) ∙ or-true (shown j));
        within = λ n at. absurd (none_is n at);
      }

  pub allowed-from : (time there both : Beat) (room : Local) → IsTimeBeat c w.wall (Some time) → w.room ≡ Some room → IsFirst (reading c) c.end room.0 there.0 → both.0 ≡ max time.0 there.0 → IsDeleteBeat c w (Some both)
  allowed-from time there both room t is first later =
      record {
        reached = λ j within.
            ap (nat_lt j) later
            ∙ lt-max j time.0 there.0
            ∙ ap (λ b. b || nat_lt j there.0) (t.reached j within)
            ∙ ap (λ b. shown j || b) (first-early c room.0 there.0 first j)
            ∙ sym (ap (read j) is);
        within = λ n at.
            let same = some_is both.0 n at in
            let one = t.within time.0 refl in
            let other = first.within in
            omega (arith, same, later, one, other);
      }

-- ---- both

pub woken-both : (doc : Doc) (p : ℕ) (w : Wakes) (c : Clocking) (turn time both : Option Beat) → IsTurnBeat doc p w turn → IsDeleteBeat c w time → ClockStands doc p c
    → c.end ≡ end_beat doc → beat_of both ≡ sooner (beat_of turn) (beat_of time) → IsWoken doc p w both
woken-both doc p w c turn time both t d s ends is =
    record {
      reached = λ j within.
          ap (is_early j) is
          ∙ early-sooner j (beat_of turn) (beat_of time)
          ∙ ap (λ b. b && is_early j (beat_of time)) (t.reached j within)
          ∙ ap (λ b. is_early (local doc p j) (reading_of w) && b)
          (d.reached j (omega (arith, within, ends))
          ∙ ap (λ n. is_early n w.wall || is_early (reading c j) (room_of w)) (wall-is doc p j c s)
          ∙ ap (λ n. is_early (wall doc p j) w.wall || is_early n (room_of w)) (reading-local doc p j c s));
      within = λ n at. sooner-within (end_beat doc) (beat_of turn) (beat_of time) t.within (λ m same. omega (arith, d.within m same, ends)) n (sym is ∙ at);
    }
