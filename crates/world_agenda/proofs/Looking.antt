-- The processes are gone through, and the soonest beat is kept.
use Rattle.std.proofs.Common.{◌≡◌, ◌⊎◌, ℕ, suc, ◌+◌, ◌<◌, ◌≤◌, ◌==◌, ◌&&◌, ◌||◌, nat_lt, not, min, max, Bool, true, false, List, Option, Some, None, refl, sym, ap, ◌∙◌, subst, inl, inr, ⊎_elim, arith}
use Rattle.std.proofs.lemmas.Bool.{cases_lt, eqb-true, ltb-true}
use Rattle.std.proofs.lemmas.Bool.Decides.{nat_tests}
use Rattle.kube_base.specs.declared.numbers.Beat.{Beat}
use Rattle.kube_objects.specs.Clocks.{local, wall}
use Rattle.kube_objects.specs.Document.{Doc, processes, end_beat, is_controller, is_up_first}
use Rattle.kube_objects.specs.Entry.{Entry}
use Rattle.kube_objects.specs.Pauses.{is_paused}
use Rattle.kube_objects.specs.Stalls.{is_stalled}
use Rattle.history.specs.History.{history}
use Rattle.history.specs.Sound.{AreApart}
use Rattle.history_laws.proofs.Plainly.{some_is, true_is, not_true, and_left, and_right, and_both}
use Rattle.agenda_laws.specs.Ahead.{IsAhead, IsSilent, IsNextStart, IsNextEvent, IsNextMessage, IsNextBelow, IsNextBeat, NoTurnsAreFirst, TurnsAreAdded}
use Rattle.agenda_laws.specs.Standing.{StandsAt}
use Rattle.agenda_laws.specs.Times.{is_early, sooner}
use Rattle.agenda_laws.specs.Waking.{AreAsleep, IsAsleep, NextBeatsWake, acts_as, turn_wakes, wakes_of, wakes_while}
use Rattle.world_process.specs.Beats.{own_reading_as}
use Rattle.world_core.specs.declared.wakes.Wakes.{Wakes}
use Rattle.world_core.specs.Waits.{TurnWakesStand, WakesStand, beat_of, reading_of, room_of, starts_now}
use Rattle.world_agenda.specs.Woken.{IsDue, IsGoing, IsLooked, IsNextDue, IsStalledFrom, IsWithTurn, IsWoken, OnlyTurns, goes_now, is_barred, is_going, not_before, resumed}
use Rattle.world_agenda.proofs.Acting.{acting_wakes, nobody_acts_first}
use Rattle.world_agenda.proofs.Resuming.{one-of, turns_go, turns_resume}

-- ---- not before a beat

since-early : (k j : ℕ) (b : Option ℕ) → k ≤ j → is_early j (not_before k b) ≡ is_early j b
since-early k j None from = refl
since-early k j (Some n) from = by_order (cases_lt j n)
  where
    by_order : (j < n) ⊎ (n ≤ j) → nat_lt j (max k n) ≡ nat_lt j n
    by_order (inl less) =
        let one : nat_lt j n ≡ true = grind (arith, nat_tests) in
        let two : nat_lt j (max k n) ≡ true = grind (arith, nat_tests) in
        two ∙ sym one
    by_order (inr after) =
        let one : nat_lt j n ≡ false = grind (arith, nat_tests) in
        let two : nat_lt j (max k n) ≡ false = grind (arith, nat_tests) in
        two ∙ sym one

none_some : (n : ℕ) → None ≡ Some n → ⊥
none_some n same = cc

since-ahead : (doc : Doc) (k : ℕ) (b : Option ℕ) → k ≤ end_beat doc → ((n : ℕ) → b ≡ Some n → n ≤ end_beat doc) → (n : ℕ) → not_before k b ≡ Some n → IsAhead doc k n
since-ahead doc k None from within n is = absurd (none_some n is)
since-ahead doc k (Some m) from within n is =
    let e = some_is (max k m) n is in
    let most = within m refl in
    let least : k ≤ n = omega (arith, e) in
    let fits : n ≤ end_beat doc = omega (arith, e, most, from) in
    record { from = least; within = fits }

-- ---- one process

-- what is there at once
pub due-now : (doc : Doc) (k p : ℕ) (w : Wakes) (at : Beat) → k ≤ end_beat doc → w.at_once ≡ true → at.0 ≡ k → IsDue doc k p w (Some at)
due-now doc k p w at start now is =
    record {
      reached = λ j from within.
          let late : nat_lt j at.0 ≡ false = grind (arith, nat_tests) in
          late ∙ sym (ap (λ b. not b && (is_early (local doc p j) (reading_of w) && is_barred doc j p w)) now);
      ahead = λ n some.
          let same = some_is at.0 n some in
          let least : k ≤ n = omega (arith, is, same) in
          let fits : n ≤ end_beat doc = omega (arith, is, same, start) in
          record { from = least; within = fits };
    }

-- what a reading or a time of day is waited for
pub due-later : (doc : Doc) (k p : ℕ) (w : Wakes) (b due : Option Beat) → k ≤ end_beat doc → w.at_once ≡ false → IsWoken doc p w b → beat_of due ≡ not_before k (beat_of b) → IsDue doc k p w due
due-later doc k p w b due start calm woken is =
    record {
      reached = λ j from within.
          ap (is_early j) is ∙ since-early k j (beat_of b) from ∙ woken.reached j within
          ∙ sym (ap (λ c. not c && (is_early (local doc p j) (reading_of w) && is_barred doc j p w)) calm);
      ahead = λ n some. since-ahead doc k (beat_of b) start woken.within n (sym is ∙ some);
    }

or-none : (a b : Bool) → (a || b) ≡ false → a ≡ false
or-none true b is = is
or-none false b is = refl

or-some : (a b : Bool) → (a || b) ≡ true → (a ≡ true) ⊎ (b ≡ true)
or-some true b is = inl refl
or-some false b is = inr is

-- something of the process's is due exactly where its turn, were it not paused, would add something
pub next-due : (doc : Doc) (k p : ℕ) (h : List Entry) (w : Wakes) (due : Option Beat) → starts_now doc k p ≡ false → WakesStand doc k p h w → IsDue doc k p w due → IsNextDue doc k p (wakes_of doc p h) (beat_of due)
next-due doc k p h w due idle s d =
    record {
      quiet = λ j from within early.
          let all = sym (d.reached j from within) ∙ early in
          let both = and_right (not w.at_once) (is_early (local doc p j) (reading_of w) && is_barred doc j p w) all in
          (s.asleep idle j from within).0
          (record {
            at_once = not_true w.at_once (and_left (not w.at_once) (is_early (local doc p j) (reading_of w) && is_barred doc j p w) all);
            local = and_left (is_early (local doc p j) (reading_of w)) (is_barred doc j p w) both;
            wall = and_right (is_early (local doc p j) (reading_of w)) (is_barred doc j p w) both;
          });
      there = λ j from within late asleep.
          let by = (s.asleep idle j from within).1 asleep in
          let calm : not w.at_once ≡ true = ap not by.at_once in
          let both = and_both (is_early (local doc p j) (reading_of w)) (is_barred doc j p w) by.local by.wall in
          true_is
          (sym (and_both (not w.at_once) (is_early (local doc p j) (reading_of w) && is_barred doc j p w) calm both)
          ∙ (sym (d.reached j from within) ∙ late));
      ahead = d.ahead;
    }

-- who does nothing at once doesn't start now
pub idle-one : (doc : Doc) (k p : ℕ) (h : List Entry) (w : Wakes) → WakesStand doc k p h w → goes_now doc k p w ≡ false → starts_now doc k p ≡ false
idle-one doc k p h w s stays = by_wake w.at_once refl stays
  where
    by_wake : (b : Bool) → w.at_once ≡ b → (b && ((k == 0) || is_going doc k p)) ≡ false → starts_now doc k p ≡ false
    by_wake true is stays = ap (λ b. b && is_up_first doc p) (or-none (k == 0) (is_going doc k p) stays)
    by_wake false is stays = or-none (starts_now doc k p) (acts_as doc k p (is_controller doc p) h) (sym s.at_once ∙ is)

-- ---- all below a process

pub looked-first : (doc : Doc) (k : ℕ) (h : List Entry) (event message both : Option Beat) → NoTurnsAreFirst → IsNextEvent doc k (beat_of event) → IsNextMessage doc k h (beat_of message)
    → beat_of both ≡ sooner (beat_of event) (beat_of message) → IsLooked doc k 0 h both
looked-first doc k h event message both law e m is =
    record {
      idle = λ i less. absurd (omega (arith, less));
      below = λ idle.
          let starts : IsNextStart doc k None = record { quiet = λ j from early zero p less. first_idle j p from zero (idle p less); there = λ n some. absurd (none_some n some) } in
          subst (IsNextBelow doc k 0 h) (sym is) (law doc k h None (beat_of event) (beat_of message) starts e m);
    }
  where
    first_idle : (j p : ℕ) → k ≤ j → j ≡ 0 → starts_now doc k p ≡ false → is_up_first doc p ≡ false
    first_idle j p from zero idle =
        let at : (k == 0) ≡ true = grind (arith, nat_tests) in
        sym (ap (λ b. b && is_up_first doc p) at) ∙ idle

-- the sooner of a beat and the one at which the process goes on, where the store goes then
pub with-turn : (doc : Doc) (k p : ℕ) (h : List Entry) (w : Wakes) (next due both : Option Beat) → AreApart doc.events → starts_now doc k p ≡ false → WakesStand doc k p h w → IsDue doc k p w due
    → IsStalledFrom doc p (beat_of due) None → beat_of both ≡ sooner (beat_of next) (resumed doc p (beat_of due)) → IsWithTurn doc k p h (beat_of next) (beat_of both)
with-turn doc k p h w next due both apart idle s d goes is =
    record { turn = resumed doc p (beat_of due); first = turns_resume doc k p h (beat_of due) apart (next-due doc k p h w due idle s d) (goes.none refl); sooner = is }

turn-asleep : (doc : Doc) (j p : ℕ) (b : Bool) (h : List Entry) → is_early (local doc p j) (own_reading_as doc p b h) ≡ true → IsAsleep doc j p (turn_wakes doc p b h)
turn-asleep doc j p true h early = record { at_once = refl; local = early; wall = refl }
turn-asleep doc j p false h early = record { at_once = refl; local = early; wall = refl }

asleep-turn : (doc : Doc) (j p : ℕ) (b : Bool) (h : List Entry) → IsAsleep doc j p (turn_wakes doc p b h) → is_early (local doc p j) (own_reading_as doc p b h) ≡ true
asleep-turn doc j p true h asleep = asleep.local
asleep-turn doc j p false h asleep = asleep.local

turn-due : (doc : Doc) (k p : ℕ) (h : List Entry) (w : Wakes) (due : Option Beat) → TurnWakesStand doc p h w → IsDue doc k p w due → IsNextDue doc k p (turn_wakes doc p (is_controller doc p) h) (beat_of due)
turn-due doc k p h w due t d =
    record {
      quiet = λ j from within early.
          let all = sym (d.reached j from within) ∙ early in
          let both = and_right (not w.at_once) (is_early (local doc p j) (reading_of w) && is_barred doc j p w) all in
          let own = and_left (is_early (local doc p j) (reading_of w)) (is_barred doc j p w) both in
          turn-asleep doc j p (is_controller doc p) h (ap (is_early (local doc p j)) (sym t.reading) ∙ own);
      there = λ j from within late asleep.
          let own : is_early (local doc p j) (reading_of w) ≡ true = ap (is_early (local doc p j)) t.reading ∙ asleep-turn doc j p (is_controller doc p) h asleep in
          let both = and_both (is_early (local doc p j) (reading_of w)) (is_barred doc j p w) own (ap (λ o. is_early (wall doc p j) o || is_early (local doc p j) (room_of w)) t.time) in
          true_is
          (sym (and_both (not w.at_once) (is_early (local doc p j) (reading_of w) && is_barred doc j p w) (ap not t.at_once) both)
          ∙ (sym (d.reached j from within) ∙ late));
      ahead = d.ahead;
    }

sooner-first : (a b c : Option ℕ) → sooner (sooner a b) c ≡ sooner a (sooner b c)
sooner-first None b c = refl
sooner-first (Some a) None c = refl
sooner-first (Some a) (Some b) None = refl
sooner-first (Some a) (Some b) (Some c) = let same : min (min a b) c ≡ min a (min b c) = omega arith in ap (λ (n : ℕ). Some n) same

-- and where the store stands still then
pub with-stalled : (doc : Doc) (k p : ℕ) (h : List Entry) (w : Wakes) (due : Option ℕ) (next turn mid going both : Option Beat) (from : ℕ) → AreApart doc.events → IsNextDue doc k p (wakes_of doc p h) due → resumed doc p due ≡ Some from
    → TurnWakesStand doc p h w → IsDue doc k p w turn → beat_of mid ≡ sooner (beat_of next) (resumed doc p (beat_of turn)) → IsGoing doc p from (beat_of going) → beat_of both ≡ sooner (beat_of mid) (beat_of going)
    → IsWithTurn doc k p h (beat_of next) (beat_of both)
with-stalled doc k p h w due next turn mid going both from apart d some t own mid_is g is =
    record {
      turn = sooner (resumed doc p (beat_of turn)) (beat_of going);
      first = turns_go doc k p h due apart d (beat_of turn) (beat_of going) from (turn-due doc k p h w turn t own) some g;
      sooner = is ∙ ap (λ o. sooner o (beat_of going)) mid_is ∙ sooner-first (beat_of next) (resumed doc p (beat_of turn)) (beat_of going);
    }

pub turn-added : (doc : Doc) (k p : ℕ) (h : List Entry) (next both : Option ℕ) → TurnsAreAdded → p < processes doc → IsNextBelow doc k p h next → IsWithTurn doc k p h next both → IsNextBelow doc k (p + 1) h both
turn-added doc k p h next both law inside below t =
    let more = law doc k p h next t.turn inside below t.first in
    let count : suc p ≡ p + 1 = omega arith in
    subst (λ n. IsNextBelow doc k n h both) count (subst (IsNextBelow doc k (suc p) h) (sym t.sooner) more)

pub looked-next : (doc : Doc) (k p : ℕ) (h : List Entry) (next both : Option Beat) → TurnsAreAdded → p < processes doc → IsLooked doc k p h next → starts_now doc k p ≡ false → IsWithTurn doc k p h (beat_of next) (beat_of both)
    → IsLooked doc k (p + 1) h both
looked-next doc k p h next both law inside looked calm t =
    record {
      idle = λ i less. by_place i less (cases_lt i p);
      below = λ idle. turn-added doc k p h (beat_of next) (beat_of both) law inside (looked.below idle) t;
    }
  where
    by_place : (i : ℕ) → i < p + 1 → (i < p) ⊎ (p ≤ i) → starts_now doc k i ≡ false
    by_place i less (inl before) = looked.idle i before
    by_place i less (inr after) = let same : p ≡ i = omega (arith, less, after) in subst (λ n. starts_now doc k n ≡ false) same calm

-- those that are asked one by one, where nobody of the others starts
pub looked-each : (doc : Doc) (k asked p : ℕ) (h : List Entry) (next : Option Beat) → p ≡ asked → OnlyTurns doc k asked → IsLooked doc k p h next → IsNextBelow doc k asked h (beat_of next)
looked-each doc k asked p h next all others looked = subst (λ n. IsNextBelow doc k n h (beat_of next)) all (looked.below (λ i less. by_place i less (cases_lt i p)))
  where
    by_place : (i : ℕ) → i < processes doc → (i < p) ⊎ (p ≤ i) → starts_now doc k i ≡ false
    by_place i less (inl before) = looked.idle i before
    by_place i less (inr after) = others.idle i (omega (arith, all, after)) less

-- ---- somebody does something at once

pub at-once : (doc : Doc) → (k p : ℕ) (w : Wakes) (at : Beat) → NextBeatsWake → k ≤ end_beat doc → p < processes doc → WakesStand doc k p (history doc k) w → goes_now doc k p w ≡ true → at.0 ≡ k
    → IsNextBeat doc k (beat_of (Some at))
at-once doc k p w at wakes start inside s goes now =
    record {
      quiet = λ j from within early stands. let less = ltb-true j at.0 early in omega (arith, less, now, from);
      there = λ n is.
          let same : k ≡ n = sym now ∙ some_is at.0 n is in
          let stands = ((wakes doc k k (omega arith) start (λ j from less. absurd (omega (arith, from, less)))).1.1 awake) in
          subst (λ m. IsAhead doc k m × StandsAt doc m) same (record { from = omega arith; within = start }, stands);
    }
  where
    acts_in : (k ≡ 0) → acts_as doc k p (is_controller doc p) (history doc k) ≡ true → ⊥
    acts_in zero acts = true_is (sym acts ∙ subst (λ n. acts_as doc k p (is_controller doc p) (history doc n) ≡ false) (sym zero) (nobody_acts_first doc k p))

    by_time : AreAsleep doc k (history doc k) → acts_as doc k p (is_controller doc p) (history doc k) ≡ true → ((k == 0) ≡ true) ⊎ (is_going doc k p ≡ true) → ⊥
    by_time asleep acts (inl zero) = acts_in (eqb-true k 0 zero) acts
    by_time asleep acts (inr going) =
        let stands = not_true (is_stalled doc k) (and_right (not (is_paused doc p k)) (not (is_stalled doc k)) going) in
        ⊎_elim
        (λ paused. true_is (sym paused ∙ not_true (is_paused doc p k) (and_left (not (is_paused doc p k)) (not (is_stalled doc k)) going)))
        (λ sleeps. acting_wakes doc k k p (history doc k) acts (subst (λ b. IsAsleep doc k p (wakes_while b doc p (is_controller doc p) (history doc k))) stands sleeps))
        (asleep.turns p inside)

    by_cause : AreAsleep doc k (history doc k) → (starts_now doc k p ≡ true) ⊎ (acts_as doc k p (is_controller doc p) (history doc k) ≡ true) → ⊥
    by_cause asleep (inl starts) =
        true_is (sym (and_right (k == 0) (is_up_first doc p) starts) ∙ asleep.events.starts (eqb-true k 0 (and_left (k == 0) (is_up_first doc p) starts)) p inside)
    by_cause asleep (inr acts) = by_time asleep acts (or-some (k == 0) (is_going doc k p) (and_right w.at_once ((k == 0) || is_going doc k p) goes))

    awake : ¬ AreAsleep doc k (history doc k)
    awake asleep =
        by_cause asleep
        (or-some (starts_now doc k p) (acts_as doc k p (is_controller doc p) (history doc k))
        (sym s.at_once ∙ and_left w.at_once ((k == 0) || is_going doc k p) goes))

-- ---- an event or a message is there

early-later : (k j : ℕ) (b : Option ℕ) → k ≤ j → is_early k b ≡ false → is_early j b ≡ true → ⊥
early-later k j None from late early = true_is late
early-later k j (Some n) from late early = let less = ltb-true j n early in let more : n ≤ k = grind (arith, nat_tests) in omega (arith, from, less, more)

pub late-at : (k n : ℕ) (b : Option ℕ) (r : Bool) → r ≡ not (is_early n b) → r ≡ true → n ≡ k → is_early k b ≡ false
late-at k n b r is holds at = subst (λ m. is_early m b ≡ false) at (not_true (is_early n b) (sym is ∙ holds))

pub there-now : (doc : Doc) → (k : ℕ) (event message both : Option Beat) → NextBeatsWake → k ≤ end_beat doc → IsNextEvent doc k (beat_of event) → IsNextMessage doc k (history doc k) (beat_of message)
    → beat_of both ≡ sooner (beat_of event) (beat_of message) → is_early k (beat_of both) ≡ false → IsNextBeat doc k (beat_of both)
there-now doc k event message both wakes start e m is late =
    record {
      quiet = λ j from within early stands. early-later k j (beat_of both) from late early;
      there = λ n some.
          let reached : is_early k (Some n) ≡ false = ap (is_early k) (sym some) ∙ late in
          let before : n ≤ k = grind (arith, nat_tests) in
          by_one n before (one-of (beat_of event) (beat_of message) n (sym is ∙ some));
    }
  where
    stands-at : (n : ℕ) → k ≡ n → ¬ AreAsleep doc k (history doc k) → IsAhead doc k n × StandsAt doc n
    stands-at n same awake =
        let stands = ((wakes doc k k (omega arith) start (λ j from less. absurd (omega (arith, from, less)))).1.1 awake) in
        subst (λ m. IsAhead doc k m × StandsAt doc m) same (record { from = omega arith; within = start }, stands)

    by_one : (n : ℕ) → n ≤ k → (beat_of event ≡ Some n) ⊎ (beat_of message ≡ Some n) → IsAhead doc k n × StandsAt doc n
    by_one n before (inl some) =
        let t = e.there n some in
        let from = t.0.from in
        let same : k ≡ n = omega (arith, before, from) in
        stands-at n same (λ asleep. let none = asleep.events.events t.1.0 t.1.1 in let at = t.1.2 in let here : (t.1.0.beat.0 == k) ≡ true = grind (arith, nat_tests) in true_is (sym here ∙ none))
    by_one n before (inr some) =
        let t = m.there n some in
        let from = t.0.from in
        let same : k ≡ n = omega (arith, before, from) in
        stands-at n same (λ asleep. t.1 (subst (λ j. IsSilent j (history doc k)) same (record { requests = asleep.requests; replies = asleep.replies })))
