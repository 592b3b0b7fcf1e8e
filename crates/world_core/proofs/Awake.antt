-- Layer 4, the steps of a beat: what a process waits for, by what is kept of it and of its term.
use Rattle.std.proofs.Common.{◌≡◌, ◌↔◌, ℕ, ◌≤◌, ◌<◌, ◌==◌, ◌&&◌, ◌||◌, nat_lt, min, not, Bool, true, false, List, Option, Some, None, IfSome, option_map, refl, sym, ap, ◌∙◌, subst, arith}
use Rattle.std.specs.Prelude.{is_some}
use Rattle.std.specs.Option.{option_eq}
use Rattle.std.proofs.lemmas.Bool.Decides.{nat_tests}
use Rattle.kube_base.specs.declared.numbers.Beat.{Beat}
use Rattle.kube_base.specs.declared.numbers.Local.{Local}
use Rattle.kube_objects.specs.declared.rules.ReleaseRule.{ReleaseRule}
use Rattle.kube_objects.specs.declared.rules.ReleaseRule.TheVariants as rules
use Rattle.kube_objects.specs.Clocks.{local, wall}
use Rattle.kube_objects.specs.Document.{Doc, end_beat, is_controller, is_up_first}
use Rattle.kube_objects.specs.Elector.{in_term, deadline, is_before, acts_on, leads_on}
use Rattle.kube_objects.specs.Entry.{Entry, Identity}
use Rattle.kube_objects.specs.Identities.{identity}
use Rattle.kube_objects.specs.Newest.{has, only_if}
use Rattle.kube_objects.specs.Process.{alive, is_present, is_releasing}
use Rattle.agenda_laws.specs.Ticking.{is_due_at_once, room_at, sync_at, synced_reading, term_reading, term_time}
use Rattle.agenda_laws.specs.Times.{is_early, sooner, if_up, ends_at, elector_reading, kubelet_reading}
use Rattle.agenda_laws.specs.Waking as waking
use Rattle.agenda_laws.specs.Waking.{IsAsleep, acts_at_once, goes_on, leads_at_once, ticks_on, wakes_as, wakes_of}
use Rattle.agenda_laws.proofs.Between.{early_same, sooner_both}
use Rattle.agenda_laws.proofs.Times.{before_deadline}
use Rattle.controller_core.specs.Working.{kept}
use Rattle.skew_clock.specs.Clocking.{Clocking, reading}
use Rattle.skew_clock.proofs.Readings.{reading-monotone}
use Rattle.world_process.specs.Beats as beats
use Rattle.world_process.specs.Beats.{IsBeatOf, beat_in, own_reading, own_reading_as}
use Rattle.world_process.specs.Clocked.{ClockStands}
use Rattle.world_process.specs.declared.process.Process.{Process}
use Rattle.world_process.specs.declared.process.Process.TheVariants.{Controller, Kubelet}
use Rattle.world_process.specs.Processes.{ProcessStands, leads_now, leads_if_up, clock_of, is_up_first_as}
use Rattle.world_process.specs.Processes as processes
use Rattle.world_process.proofs.Names.{eq-self, eq-isnt, le-from}
use Rattle.world_process.proofs.Processes.{process-up_first}
use Rattle.world_process.proofs.Readings.{reading-local}
use Rattle.world_process.proofs.Times.{kept-same}
use Rattle.world_core.specs.declared.wakes.Wakes.{Wakes}
use Rattle.world_core.specs.Waits.{IsTurnBeat, WakesStand, acting_reading, acting_room, acting_time, allowed_at, beat_of, kept_reading, local_of, reading_at, reading_of, room_of, starts_now, time_at}
use Rattle.world_core.proofs.Ticking.{LeadsAs}

-- ---- beats and readings as numbers

pub beats-alike : (b : Option Beat) → beat_of b ≡ beat_in b
beats-alike None = refl
beats-alike (Some b) = refl

pub readings-alike : (at : Option Local) → local_of at ≡ beats.reading_of at
readings-alike None = refl
readings-alike (Some at) = refl

-- ---- the sooner of two

and-true : (b : Bool) → (b && true) ≡ b
and-true true = refl
and-true false = refl

lt-min : (now a b : ℕ) → nat_lt now (min a b) ≡ (nat_lt now a && nat_lt now b)
lt-min now a b = by_tests (nat_lt now a) (nat_lt now b) refl refl
  where
    by_tests : (x y : Bool) → nat_lt now a ≡ x → nat_lt now b ≡ y → nat_lt now (min a b) ≡ (x && y)
    by_tests true true one other = grind (arith, nat_tests)
    by_tests true false one other = grind (arith, nat_tests)
    by_tests false true one other = grind (arith, nat_tests)
    by_tests false false one other = grind (arith, nat_tests)

pub early-sooner : (now : ℕ) (a b : Option ℕ) → is_early now (sooner a b) ≡ (is_early now a && is_early now b)
early-sooner now None b = refl
early-sooner now (Some a) None = sym (and-true (nat_lt now a))
early-sooner now (Some a) (Some b) = lt-min now a b

sooner-alone : (a : Option ℕ) → sooner a None ≡ a
sooner-alone None = refl
sooner-alone (Some a) = refl

pub sooner-within : (most : ℕ) (a b : Option ℕ) → ((n : ℕ) → a ≡ Some n → n ≤ most) → ((n : ℕ) → b ≡ Some n → n ≤ most) → (n : ℕ) → sooner a b ≡ Some n → n ≤ most
sooner-within most None b one other n is = other n is
sooner-within most (Some a) None one other n is = one n is
sooner-within most (Some a) (Some b) one other n is =
    let same : min a b ≡ n = cc in
    let least = one a refl in
    omega (arith, same, least)

-- ---- a clock only goes on

pub local-later : (doc : Doc) (p k j : ℕ) (c : Clocking) → ClockStands doc p c → k ≤ j → local doc p k ≤ local doc p j
local-later doc p k j c s from =
    let later = reading-monotone c k j from in
    omega (arith, later, reading-local doc p k c s, reading-local doc p j c s)

-- and comes to no reading that can't be kept
local-fits : (doc : Doc) (p j : ℕ) (c : Clocking) → ClockStands doc p c → j ≤ end_beat doc → local doc p j < 18446744073709551615
local-fits doc p j c s within =
    let most : j ≤ c.end = omega (arith, within, s.end) in
    let later = reading-monotone c j c.end most in
    omega (arith, later, s.fits, reading-local doc p j c s)

-- ---- what is known of a process

pub its-clock : (doc : Doc) (p : ℕ) (h : List Entry) (x : Process) → ProcessStands doc p h x → ClockStands doc p (clock_of x)
its-clock doc p h (Controller c) s = s.clock
its-clock doc p h (Kubelet b) s = s.clock

pub starts-is : (doc : Doc) (k p : ℕ) (h : List Entry) (x : Process) → k ≡ 0 → is_up_first_as x ≡ true → ProcessStands doc p h x → starts_now doc k p ≡ true
starts-is doc k p h x zero up s = ap (λ n. (n == 0) && is_up_first doc p) zero ∙ sym (process-up_first doc p h x s) ∙ up

and-false : (b : Bool) → (b && false) ≡ false
and-false true = refl
and-false false = refl

pub down-is : (doc : Doc) (k p : ℕ) (h : List Entry) (x : Process) → is_up_first_as x ≡ false → ProcessStands doc p h x → starts_now doc k p ≡ false
down-is doc k p h x down s = ap (λ b. (k == 0) && b) (sym (process-up_first doc p h x s) ∙ down) ∙ and-false (k == 0)

pub begun-is : (doc : Doc) (k p : ℕ) → ¬ (k ≡ 0) → starts_now doc k p ≡ false
begun-is doc k p later = ap (λ b. b && is_up_first doc p) (eq-isnt k 0 later)

pub some-holds : {A : Type 0} (o : Option A) (P : Type 0) → is_some o ≡ true → IfSome o (λ x. P) → P
some-holds None P some holds = cc
some-holds (Some x) P some holds = holds

-- ---- who acts at beat k sleeps later as the history says

abbrev leads_at : Doc → ℕ → List Entry → Identity → Bool
leads_at doc k h q = leads_on doc.settings.rules.release doc q k h

module _ (doc : Doc) (k j p : ℕ) (h : List Entry) (later : local doc p k ≤ local doc p j) where
  -- what an incarnation that is up waits for, where led says that its term counts
  abbrev with_term : ℕ → Bool → waking.Wakes
  with_term i led =
      record {
        at_once = led && is_due_at_once doc (identity p i) h;
        local = sooner (elector_reading doc p h) (only_if led (term_reading doc (identity p i) h));
        wall = only_if led (term_time doc (identity p i) h);
        room = room_at doc (identity p i) h;
      }

  -- it acts exactly where its term goes on, or that is over by beat j
  data Reaches (acts goes : Bool) (over : Option ℕ) : Type 0 where
    Alike : acts ≡ goes → Reaches acts goes over
    Reached : is_early (local doc p j) over ≡ false → Reaches acts goes over

  term-before : (i : ℕ) → alive p h ≡ Some i → in_term doc (identity p i) k h ≡ is_before (local doc p k) (deadline doc (identity p i) h)
  term-before i up =
      ap (λ o. is_present o i && is_before (local doc p k) (deadline doc (identity p i) h)) up
      ∙ ap (λ b. b && is_before (local doc p k) (deadline doc (identity p i) h)) (eq-self i)

  term-reaches : (i : ℕ) → alive p h ≡ Some i → Reaches (in_term doc (identity p i) k h) (has (deadline doc (identity p i) h)) (deadline doc (identity p i) h)
  term-reaches i up = by_deadline (deadline doc (identity p i) h) (term-before i up)
    where
      by_time : (d : ℕ) → in_term doc (identity p i) k h ≡ nat_lt (local doc p k) d → (b : Bool) → nat_lt (local doc p k) d ≡ b → Reaches (in_term doc (identity p i) k h) true (Some d)
      by_time d is true before = Alike (is ∙ before)
      by_time d is false before =
          let least = le-from (local doc p k) d before in
          let past : nat_lt (local doc p j) d ≡ false = grind (arith, nat_tests) in
          Reached past

      by_deadline : (o : Option ℕ) → in_term doc (identity p i) k h ≡ is_before (local doc p k) o → Reaches (in_term doc (identity p i) k h) (has o) o
      by_deadline None is = Alike is
      by_deadline (Some d) is = by_time d is (nat_lt (local doc p k) d) refl

  -- where its release runs, whoever acts does so until that is over
  released-reaches : (i : ℕ) → alive p h ≡ Some i → (b : Bool)
      → Reaches (acts_on doc (identity p i) h || in_term doc (identity p i) k h && not b) (acts_on doc (identity p i) h || has (deadline doc (identity p i) h) && not b)
      (only_if (not b) (deadline doc (identity p i) h))
  released-reaches i up true =
      Alike (ap (λ x. acts_on doc (identity p i) h || x) (and-false (in_term doc (identity p i) k h) ∙ sym (and-false (has (deadline doc (identity p i) h)))))
  released-reaches i up false = by_case (term-reaches i up)
    where
      by_case : Reaches (in_term doc (identity p i) k h) (has (deadline doc (identity p i) h)) (deadline doc (identity p i) h)
          → Reaches (acts_on doc (identity p i) h || in_term doc (identity p i) k h && true) (acts_on doc (identity p i) h || has (deadline doc (identity p i) h) && true)
          (deadline doc (identity p i) h)
      by_case (Alike same) = Alike (ap (λ x. acts_on doc (identity p i) h || x && true) same)
      by_case (Reached past) = Reached past

  reaches : (rule : ReleaseRule) (i : ℕ) → alive p h ≡ Some i
      → Reaches (leads_on rule doc (identity p i) k h) (ticks_on rule doc (identity p i) h) (ends_at rule (is_releasing (identity p i) h) (deadline doc (identity p i) h))
  reaches rules.Stop i up = term-reaches i up
  reaches rules.Own i up = released-reaches i up (is_releasing (identity p i) h)
  reaches rules.Checked i up = released-reaches i up (is_releasing (identity p i) h)
  reaches rules.Reread i up = released-reaches i up (is_releasing (identity p i) h)

  abbrev ends : Identity → Option ℕ
  ends q = ends_at doc.settings.rules.release (is_releasing q h) (deadline doc q h)

  ended : (i : ℕ) → alive p h ≡ Some i → is_early (local doc p j) (ends (identity p i)) ≡ false → (led : Bool) → IsAsleep doc j p (with_term i led) → ⊥
  ended i up reached led s =
      let own = (sooner_both (local doc p j) (elector_reading doc p h) (only_if led (term_reading doc (identity p i) h)) s.local).0 in
      let early : is_early (local doc p j) (ends (identity p i)) ≡ true = sym (ap (λ o. is_early (local doc p j) (if_up p ends o)) up) ∙ before_deadline doc j p h own in
      cc

  up-same : (i : ℕ) → alive p h ≡ Some i → IsAsleep doc j p (with_term i (leads_at doc k h (identity p i))) ↔ IsAsleep doc j p (with_term i (goes_on doc (identity p i) h))
  up-same i up = by_case (reaches doc.settings.rules.release i up)
    where
      by_case : Reaches (leads_at doc k h (identity p i)) (goes_on doc (identity p i) h) (ends (identity p i)) → IsAsleep doc j p (with_term i (leads_at doc k h (identity p i))) ↔ IsAsleep doc j p (with_term i (goes_on doc (identity p i) h))
      by_case (Alike same) = (λ s. subst (λ b. IsAsleep doc j p (with_term i b)) same s, λ s. subst (λ b. IsAsleep doc j p (with_term i b)) (sym same) s)
      by_case (Reached reached) = (λ s. absurd (ended i up reached (leads_at doc k h (identity p i)) s), λ s. absurd (ended i up reached (goes_on doc (identity p i) h) s))

  -- what is waited for at the next beat, by the sort of the process and the incarnation in which it is up
  abbrev acting_up : Option ℕ → waking.Wakes
  acting_up o =
      record {
        at_once = acts_at_once doc k p o h;
        local = sooner (elector_reading doc p h) (if_up p (λ q. only_if (leads_at doc k h q) (term_reading doc q h)) o);
        wall = if_up p (λ q. only_if (leads_at doc k h q) (term_time doc q h)) o;
        room = if_up p (λ q. room_at doc q h) o;
      }

  abbrev leading_up : Option ℕ → waking.Wakes
  leading_up o =
      record {
        at_once = leads_at_once doc p o h;
        local = sooner (elector_reading doc p h) (if_up p (λ q. only_if (goes_on doc q h) (term_reading doc q h)) o);
        wall = if_up p (λ q. only_if (goes_on doc q h) (term_time doc q h)) o;
        room = if_up p (λ q. room_at doc q h) o;
      }

  life-same : (o : Option ℕ) → alive p h ≡ o → IsAsleep doc j p (acting_up o) ↔ IsAsleep doc j p (leading_up o)
  life-same None up = (λ s. record { at_once = refl; local = s.local; wall = refl }, λ s. record { at_once = refl; local = s.local; wall = refl })
  life-same (Some i) up = up-same i up

  -- the readings of its term as the history has them
  abbrev term_as : Bool → Option ℕ
  term_as true = if_up p (λ q. only_if (leads_at doc k h q) (term_reading doc q h)) (alive p h)
  term_as false = None

  abbrev room_as : Bool → Option ℕ
  room_as true = if_up p (λ q. room_at doc q h) (alive p h)
  room_as false = None

  abbrev waits_as : Bool → waking.Wakes
  waits_as b = record { at_once = waking.acts_as doc k p b h; local = sooner (own_reading_as doc p b h) (term_as b); wall = acting_time doc k p b h; room = room_as b }

  sort-same : (b : Bool) → IsAsleep doc j p (waits_as b) ↔ IsAsleep doc j p (wakes_as doc p b h)
  sort-same true = life-same (alive p h) refl
  sort-same false = (
    λ s. record { at_once = refl; local = sym (ap (is_early (local doc p j)) (sooner-alone (kubelet_reading doc p h))) ∙ s.local; wall = refl },
    λ s. record { at_once = refl; local = ap (is_early (local doc p j)) (sooner-alone (kubelet_reading doc p h)) ∙ s.local; wall = refl },
  )

  pub waits-same : IsAsleep doc j p (waits_as (is_controller doc p)) ↔ IsAsleep doc j p (wakes_of doc p h)
  waits-same = sort-same (is_controller doc p)

  -- a term of which no time of day is waited for waits for no room either
  pub room-same : (is_early (wall doc p j) (time_at doc k p h) || is_early (local doc p j) (allowed_at doc k p h))
      ≡ (is_early (wall doc p j) (time_at doc k p h) || is_early (local doc p j) (room_as (is_controller doc p)))
  room-same = by_sort (is_controller doc p)
    where
      by_led : (i : ℕ) (led : Bool) → (is_early (wall doc p j) (only_if led (term_time doc (identity p i) h)) || is_early (local doc p j) (only_if led (room_at doc (identity p i) h)))
          ≡ (is_early (wall doc p j) (only_if led (term_time doc (identity p i) h)) || is_early (local doc p j) (room_at doc (identity p i) h))
      by_led i true = refl
      by_led i false = refl

      by_life : (o : Option ℕ)
          → (is_early (wall doc p j) (if_up p (λ q. only_if (leads_at doc k h q) (term_time doc q h)) o) || is_early (local doc p j) (if_up p (λ q. only_if (leads_at doc k h q) (room_at doc q h)) o))
          ≡ (is_early (wall doc p j) (if_up p (λ q. only_if (leads_at doc k h q) (term_time doc q h)) o) || is_early (local doc p j) (if_up p (λ q. room_at doc q h) o))
      by_life None = refl
      by_life (Some i) = by_led i (leads_at doc k h (identity p i))

      by_sort : (b : Bool) → (is_early (wall doc p j) (acting_time doc k p b h) || is_early (local doc p j) (acting_room doc k p b h)) ≡ (is_early (wall doc p j) (acting_time doc k p b h) || is_early (local doc p j) (room_as b))
      by_sort true = by_life (alive p h)
      by_sort false = refl

  -- what a clock reads tells as much of a reading that is kept
  module _ (fits : local doc p j < 18446744073709551615) where
    term-same : (q : Identity) → is_early (local doc p j) (kept_reading doc q h) ≡ is_early (local doc p j) (term_reading doc q h)
    term-same q =
        early-sooner (local doc p j) (sync_at doc q h) (option_map kept (synced_reading doc q h))
        ∙ ap (λ b. is_early (local doc p j) (sync_at doc q h) && b) (kept-same (local doc p j) (synced_reading doc q h) fits)
        ∙ sym (early-sooner (local doc p j) (sync_at doc q h) (synced_reading doc q h))

    acting-same : (b : Bool) → is_early (local doc p j) (acting_reading doc k p b h) ≡ is_early (local doc p j) (term_as b)
    acting-same false = refl
    acting-same true = by_life (alive p h)
      where
        by_led : (i : ℕ) (led : Bool) → is_early (local doc p j) (only_if led (kept_reading doc (identity p i) h)) ≡ is_early (local doc p j) (only_if led (term_reading doc (identity p i) h))
        by_led i true = term-same (identity p i)
        by_led i false = refl

        by_life : (o : Option ℕ)
            → is_early (local doc p j) (if_up p (λ q. only_if (leads_at doc k h q) (kept_reading doc q h)) o) ≡ is_early (local doc p j) (if_up p (λ q. only_if (leads_at doc k h q) (term_reading doc q h)) o)
        by_life None = refl
        by_life (Some i) = by_led i (leads_at doc k h (identity p i))

    pub reading-same : is_early (local doc p j) (reading_at doc k p h) ≡ is_early (local doc p j) (sooner (own_reading doc p h) (term_as (is_controller doc p)))
    reading-same =
        early-sooner (local doc p j) (own_reading doc p h) (acting_reading doc k p (is_controller doc p) h)
        ∙ ap (λ b. is_early (local doc p j) (own_reading doc p h) && b) (acting-same (is_controller doc p))
        ∙ sym (early-sooner (local doc p j) (own_reading doc p h) (term_as (is_controller doc p)))

-- ---- what the world answers

true-false : {A : Type 0} → true ≡ false → A
true-false is = cc

-- who starts in beat 0 is there at once
pub starting-stands : (doc : Doc) (k p : ℕ) (h : List Entry) (w : Wakes) → starts_now doc k p ≡ true → w.at_once ≡ true → WakesStand doc k p h w
starting-stands doc k p h w starts at_once =
    record {
      at_once = at_once ∙ sym (ap (λ b. b || waking.acts_as doc k p (is_controller doc p) h) starts);
      reading = λ none. true-false (sym starts ∙ none);
      time = λ none. true-false (sym starts ∙ none);
      room = λ none. true-false (sym starts ∙ none);
      asleep = λ none. true-false (sym starts ∙ none);
    }

pub waiting-stands : (doc : Doc) (k p : ℕ) (h : List Entry) (w : Wakes) (c : Clocking) → ClockStands doc p c → starts_now doc k p ≡ false → w.at_once ≡ waking.acts_as doc k p (is_controller doc p) h
    → reading_of w ≡ reading_at doc k p h → w.wall ≡ time_at doc k p h → ((j : ℕ) → k ≤ j → is_early (local doc p j) (room_of w) ≡ is_early (local doc p j) (allowed_at doc k p h)) → WakesStand doc k p h w
waiting-stands doc k p h w c clock starts at_once reading time room =
    record {
      at_once = at_once ∙ sym (ap (λ b. b || waking.acts_as doc k p (is_controller doc p) h) starts);
      reading = λ none. reading;
      time = λ none. time;
      room = λ none. room;
      asleep = λ none j from within.
          let later = local-later doc p k j c clock from in
          let same = waits-same doc k j p h later in
          let read = ap (is_early (local doc p j)) reading ∙ reading-same doc k j p h later (local-fits doc p j c clock within) in
          let shown =
          ap (λ o. is_early (wall doc p j) o || is_early (local doc p j) (room_of w)) time
          ∙ ap (λ b. is_early (wall doc p j) (time_at doc k p h) || b) (room j from)
          ∙ room-same doc k j p h later in (
            λ s. same.0 (record { at_once = sym at_once ∙ s.at_once; wall = sym shown ∙ s.wall; local = sym read ∙ s.local }),
            λ s. let t = same.1 s in record { at_once = at_once ∙ t.at_once; wall = shown ∙ t.wall; local = read ∙ t.local },
          );
    }

-- ---- who doesn't act waits for nothing of a term

pub record NoTerm (doc : Doc) (k p : ℕ) (h : List Entry) : Type 0 where
  pub at_once : waking.acts_as doc k p (is_controller doc p) h ≡ false
  pub reading : acting_reading doc k p (is_controller doc p) h ≡ None
  pub time : time_at doc k p h ≡ None
  pub room : allowed_at doc k p h ≡ None

pub no-term : (doc : Doc) (k p : ℕ) (h : List Entry) → leads_now doc k p h ≡ false → NoTerm doc k p h
no-term doc k p h none =
    record {
      at_once = at-once (is_controller doc p) none;
      reading = no-reading (is_controller doc p) none;
      time = no-time (is_controller doc p) none;
      room = no-room (is_controller doc p) none;
    }
  where
    at-once : (b : Bool) → processes.leads_as doc k p b h ≡ false → waking.acts_as doc k p b h ≡ false
    at-once false is = refl
    at-once true is = by_life (alive p h) is
      where
        by_life : (o : Option ℕ) → leads_if_up doc k p o h ≡ false → acts_at_once doc k p o h ≡ false
        by_life None is = refl
        by_life (Some i) is = ap (λ b. b && is_due_at_once doc (identity p i) h) is

    no-reading : (b : Bool) → processes.leads_as doc k p b h ≡ false → acting_reading doc k p b h ≡ None
    no-reading false is = refl
    no-reading true is = by_life (alive p h) is
      where
        by_life : (o : Option ℕ) → leads_if_up doc k p o h ≡ false → if_up p (λ q. only_if (leads_at doc k h q) (kept_reading doc q h)) o ≡ None
        by_life None is = refl
        by_life (Some i) is = ap (λ b. only_if b (kept_reading doc (identity p i) h)) is

    no-time : (b : Bool) → processes.leads_as doc k p b h ≡ false → acting_time doc k p b h ≡ None
    no-time false is = refl
    no-time true is = by_life (alive p h) is
      where
        by_life : (o : Option ℕ) → leads_if_up doc k p o h ≡ false → if_up p (λ q. only_if (leads_at doc k h q) (term_time doc q h)) o ≡ None
        by_life None is = refl
        by_life (Some i) is = ap (λ b. only_if b (term_time doc (identity p i) h)) is

    no-room : (b : Bool) → processes.leads_as doc k p b h ≡ false → acting_room doc k p b h ≡ None
    no-room false is = refl
    no-room true is = by_life (alive p h) is
      where
        by_life : (o : Option ℕ) → leads_if_up doc k p o h ≡ false → if_up p (λ q. only_if (leads_at doc k h q) (room_at doc q h)) o ≡ None
        by_life None is = refl
        by_life (Some i) is = ap (λ b. only_if b (room_at doc (identity p i) h)) is

own-alone : (doc : Doc) (k p : ℕ) (h : List Entry) → NoTerm doc k p h → reading_at doc k p h ≡ own_reading doc p h
own-alone doc k p h none = ap (sooner (own_reading doc p h)) none.reading ∙ sooner-alone (own_reading doc p h)

pub idle-stands : (doc : Doc) (k p : ℕ) (h : List Entry) (c : Clocking) (wake : Option Local) → ClockStands doc p c → starts_now doc k p ≡ false → leads_now doc k p h ≡ false → beats.reading_of wake ≡ own_reading doc p h
    → WakesStand doc k p h (record { at_once = false; local = wake; wall = None; room = None })
idle-stands doc k p h c wake clock starts none own =
    let nothing = no-term doc k p h none in
    waiting-stands doc k p h (record { at_once = false; local = wake; wall = None; room = None }) c clock starts (sym nothing.at_once)
    (readings-alike wake ∙ own ∙ sym (own-alone doc k p h nothing))
    (sym nothing.time)
    (λ j from. ap (is_early (local doc p j)) (sym nothing.room))

-- ---- who acts waits for its term too

pub record ItsTerm (doc : Doc) (k p i : ℕ) (h : List Entry) : Type 0 where
  pub at_once : waking.acts_as doc k p (is_controller doc p) h ≡ is_due_at_once doc (identity p i) h
  pub reading : acting_reading doc k p (is_controller doc p) h ≡ kept_reading doc (identity p i) h
  pub time : time_at doc k p h ≡ term_time doc (identity p i) h
  pub room : allowed_at doc k p h ≡ room_at doc (identity p i) h

pub its-term : (doc : Doc) (k p i : ℕ) (h : List Entry) → alive p h ≡ Some i → LeadsAs doc k p i h → ItsTerm doc k p i h
its-term doc k p i h up s =
    record {
      at_once = ap (λ b. waking.acts_as doc k p b h) s.sort ∙ ap (λ o. acts_at_once doc k p o h) up ∙ ap (λ b. b && is_due_at_once doc (identity p i) h) s.term;
      reading = ap (λ b. acting_reading doc k p b h) s.sort ∙ ap (if_up p (λ q. only_if (leads_at doc k h q) (kept_reading doc q h))) up ∙ ap (λ b. only_if b (kept_reading doc (identity p i) h)) s.term;
      time = ap (λ b. acting_time doc k p b h) s.sort ∙ ap (if_up p (λ q. only_if (leads_at doc k h q) (term_time doc q h))) up ∙ ap (λ b. only_if b (term_time doc (identity p i) h)) s.term;
      room = ap (λ b. acting_room doc k p b h) s.sort ∙ ap (if_up p (λ q. only_if (leads_at doc k h q) (room_at doc q h))) up ∙ ap (λ b. only_if b (room_at doc (identity p i) h)) s.term;
    }

-- what a term waits for is its sync and all else
pub term-reading : (doc : Doc) (q : Identity) (h : List Entry) (sync synced both : Option Local) → local_of both ≡ sooner (local_of sync) (local_of synced) → beats.reading_of sync ≡ sync_at doc q h → beats.reading_of synced ≡ option_map kept (synced_reading doc q h)
    → beats.reading_of both ≡ kept_reading doc q h
term-reading doc q h sync synced both is first rest =
    sym (readings-alike both) ∙ is
    ∙ ap (λ o. sooner o (local_of synced)) (readings-alike sync ∙ first)
    ∙ ap (sooner (sync_at doc q h)) (readings-alike synced ∙ rest)

pub acting-stands : (doc : Doc) (k p i : ℕ) (h : List Entry) (c : Clocking) (wake term : Option Local) (w : Wakes) → ClockStands doc p c → starts_now doc k p ≡ false → ItsTerm doc k p i h → beats.reading_of wake ≡ own_reading doc p h
    → w.at_once ≡ is_due_at_once doc (identity p i) h → reading_of w ≡ sooner (local_of wake) (local_of term)
    → beats.reading_of term ≡ kept_reading doc (identity p i) h → ((now : ℕ) → is_early now w.wall ≡ is_early now (term_time doc (identity p i) h))
    → ((j : ℕ) → k ≤ j → is_early (local doc p j) (room_of w) ≡ is_early (local doc p j) (room_at doc (identity p i) h)) → WakesStand doc k p h w
acting-stands doc k p i h c wake term w clock starts t own at_once local_is term_is time room =
    waiting-stands doc k p h w c clock starts (at_once ∙ sym t.at_once)
    (local_is ∙ ap (λ o. sooner o (local_of term)) (readings-alike wake ∙ own) ∙ ap (sooner (own_reading doc p h)) (readings-alike term ∙ term_is ∙ sym t.reading))
    (early_same w.wall (term_time doc (identity p i) h) time ∙ sym t.time)
    (λ j from. room j from ∙ ap (is_early (local doc p j)) (sym t.room))

-- ---- the beat of a turn

-- a beat of the clock tells what the reading tells
pub beat-tells : (doc : Doc) (p j : ℕ) (c : Clocking) (b : Option Beat) (at : Option Local) → ClockStands doc p c → IsBeatOf c b at → j ≤ c.end → is_early j (beat_of b) ≡ is_early (local doc p j) (local_of at)
beat-tells doc p j c b at clock is within =
    ap (is_early j) (beats-alike b) ∙ is.tells j within ∙ ap (λ n. is_early n (beats.reading_of at)) (reading-local doc p j c clock) ∙ sym (ap (is_early (local doc p j)) (readings-alike at))

pub beat-within : (c : Clocking) (b : Option Beat) (at : Option Local) → IsBeatOf c b at → (n : ℕ) → beat_of b ≡ Some n → n ≤ c.end
beat-within c b at is n some = by_beat b is.within some
  where
    by_beat : (b : Option Beat) → IfSome b (λ x. x.0 ≤ c.end) → beat_of b ≡ Some n → n ≤ c.end
    by_beat None within some = cc
    by_beat (Some x) within some = let same : x.0 ≡ n = cc in subst (λ m. m ≤ c.end) same within

-- the beat of a clock for the reading that is waited for
pub turn-beat : (doc : Doc) (p : ℕ) (c : Clocking) (w : Wakes) (b : Option Beat) → ClockStands doc p c → c.end ≡ end_beat doc → IsBeatOf c b w.local → IsTurnBeat doc p w b
turn-beat doc p c w b clock end is =
    record {
      reached = λ j within. beat-tells doc p j c b w.local clock is (omega (arith, within, end));
      within = λ n some. (let most = beat-within c b w.local is n some in omega (arith, most, end));
    }

-- readings that are compared as equal are the same
pub same-reading : (a b : Option Local) → option_eq (λ x y. x.0 == y.0) a b ≡ true → beats.reading_of a ≡ beats.reading_of b
same-reading None None is = refl
same-reading (Some a) None is = cc
same-reading None (Some b) is = cc
same-reading (Some a) (Some b) is = ap Some (grind (arith, nat_tests, is))
