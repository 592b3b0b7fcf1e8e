-- A process has its next turn where it goes on after what falls due.
use Rattle.std.proofs.Common.{◌≡◌, ℕ, ◌+◌, ◌<◌, ◌≤◌, ◌&&◌, nat_le, nat_lt, not, min, ◌⊎◌, Bool, true, false, List, [], ◌∷◌, Option, Some, None, refl, sym, ap, ◌∙◌, subst, inl, inr, ⊎_elim, leb-true, arith}
use Rattle.std.proofs.lemmas.Bool.{cases_lt, ltb-true, leb-false, lt-ltb}
use Rattle.std.proofs.lemmas.Bool.Decides.{nat_tests}
use Rattle.kube_objects.specs.declared.script.Event.{Event}
use Rattle.kube_objects.specs.declared.script.What.{What}
use Rattle.kube_objects.specs.Document.{Doc, end_beat, is_controller}
use Rattle.kube_objects.specs.Entry.{Entry}
use Rattle.kube_objects.specs.Newest.{when, has, or_else}
use Rattle.kube_objects.specs.Pauses.{pause_of, end_of, last_end, is_paused, resume}
use Rattle.kube_objects.specs.Stalls.{stall_of, is_stalled, awake}
use Rattle.kube_objects.proofs.Pauses.{or_earlier, end_value, resume_later}
use Rattle.history.specs.Sound.{AreApart}
use Rattle.history.proofs.Pauses.{resume_awake}
use Rattle.history_laws.proofs.Counting.{when_test, when_value}
use Rattle.history_laws.proofs.Plainly.{false_is, none_is, some_is, not_true, and_left, and_right}
use Rattle.agenda_laws.specs.Ahead.{IsAhead, IsNextTurn}
use Rattle.agenda_laws.specs.Times.{is_early, sooner}
use Rattle.agenda_laws.specs.Waking.{Wakes, wakes_of, turn_wakes, wakes_while, IsAsleep, Rests}
use Rattle.agenda_laws.proofs.Between.{sooner_both}
use Rattle.agenda_laws.proofs.Waking.{rests_while, turn_sleeps}
use Rattle.world_agenda.specs.Woken.{IsNextDue, IsGoing, is_going, resumed}

-- ---- a process is paused until it goes on

has_one : (a b : Option ℕ) → has a ≡ true → has (or_earlier a b) ≡ true
has_one None b is = absurd (false_is is)
has_one (Some m) b is = is

has_other : (a b : Option ℕ) → has b ≡ true → has (or_earlier a b) ≡ true
has_other None b is = is
has_other (Some m) b is = ap has (some_stays m b)
  where
    some_stays : (m : ℕ) (b : Option ℕ) → or_earlier (Some m) b ≡ Some m
    some_stays m b = cc

-- a beat in the same pause, as late as this one
end_holds : (k j from end : ℕ) (o : Option ℕ) → k ≤ j → j < end → end_of k from o ≡ Some end → has (end_of j from o) ≡ true
end_holds k j from end None later before is = absurd (none_is end is)
end_holds k j from end (Some beats) later before is =
    let ends : from + beats ≡ end = end_value k from beats end is in
    let began : from ≤ k = leb-true from k (and_left (nat_le from k) (nat_lt k (from + beats)) (when_test (nat_le from k && nat_lt k (from + beats)) (from + beats) end is)) in
    let one : nat_le from j ≡ true = grind (arith, nat_tests) in
    let two : nat_lt j (from + beats) ≡ true = grind (arith, nat_tests) in
    ap (λ b. has (when (b && nat_lt j (from + beats)) (from + beats))) one ∙ ap (λ b. has (when b (from + beats))) two

ends_hold : (lasts : What → Option ℕ) (k j end : ℕ) (es : List Event) → k ≤ j → j < end → last_end lasts k es ≡ Some end → has (last_end lasts j es) ≡ true
ends_hold lasts k j end [] later before is = absurd (none_is end is)
ends_hold lasts k j end (e ∷ es) later before is = cases (ends_hold lasts k j end es later before) (last_end lasts k es) refl is
  where
    cases : (last_end lasts k es ≡ Some end → has (last_end lasts j es) ≡ true) → (o : Option ℕ) → last_end lasts k es ≡ o → or_earlier o (end_of k e.beat.0 (lasts e.what)) ≡ Some end
        → has (last_end lasts j (e ∷ es)) ≡ true
    cases rest None none is = has_other (last_end lasts j es) (end_of j e.beat.0 (lasts e.what)) (end_holds k j e.beat.0 end (lasts e.what) later before is)
    cases rest (Some m) some is = has_one (last_end lasts j es) (end_of j e.beat.0 (lasts e.what)) (rest (some ∙ is))

held_until : (lasts : What → Option ℕ) (es : List Event) (k j : ℕ) → k ≤ j → j < or_else k (last_end lasts k es) → has (last_end lasts j es) ≡ true
held_until lasts es k j later before = cases (last_end lasts k es) refl before
  where
    cases : (o : Option ℕ) → last_end lasts k es ≡ o → j < or_else k o → has (last_end lasts j es) ≡ true
    cases None is less = absurd (omega (arith, later, less))
    cases (Some end) is less = ends_hold lasts k j end es later less is

pub paused_until : (doc : Doc) (p k j : ℕ) → k ≤ j → j < resume doc p k → is_paused doc p j ≡ true
paused_until doc p k j later before = held_until (pause_of p) doc.events k j later before

pub stalled_until : (doc : Doc) (k j : ℕ) → k ≤ j → j < awake doc k → is_stalled doc j ≡ true
stalled_until doc k j later before = held_until stall_of doc.events k j later before

-- ---- the next turn

pub one-of : (a b : Option ℕ) (n : ℕ) → sooner a b ≡ Some n → (a ≡ Some n) ⊎ (b ≡ Some n)
one-of None b n is = inr is
one-of (Some a) None n is = inl is
one-of (Some a) (Some b) n is = by_order (cases_lt a b)
  where
    by_order : (a < b) ⊎ (b ≤ a) → (Some a ≡ Some n) ⊎ (Some b ≡ Some n)
    by_order (inl less) = let e = some_is (min a b) n is in let same : a ≡ n = omega (arith, e, less) in inl (ap (λ (m : ℕ). Some m) same)
    by_order (inr more) = let e = some_is (min a b) n is in let same : b ≡ n = omega (arith, e, more) in inr (ap (λ (m : ℕ). Some m) same)

-- what is due, but for a pause
module _ (doc : Doc) (k p : ℕ) (w : Wakes) (due : Option ℕ) (apart : AreApart doc.events) (d : IsNextDue doc k p w due) where
  -- before the process goes on
  held : (n j : ℕ) → j ≤ end_beat doc → (b : Bool) → nat_le (resume doc p n) (end_beat doc) ≡ b → is_early j (when b (resume doc p n)) ≡ true → j < resume doc p n
  held n j within true is early = ltb-true j (resume doc p n) early
  held n j within false is early = omega (arith, within, leb-false (resume doc p n) (end_beat doc) is)

  pub rests_before : (j : ℕ) → k ≤ j → j ≤ end_beat doc → is_early j (resumed doc p due) ≡ true → (is_paused doc p j ≡ true) ⊎ IsAsleep doc j p w
  rests_before j from within early = by_due due refl early
    where
      by_due : (o : Option ℕ) → due ≡ o → is_early j (resumed doc p o) ≡ true → (is_paused doc p j ≡ true) ⊎ IsAsleep doc j p w
      by_due None is early = inr (d.quiet j from within (ap (is_early j) is))
      by_due (Some n) is early =
          ⊎_elim
          (λ less. inr (d.quiet j from within (ap (is_early j) is ∙ lt-ltb j n less)))
          (λ after. inl (paused_until doc p n j after (held n j within (nat_le (resume doc p n) (end_beat doc)) refl early)))
          (cases_lt j n)

  -- where it goes on
  pub record GoesOn (n : ℕ) : Type 0 where
    pub ahead : IsAhead doc k n
    pub awake : is_paused doc p n ≡ false
    pub there : (m : ℕ) → n ≤ m → m ≤ end_beat doc → ¬ IsAsleep doc m p w
    pub before : (j : ℕ) → k ≤ j → j ≤ end_beat doc → j < n → (is_paused doc p j ≡ true) ⊎ IsAsleep doc j p w

  pub goes_on : (n : ℕ) → resumed doc p due ≡ Some n → GoesOn n
  goes_on n some = by_due due refl some
    where
      by_due : (o : Option ℕ) → due ≡ o → resumed doc p o ≡ Some n → GoesOn n
      by_due None is some = absurd (none_is n some)
      by_due (Some from) is some =
          let goes : resume doc p from ≡ n = when_value (nat_le (resume doc p from) (end_beat doc)) (resume doc p from) n some in
          let fits = leb-true (resume doc p from) (end_beat doc) (when_test (nat_le (resume doc p from) (end_beat doc)) (resume doc p from) n some) in
          let ahead = d.ahead from is in
          let after : from ≤ n = omega (arith, resume_later doc p from, goes) in
          record {
            ahead = record { from = omega (arith, ahead.from, after); within = omega (arith, fits, goes) };
            awake = ap (is_paused doc p) (sym goes) ∙ resume_awake doc p from apart;
            there = λ m later within. d.there m (omega (arith, ahead.from, after, later)) within (ap (is_early m) is ∙ reached from m (omega (arith, after, later)));
            before = λ j from within less. rests_before j from within (ap (is_early j) some_due ∙ lt-ltb j n less);
          }
        where
          reached : (a b : ℕ) → a ≤ b → nat_lt b a ≡ false
          reached a b most = grind (arith, nat_tests)

          some_due : resumed doc p due ≡ Some n
          some_due = ap (resumed doc p) is ∙ some

-- a process that goes on while the store goes
module _ (doc : Doc) (k p : ℕ) (h : List Entry) (due : Option ℕ) (apart : AreApart doc.events) (d : IsNextDue doc k p (wakes_of doc p h) due) where
  rests_in : (j : ℕ) → (is_paused doc p j ≡ true) ⊎ IsAsleep doc j p (wakes_of doc p h) → Rests doc j p h
  rests_in j (inl paused) = inl paused
  rests_in j (inr asleep) = rests_while doc j p h asleep

  wakes_there : (n : ℕ) → is_paused doc p n ≡ false → is_stalled doc n ≡ false → ¬ IsAsleep doc n p (wakes_of doc p h) → ¬ Rests doc n p h
  wakes_there n awake goes there rests =
      ⊎_elim
      (λ paused. absurd (false_is (sym awake ∙ paused)))
      (λ asleep. there (subst (λ b. IsAsleep doc n p (wakes_while b doc p (is_controller doc p) h)) goes asleep))
      rests

  pub turns_resume : ((n : ℕ) → resumed doc p due ≡ Some n → is_stalled doc n ≡ false) → IsNextTurn doc k p h (resumed doc p due)
  turns_resume goes = record {
    quiet = λ j from within early. rests_in j (rests_before doc k p (wakes_of doc p h) due apart d j from within early);
    there = λ n some.
        let g = goes_on doc k p (wakes_of doc p h) due apart d n some in
        (g.ahead, wakes_there n g.awake (goes n some) (g.there n (omega arith) g.ahead.within));
  }

  -- and one that goes on while it stands still
  pub turns_go : (turn going : Option ℕ) (from : ℕ) → IsNextDue doc k p (turn_wakes doc p (is_controller doc p) h) turn → resumed doc p due ≡ Some from → IsGoing doc p from going
      → IsNextTurn doc k p h (sooner (resumed doc p turn) going)
  turns_go turn going from o some g = record { quiet = quiet; there = λ n is. by_one n (one-of (resumed doc p turn) going n is) }
    where
      on : GoesOn doc k p (wakes_of doc p h) due apart d from
      on = goes_on doc k p (wakes_of doc p h) due apart d from some

      -- it isn't paused there, so the store stands still
      stalled_there : (a b : Bool) → (not a && not b) ≡ false → a ≡ false → b ≡ true
      stalled_there false true still awake = refl
      stalled_there false false still awake = absurd (false_is (sym still))
      stalled_there true b still awake = absurd (false_is (sym awake))

      in_stall : (j : ℕ) → is_going doc j p ≡ false → (is_paused doc p j ≡ true) ⊎ IsAsleep doc j p (turn_wakes doc p (is_controller doc p) h) → Rests doc j p h
      in_stall j still (inl paused) = inl paused
      in_stall j still (inr asleep) = by_pause (is_paused doc p j) refl
        where
          by_pause : (b : Bool) → is_paused doc p j ≡ b → Rests doc j p h
          by_pause true paused = inl paused
          by_pause false awake = inr (subst (λ b. IsAsleep doc j p (wakes_while b doc p (is_controller doc p) h)) (sym (stalled_there (is_paused doc p j) (is_stalled doc j) still awake)) asleep)

      quiet : (j : ℕ) → k ≤ j → j ≤ end_beat doc → is_early j (sooner (resumed doc p turn) going) ≡ true → Rests doc j p h
      quiet j least within early =
          let both = sooner_both j (resumed doc p turn) going early in
          ⊎_elim
          (λ less. rests_in j (on.before j least within less))
          (λ after. in_stall j (g.held j after within both.1) (rests_before doc k p (turn_wakes doc p (is_controller doc p) h) turn apart o j least within both.0))
          (cases_lt j from)

      sleeps_too : (n : ℕ) (b : Bool) → IsAsleep doc n p (wakes_while b doc p (is_controller doc p) h) → IsAsleep doc n p (turn_wakes doc p (is_controller doc p) h)
      sleeps_too n true asleep = asleep
      sleeps_too n false asleep = turn_sleeps doc n p (is_controller doc p) h asleep

      by_one : (n : ℕ) → (resumed doc p turn ≡ Some n) ⊎ (going ≡ Some n) → IsAhead doc k n × ¬ Rests doc n p h
      by_one n (inl is) =
          let t = goes_on doc k p (turn_wakes doc p (is_controller doc p) h) turn apart o n is in (
            t.ahead,
            λ rests.
                ⊎_elim
                (λ paused. absurd (false_is (sym t.awake ∙ paused)))
                (λ asleep. t.there n (omega arith) t.ahead.within (sleeps_too n (is_stalled doc n) asleep))
                rests,
          )
      by_one n (inr is) =
          let goes = g.goes n is in
          let first = on.ahead.from in (
            record { from = omega (arith, first, goes.0); within = goes.1 },
            wakes_there n (not_true (is_paused doc p n) (and_left (not (is_paused doc p n)) (not (is_stalled doc n)) goes.2)) (not_true (is_stalled doc n) (and_right (not (is_paused doc p n)) (not (is_stalled doc n)) goes.2))
                (on.there n goes.0 goes.1),
          )
