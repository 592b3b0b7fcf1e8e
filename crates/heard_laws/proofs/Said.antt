-- What a leader's passes kept stays as it was at the last one, under the project's own rules.
use Rattle.std.proofs.Common.{◌≡◌, ◌∙◌, ◌≤◌, ◌<◌, ℕ, zero, suc, ◌+◌, ◌-◌, ◌&&◌, not, Bool, true, false, List, [], ◌∷◌, Option, None, refl, sym, ap, subst, inr, ⊎_elim, arith, if◌then◌else◌}
use Rattle.std.specs.Prelude.{if◌then◌else◌}
use Rattle.std.proofs.lemmas.Bool.{cases_eq}
use Rattle.kube_objects.specs.declared.deed.Actor.{Actor}
use Rattle.kube_objects.specs.Document.{Doc}
use Rattle.kube_objects.specs.Entry.{Entry, Identity, Fact, Ticks, Tick, Sync, Pass}
use Rattle.kube_objects.specs.Health.{at_pass, pass_says, last_pass}
use Rattle.kube_objects.specs.Identities.{is_by}
use Rattle.kube_objects.specs.Newest.{newest, when, only_if}
use Rattle.kube_objects.specs.InForce.{watches}
use Rattle.kube_objects.specs.Own.{ReleasesByStop}
use Rattle.kube_objects.specs.Seen.{is_fresh}
use Rattle.kube_objects.specs.Tick.{add, whole_pass, evicted, tainted, cleaned}
use Rattle.history.specs.Evictions.{after_turn}
use Rattle.history.specs.History.{history, at_turn}
use Rattle.history.specs.Steps.{elector_turn}
use Rattle.history_laws.specs.Tails.{IsTail}
use Rattle.history_laws.proofs.Plainly.{upper, same_self, true_is, none_is}
use Rattle.history_laws.proofs.Tailed.{tail_all, tail_trans, turn_tail, before_turn}
use Rattle.eviction_laws.proofs.Cache.{Mirrors, mirrors_sync, fresh}
use Rattle.row_laws.specs.Keys.{is_ticking}
use Rattle.outage_laws.specs.Attended.{IsAttended, Attends}
use Rattle.outage_laws.specs.Passes.{synced_at, has_pass}
use Rattle.outage_laws.proofs.Passes.{turn_phases}
use Rattle.outage_laws.proofs.Rest.{is_pass, keep_sync, keep_later, keep_passed}
use Rattle.outage_laws.proofs.Turns.{ready, to_tick, next_turn, below_processes}

-- ---- the first and the last of some numbers that pass a test

pub record IsLast (f : ℕ → Bool) (a n : ℕ) : Type 0 where
  pub at : ℕ
  pub least : a ≤ at
  pub most : at ≤ a + n
  pub is : f at ≡ true
  pub none : (j : ℕ) → at < j → j ≤ a + n → f j ≡ false

pub last_of : (f : ℕ → Bool) (a n : ℕ) → f a ≡ true → IsLast f a n
last_of f a zero is = record { at = a; least = omega arith; most = omega arith; is = is; none = λ j lt le. absurd (omega (arith, lt, le)) }
last_of f a (suc n) is = by_test (last_of f a n is) (f (a + suc n)) refl
  where
    by_test : IsLast f a n → (b : Bool) → f (a + suc n) ≡ b → IsLast f a (suc n)
    by_test old true here = record { at = a + suc n; least = omega arith; most = omega arith; is = here; none = λ j lt le. absurd (omega (arith, lt, le)) }
    by_test old false here = record {
      at = old.at;
      least = old.least;
      most = omega (arith, old.most);
      is = old.is;
      none = λ j lt le. ⊎_elim (λ same. subst (λ j. f j ≡ false) (sym same) here) (λ other. old.none j lt (omega (arith, le, other))) (cases_eq j (a + suc n));
    }

pub record IsFirst (f : ℕ → Bool) (a n : ℕ) : Type 0 where
  pub at : ℕ
  pub least : a ≤ at
  pub most : at ≤ a + n
  pub is : f at ≡ true
  pub none : (j : ℕ) → a ≤ j → j < at → f j ≡ false

pub first_of : (f : ℕ → Bool) (a n : ℕ) → f (a + n) ≡ true → IsFirst f a n
first_of f a zero is = let e : a + 0 ≡ a = omega arith in record { at = a; least = omega arith; most = omega arith; is = subst (λ k. f k ≡ true) e is; none = λ j le lt. absurd (omega (arith, le, lt)) }
first_of f a (suc n) is = let e : a + suc n ≡ suc a + n = omega arith in by_test (first_of f (suc a) n (subst (λ k. f k ≡ true) e is)) (f a) refl
  where
    by_test : IsFirst f (suc a) n → (b : Bool) → f a ≡ b → IsFirst f a (suc n)
    by_test next true here = record { at = a; least = omega arith; most = omega arith; is = here; none = λ j le lt. absurd (omega (arith, le, lt)) }
    by_test next false here = record {
      at = next.at;
      least = omega (arith, next.least);
      most = omega (arith, next.most);
      is = next.is;
      none = λ j le lt. ⊎_elim (λ same. subst (λ j. f j ≡ false) (sym same) here) (λ other. next.none j (omega (arith, le, other)) lt) (cases_eq j a);
    }

-- ---- a synced tick

module _ (doc : Doc) (own : ReleasesByStop doc) (q : Identity) (k : ℕ) (attended : IsAttended doc q k) where
  pub synced_mirrors : Mirrors q (synced_at doc q k)
  synced_mirrors =
      subst (λ b. Mirrors q (if (b && (watches doc q.process h && not (is_fresh q h))) then add k q Sync h else h)) (sym (ready doc own q k attended).settled)
      (subst (λ b. Mirrors q (if (b && not (is_fresh q h)) then add k q Sync h else h)) (sym (ready doc own q k attended).watching) (by_test (is_fresh q h) refl))
    where
      h : List Entry
      h = elector_turn doc k q.process (at_turn doc q.process k)

      by_test : (b : Bool) → is_fresh q h ≡ b → Mirrors q (if (not b) then add k q Sync h else h)
      by_test true is = fresh q h is
      by_test false is = mirrors_sync q h k

  pub in_history : IsTail (after_turn doc q.process k) (history doc (suc k))
  in_history = turn_tail doc (suc q.process) k (below_processes doc q k attended)

  -- the phases after the sync only add entries
  pub synced_tail : IsTail (synced_at doc q k) (after_turn doc q.process k)
  synced_tail = by_pass (has_pass doc q k) refl
    where
      h : List Entry
      h = synced_at doc q k

      by_pass : (b : Bool) → has_pass doc q k ≡ b → IsTail (synced_at doc q k) (after_turn doc q.process k)
      by_pass true due =
          subst (IsTail h) (sym (turn_phases doc own q k attended ∙ ap (λ b. evicted doc k q (tainted doc k q (cleaned doc k q (if b then whole_pass doc k q h else h)))) due))
          (keep_passed doc k q (IsTail h) (λ t other g at. inr at) (add k q Pass h) (inr (tail_all h)))
      by_pass false none =
          subst (IsTail h) (sym (turn_phases doc own q k attended ∙ ap (λ b. evicted doc k q (tainted doc k q (cleaned doc k q (if b then whole_pass doc k q h else h)))) none))
          (keep_later doc k q (IsTail h) (λ t other g at. inr at) h (tail_all h))

  -- and the history before the beat lies below it
  pub old_synced : IsTail (history doc k) (synced_at doc q k)
  old_synced =
      keep_sync doc k q (IsTail (history doc k)) (λ t other h at. inr at) (elector_turn doc k q.process (at_turn doc q.process k))
      (to_tick doc own q (IsTail (history doc k)) (λ x h other at. inr at) k attended (before_turn doc q.process k))

  pub synced_in : IsTail (synced_at doc q k) (history doc (suc k))
  synced_in = tail_trans (synced_at doc q k) (after_turn doc q.process k) (history doc (suc k)) synced_tail in_history

  -- the entry of a pass stands in the history
  pub pass_in : has_pass doc q k ≡ true → IsTail (add k q Pass (synced_at doc q k)) (history doc (suc k))
  pass_in due =
      let h = synced_at doc q k in
      tail_trans (add k q Pass h) (after_turn doc q.process k) (history doc (suc k))
      (subst (IsTail (add k q Pass h)) (sym (turn_phases doc own q k attended ∙ ap (λ b. evicted doc k q (tainted doc k q (cleaned doc k q (if b then whole_pass doc k q h else h)))) due))
      (keep_passed doc k q (IsTail (add k q Pass h)) (λ t other g at. inr at) (add k q Pass h) (tail_all (add k q Pass h))))
      in_history

-- ---- what passes say

module _ (doc : Doc) (own : ReleasesByStop doc) (q : Identity) (A : Type 0) (f : List Entry → Option A) where
  abbrev Says : Option A → List Entry → Type 0
  Says o h = newest (λ e T. at_pass q f e.actor e.fact T) h ≡ o

  foreign : (o : Option A) (x : Entry) (h : List Entry) → is_ticking q x.actor x.fact ≡ false → Says o h → Says o (x ∷ h)
  foreign o x h other s = ap (λ p. upper p (newest (λ e T. at_pass q f e.actor e.fact T) h)) (says x.actor x.fact other) ∙ s
    where
      of_tick : (who : Actor) (t : Tick) → is_by q who ≡ false → at_pass q f who (Ticks t) h ≡ None
      of_tick who Pass other = ap (λ b. only_if b (f h)) other
      of_tick who t other = refl

      says : (who : Actor) (d : Fact) → is_ticking q who d ≡ false → at_pass q f who d h ≡ None
      says who (Ticks t) other = of_tick who t other
      says who d other = refl

  own_tick : (o : Option A) (k : ℕ) (t : Tick) → is_pass t ≡ false → (h : List Entry) → Says o h → Says o (add k q t h)
  own_tick o k Pass other h s = absurd (true_is other)
  own_tick o k t other h s = s

  passed : (k : ℕ) (h : List Entry) → Says (upper (f h) (newest (λ e T. at_pass q f e.actor e.fact T) h)) (add k q Pass h)
  passed k h = ap (λ b. upper (only_if b (f h)) (newest (λ e T. at_pass q f e.actor e.fact T) h)) (same_self q)

  module _ (k : ℕ) (attended : IsAttended doc q k) where
    to_synced : (o : Option A) → Says o (at_turn doc q.process k) → Says o (synced_at doc q k)
    to_synced o s =
        keep_sync doc k q (Says o) (own_tick o k) (elector_turn doc k q.process (at_turn doc q.process k)) (to_tick doc own q (Says o) (foreign o) k attended s)

    to_next : (o : Option A) → Says o (after_turn doc q.process k) → Says o (at_turn doc q.process (suc k))
    to_next o s = next_turn doc own q (Says o) (foreign o) k (below_processes doc q k attended) s

    after_pass : has_pass doc q k ≡ true → Says (upper (f (synced_at doc q k)) (newest (λ e T. at_pass q f e.actor e.fact T) (synced_at doc q k))) (after_turn doc q.process k)
    after_pass due =
        let h = synced_at doc q k in
        let o = upper (f h) (newest (λ e T. at_pass q f e.actor e.fact T) h) in
        subst (Says o) (sym (turn_phases doc own q k attended ∙ ap (λ b. evicted doc k q (tainted doc k q (cleaned doc k q (if b then whole_pass doc k q h else h)))) due))
        (keep_passed doc k q (Says o) (own_tick o k) (add k q Pass h) (passed k h))

    after_none : (o : Option A) → has_pass doc q k ≡ false → Says o (synced_at doc q k) → Says o (after_turn doc q.process k)
    after_none o none s =
        let h = synced_at doc q k in
        subst (Says o) (sym (turn_phases doc own q k attended ∙ ap (λ b. evicted doc k q (tainted doc k q (cleaned doc k q (if b then whole_pass doc k q h else h)))) none))
        (keep_later doc k q (Says o) (own_tick o k) h s)

  -- up to the next pass they say what the last one said
  module _ (r m : ℕ) (attends : Attends doc q r m) (due : has_pass doc q r ≡ true) (none : (j : ℕ) → r < j → j < m → has_pass doc q j ≡ false) where
    abbrev said : Option A
    said = upper (f (synced_at doc q r)) (newest (λ e T. at_pass q f e.actor e.fact T) (synced_at doc q r))

    at_turns : (n : ℕ) → suc r + n ≤ m → Says said (at_turn doc q.process (suc r + n))
    at_turns zero le = let e : suc r ≡ suc r + 0 = omega arith in subst (λ k. Says said (at_turn doc q.process k)) e (to_next r (attends r (omega arith) (omega (arith, le))) said (after_pass r (attends r (omega arith) (omega (arith, le))) due))
    at_turns (suc n) le =
        let e : suc (suc r + n) ≡ suc r + suc n = omega arith in
        let here = attends (suc r + n) (omega arith) (omega (arith, le)) in
        subst (λ k. Says said (at_turn doc q.process k)) e
        (to_next (suc r + n) here said (after_none (suc r + n) here said (none (suc r + n) (omega arith) (omega (arith, le))) (to_synced (suc r + n) here said (at_turns n (omega (arith, le))))))

    pub still_said : r < m → Says said (synced_at doc q m)
    still_said lt =
        let e : suc r + (m - suc r) ≡ m = omega (arith, lt) in
        to_synced m (attends m (omega (arith, lt)) (omega arith)) said (subst (λ k. Says said (at_turn doc q.process k)) e (at_turns (m - suc r) (omega (arith, lt))))

-- where there was no pass, they say nothing
pub none_said : (q : Identity) (A : Type 0) (f : List Entry → Option A) (h : List Entry) → last_pass q h ≡ None → newest (λ e T. at_pass q f e.actor e.fact T) h ≡ None
none_said q A f [] none = refl
none_said q A f (x ∷ h) none = cases x.actor x.fact (λ none. none_said q A f h none) none
  where
    by_own : (last_pass q h ≡ None → newest (λ e T. at_pass q f e.actor e.fact T) h ≡ None) → (b : Bool) → upper (when b x.beat) (last_pass q h) ≡ None → upper (only_if b (f h)) (newest (λ e T. at_pass q f e.actor e.fact T) h) ≡ None
    by_own below true none = absurd (none_is x.beat (sym none))
    by_own below false none = below none

    of_tick : (who : Actor) (t : Tick) → (last_pass q h ≡ None → newest (λ e T. at_pass q f e.actor e.fact T) h ≡ None) → upper (pass_says q x.beat who (Ticks t)) (last_pass q h) ≡ None
        → upper (at_pass q f who (Ticks t) h) (newest (λ e T. at_pass q f e.actor e.fact T) h) ≡ None
    of_tick who Pass below none = by_own below (is_by q who) none
    of_tick who t below none = below none

    cases : (who : Actor) (d : Fact) → (last_pass q h ≡ None → newest (λ e T. at_pass q f e.actor e.fact T) h ≡ None) → upper (pass_says q x.beat who d) (last_pass q h) ≡ None
        → upper (at_pass q f who d h) (newest (λ e T. at_pass q f e.actor e.fact T) h) ≡ None
    cases who (Ticks t) below none = of_tick who t below none
    cases who d below none = below none
