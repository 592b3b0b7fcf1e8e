-- Passes come a monitor period apart, under the project's own rules, where their writes take no time.
use Rattle.std.proofs.Common.{◌≡◌, ◌⊎◌, ◌≤◌, ◌<◌, ℕ, zero, suc, ◌+◌, ◌-◌, ◌&&◌, not, nat_le, Bool, true, false, List, ◌∷◌, Option, Some, None, refl, sym, ap, ◌∙◌, subst, inl, inr, ⊎_elim, arith, if◌then◌else◌}
use Rattle.std.specs.Prelude.{if◌then◌else◌}
use Rattle.std.proofs.lemmas.Bool.{leb-true, le-leb, cases_lt, cases_eq}
use Rattle.kube_objects.specs.declared.deed.Actor.{Actor}
use Rattle.kube_objects.specs.Clocks.{local}
use Rattle.kube_objects.specs.Document.{Doc}
use Rattle.kube_objects.specs.Entry.{Entry, Identity, Fact, Ticks, Tick, Sync, Pass}
use Rattle.kube_objects.specs.Health.{pass_says, last_pass, pass_period, is_after_pass}
use Rattle.kube_objects.specs.Identities.{is_by}
use Rattle.kube_objects.specs.InForce.{watches}
use Rattle.kube_objects.specs.Newest.{newest, when, or_else}
use Rattle.kube_objects.specs.Own.{ReleasesByStop, PassesTakeNoWork}
use Rattle.kube_objects.specs.Seen.{is_fresh, synced_says, is_synced}
use Rattle.kube_objects.specs.Tick.{add, whole_pass, phases, evicted, tainted, cleaned}
use Rattle.kube_objects.proofs.Own.{pass_period-own}
use Rattle.history.specs.Evictions.{after_turn}
use Rattle.history.specs.History.{at_turn}
use Rattle.history.specs.Steps.{elector_turn}
use Rattle.history_laws.proofs.Plainly.{upper, same_self, true_is}
use Rattle.eviction_laws.proofs.Cache.{fresh_synced}
use Rattle.row_laws.specs.Keys.{is_ticking}
use Rattle.span_laws.specs.Spans.{RunsAtLeast, IsEnough}
use Rattle.span_laws.specs.Looks.{IsAtMost, IsAtLeast}
use Rattle.span_laws.proofs.Spans.{readings_grow, readings_last}
use Rattle.span_laws.proofs.Looks.{IsLook, first_look, next_look, first_most, next_most, look_least, not_over}
use Rattle.outage_laws.specs.Attended.{IsAttended, Attends}
use Rattle.outage_laws.specs.Passes.{synced_at, has_pass, monitor_period, IsFoundBy, PassesFind}
use Rattle.outage_laws.proofs.Turns.{ready, turn_is, to_tick, next_turn, below_processes}
use Rattle.outage_laws.proofs.Rest.{is_pass, keep_sync, keep_later, keep_passed}

-- ---- the last pass

foreign_pass : (q : Identity) (x : Entry) (h : List Entry) → is_ticking q x.actor x.fact ≡ false → last_pass q (x ∷ h) ≡ last_pass q h
foreign_pass q x h other = ap (λ o. upper o (last_pass q h)) (says x.actor x.fact other)
  where
    by_tick : (who : Actor) (t : Tick) → is_by q who ≡ false → pass_says q x.beat who (Ticks t) ≡ None
    by_tick who Pass other = ap (λ b. when b x.beat) other
    by_tick who t other = refl

    says : (who : Actor) (d : Fact) → is_ticking q who d ≡ false → pass_says q x.beat who d ≡ None
    says who (Ticks t) other = by_tick who t other
    says who d other = refl

own_pass : (q : Identity) (k : ℕ) (t : Tick) → is_pass t ≡ false → (h : List Entry) → last_pass q (add k q t h) ≡ last_pass q h
own_pass q k Pass other h = absurd (true_is other)
own_pass q k t other h = refl

-- the last pass is at this beat
abbrev LastPass : Identity → Option ℕ → List Entry → Type 0
LastPass q o h = last_pass q h ≡ o

module _ (doc : Doc) (own : ReleasesByStop doc) (q : Identity) (k : ℕ) (attended : IsAttended doc q k) where
  begun : List Entry
  begun = elector_turn doc k q.process (at_turn doc q.process k)

  synced : is_synced q (synced_at doc q k) ≡ true
  synced =
      ap (λ b. is_synced q (if (b && (watches doc q.process h && not (is_fresh q h))) then add k q Sync h else h)) (ready doc own q k attended).settled
      ∙ ap (λ b. is_synced q (if (b && not (is_fresh q h)) then add k q Sync h else h)) (ready doc own q k attended).watching
      ∙ by_test (is_fresh q h) refl
    where
      h : List Entry
      h = elector_turn doc k q.process (at_turn doc q.process k)

      by_test : (b : Bool) → is_fresh q h ≡ b → is_synced q (if (not b) then add k q Sync h else h) ≡ true
      by_test true is = fresh_synced q h is
      by_test false is = ap (λ b. or_else false (upper (when b true) (newest (λ e T. synced_says q e.actor e.fact) h))) (same_self q)

  -- the turn is what follows the sync
  pub turn_phases : after_turn doc q.process k ≡ phases doc k q (synced_at doc q k)
  turn_phases = turn_is doc own q k attended ∙ ap (λ b. if b then phases doc k q (synced_at doc q k) else synced_at doc q k) synced

  after_pass : has_pass doc q k ≡ true → LastPass q (Some k) (after_turn doc q.process k)
  after_pass due =
      let h = synced_at doc q k in
      ap (last_pass q) (turn_phases ∙ ap (λ b. evicted doc k q (tainted doc k q (cleaned doc k q (if b then whole_pass doc k q h else h)))) due)
      ∙ keep_passed doc k q (LastPass q (Some k)) (λ t other g s. own_pass q k t other g ∙ s) (add k q Pass h) (ap (λ b. upper (when b k) (last_pass q h)) (same_self q))

  after_none : (r : ℕ) → has_pass doc q k ≡ false → LastPass q (Some r) (synced_at doc q k) → LastPass q (Some r) (after_turn doc q.process k)
  after_none r none last =
      let h = synced_at doc q k in
      ap (last_pass q) (turn_phases ∙ ap (λ b. evicted doc k q (tainted doc k q (cleaned doc k q (if b then whole_pass doc k q h else h)))) none)
      ∙ keep_later doc k q (LastPass q (Some r)) (λ t other g s. own_pass q k t other g ∙ s) h last

  at_sync : (r : ℕ) → LastPass q (Some r) (at_turn doc q.process k) → LastPass q (Some r) (synced_at doc q k)
  at_sync r last =
      keep_sync doc k q (LastPass q (Some r)) (λ t other g s. own_pass q k t other g ∙ s) (elector_turn doc k q.process (at_turn doc q.process k))
      (to_tick doc own q (LastPass q (Some r)) (λ x h other s. foreign_pass q x h other ∙ s) k attended last)

  on : (r : ℕ) → LastPass q (Some r) (after_turn doc q.process k) → LastPass q (Some r) (at_turn doc q.process (suc k))
  on r last = next_turn doc own q (LastPass q (Some r)) (λ x h other s. foreign_pass q x h other ∙ s) k (below_processes doc q k attended) last

  -- it is due once the monitor period is over
  due_is : PassesTakeNoWork doc → (r : ℕ) → LastPass q (Some r) (at_turn doc q.process k) → has_pass doc q k ≡ nat_le (local doc q.process r + monitor_period doc) (local doc q.process k)
  due_is free r last =
      ap (is_after_pass doc k q (pass_period doc q (synced_at doc q k))) (at_sync r last)
      ∙ ap (λ n. nat_le (local doc q.process r + n) (local doc q.process k)) (pass_period-own doc free q (synced_at doc q k))

-- ---- the next pass

pub record Next (doc : Doc) (q : Identity) (r far : ℕ) : Type 0 where
  pub at : ℕ
  pub after : r < at
  pub most : at ≤ r + far
  pub pass : has_pass doc q at ≡ true
  pub over : local doc q.process r + monitor_period doc ≤ local doc q.process at
  pub none : (k : ℕ) → r < k → k < at → has_pass doc q k ≡ false

-- what fails up to a beat and at it
none_more : (f : ℕ → Bool) (r k : ℕ) → f k ≡ false → ((j : ℕ) → r < j → j < k → f j ≡ false) → (j : ℕ) → r < j → j < suc k → f j ≡ false
none_more f r k missing none j after before = by_case (cases_eq j k)
  where
    by_case : (j ≡ k) ⊎ (j ≡ k → ⊥) → f j ≡ false
    by_case (inl same) = subst (λ j. f j ≡ false) (sym same) missing
    by_case (inr other) = none j after (omega (arith, before, other))

module _ (doc : Doc) (own : ReleasesByStop doc) (free : PassesTakeNoWork doc) (q : Identity) (a e : ℕ) (attends : Attends doc q a e) (slow far : ℕ) (runs : RunsAtLeast doc q.process a e slow) (enough_far : IsEnough slow (monitor_period doc) far) where
  abbrev NoneYet : ℕ → ℕ → Type 0
  NoneYet r k = (j : ℕ) → r < j → j < k → has_pass doc q j ≡ false

  here_at : (r k : ℕ) → a ≤ r → r + far ≤ e → r < k → k ≤ r + far → IsAttended doc q k
  here_at r k from within lt le = attends k (omega (arith, from, lt)) (omega (arith, within, le))

  found : (r k : ℕ) → IsAttended doc q k → r < k → k ≤ r + far → LastPass q (Some r) (at_turn doc q.process k) → NoneYet r k → has_pass doc q k ≡ true → Next doc q r far
  found r k here lt le last none due = record {
    at = k;
    after = lt;
    most = le;
    pass = due;
    over = leb-true (local doc q.process r + monitor_period doc) (local doc q.process k) (sym (due_is doc own q k here free r last) ∙ due);
    none = none;
  }

  one_more : (r k : ℕ) → has_pass doc q k ≡ false → NoneYet r k → NoneYet r (suc k)
  one_more r k missing none = none_more (λ j. has_pass doc q j) r k missing none

  search : (n r k : ℕ) → a ≤ r → r + far ≤ e → k + n ≡ r + far → r < k → LastPass q (Some r) (at_turn doc q.process k) → NoneYet r k → Next doc q r far
  search zero r k from within is lt last none = by_pass (has_pass doc q k) refl
    where
      here : IsAttended doc q k
      here = here_at r k from within lt (omega (arith, is))

      by_pass : (b : Bool) → has_pass doc q k ≡ b → Next doc q r far
      by_pass true due = found r k here lt (omega (arith, is)) last none due
      by_pass false missing =
          let time : local doc q.process r + monitor_period doc ≤ local doc q.process k = readings_grow doc q.process a e slow (monitor_period doc) far runs enough_far r k from (omega (arith, is)) (omega (arith, is, within)) in
          absurd (true_is (sym (le-leb (local doc q.process r + monitor_period doc) (local doc q.process k) time) ∙ sym (due_is doc own q k here free r last) ∙ missing))
  search (suc n) r k from within is lt last none = by_pass (λ next missing. search n r (suc k) from within (omega (arith, is)) (omega (arith, lt)) next missing) (has_pass doc q k) refl
    where
      here : IsAttended doc q k
      here = here_at r k from within lt (omega (arith, is))

      by_pass : (LastPass q (Some r) (at_turn doc q.process (suc k)) → NoneYet r (suc k) → Next doc q r far) → (b : Bool) → has_pass doc q k ≡ b → Next doc q r far
      by_pass go true due = found r k here lt (omega (arith, is)) last none due
      by_pass go false missing = go (on doc own q k here r (after_none doc own q k here r missing (at_sync doc own q k here r last))) (one_more r k missing none)

  pub next_pass : (r : ℕ) → a ≤ r → 1 ≤ far → r + far ≤ e → has_pass doc q r ≡ true → Next doc q r far
  next_pass r from some within due =
      let here = attends r from (omega (arith, within)) in
      search (far - 1) r (suc r) from within (omega (arith, some)) (omega arith) (on doc own q r here r (after_pass doc own q r here due)) (λ j after before. absurd (omega (arith, after, before)))

-- ---- the pass that finds a time over

pub passes_find : PassesFind
passes_find doc own free q a e attends first slow fast near far slowly fastly near_needed far_enough some time enough needed most one is need greatest within =
    find (enough + far + 1) 0 a (first_look near far a) (first_most near far enough a) first (λ k after before pass. absurd (omega (arith, after, before))) (omega arith)
  where
    Result : Type 0
    Result = (m : ℕ) × IsFoundBy doc q time a m × (m ≤ e) × IsAtMost near far enough (m - a) × IsAtLeast near far needed (m - a)

    find : (n i r : ℕ) → IsLook near far a i r → IsAtMost near far enough (r - a) → has_pass doc q r ≡ true → ((k : ℕ) → a < k → k < r → has_pass doc q k ≡ true → local doc q.process k < local doc q.process a + time) → a + enough + far < r + n
        → (m : ℕ) × IsFoundBy doc q time a m × (m ≤ e) × IsAtMost near far enough (m - a) × IsAtLeast near far needed (m - a)
    find zero i r look bound due before lt = absurd (omega (arith, bound.1, lt, look.least))
    find (suc n) i r look bound due before lt = ⊎_elim (next (λ m s b d f l. find n (suc i) m s b d f l)) over (cases_lt (local doc q.process r) (local doc q.process a + time))
      where
        from : a ≤ r
        from = omega (arith, look.least)

        end : r ≤ e
        end = omega (arith, greatest (r - a) bound, within, from)

        later : local doc q.process a + time ≤ local doc q.process r → a < r
        later found = ⊎_elim (λ same. absurd (omega (arith, found, one, ap (local doc q.process) same))) (λ other. omega (arith, from, other)) (cases_eq a r)

        over : local doc q.process a + time ≤ local doc q.process r → (m : ℕ) × IsFoundBy doc q time a m × (m ≤ e) × IsAtMost near far enough (m - a) × IsAtLeast near far needed (m - a)
        over found = (
          r,
          record { after = later found; pass = due; over = found; first = before },
          end,
          bound,
          look_least near far needed a i r look (readings_last doc q.process a e fast time needed fastly need a r (omega arith) from end found),
        )

        next : ((m : ℕ) → IsLook near far a (suc i) m → IsAtMost near far enough (m - a) → has_pass doc q m ≡ true → ((k : ℕ) → a < k → k < m → has_pass doc q k ≡ true → local doc q.process k < local doc q.process a + time) → a + enough + far < m + n
            → (m : ℕ) × IsFoundBy doc q time a m × (m ≤ e) × IsAtMost near far enough (m - a) × IsAtLeast near far needed (m - a))
            → local doc q.process r < local doc q.process a + time → (m : ℕ) × IsFoundBy doc q time a m × (m ≤ e) × IsAtMost near far enough (m - a) × IsAtLeast near far needed (m - a)
        next go missed =
            let soon : r < a + enough = not_over doc q.process a e slow time enough slowly is a r (omega arith) end missed in
            let reach : IsAtMost near far enough ((r + far) - a) = next_most near far enough a i r (r + far) look soon (omega arith) (omega arith) in
            let p = next_pass doc own free q a e attends slow far slowly far_enough r from some (omega (arith, greatest ((r + far) - a) reach, within, from)) due in
            let stop : p.at ≤ e = omega (arith, p.most, greatest ((r + far) - a) reach, within, from) in
            go p.at
            (next_look near far a i r p.at look (readings_last doc q.process a e fast (monitor_period doc) near fastly near_needed r p.at from (omega (arith, p.after)) stop p.over) p.most)
            (next_most near far enough a i r p.at look soon (omega (arith, p.after)) p.most)
            p.pass
            (λ k after less pass. ⊎_elim (λ early. before k after early pass) (λ rest. ⊎_elim (λ same. subst (λ k. local doc q.process k < local doc q.process a + time) (sym same) missed) (λ other. absurd (true_is (sym pass ∙ p.none k (omega (arith, rest, other)) less))) (cases_eq k r)) (cases_lt k r))
            (omega (arith, lt, p.after))
