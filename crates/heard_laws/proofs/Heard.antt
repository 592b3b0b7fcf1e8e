-- Which passes hear of a node: none long after the last word of it, and one soon after a renewal: under the project's own rules.
use Rattle.std.proofs.Common.{◌≡◌, ◌∙◌, ◌⊎◌, ◌≤◌, ◌<◌, ℕ, suc, ◌+◌, ◌-◌, ◌||◌, not, nat_lt, Bool, true, false, List, [], ◌∷◌, Option, Some, None, refl, sym, ap, subst, inl, inr, ⊎_elim, arith}
use Rattle.std.proofs.lemmas.Bool.{lt-ltb, ltb-true, eq-eqb, cases_lt, cases_eq}
use Rattle.kube_base.specs.declared.numbers.Wall.{Wall}
use Rattle.kube_objects.specs.declared.deed.Actor.{Actor}
use Rattle.kube_objects.specs.declared.key.Key.{Key}
use Rattle.kube_objects.specs.declared.lease.Lease.{Lease}
use Rattle.kube_objects.specs.declared.object.Object.{Object}
use Rattle.kube_objects.specs.declared.object.Object.TheVariants as object
use Rattle.kube_objects.specs.Answers.{versioned, as_kind, node_in, lease_in}
use Rattle.kube_objects.specs.Document.{Doc}
use Rattle.kube_objects.specs.Entry.{Entry, Identity, Fact, Ticks, Tick, Sync, Pass, entry}
use Rattle.kube_objects.specs.Health.{at_pass, node_heartbeat, lease_renewal, heartbeat, renewal, keeps, is_found, is_known, kept_heartbeat, kept_renewal, is_news, is_later, hears, last_pass, pass_period, is_after_pass}
use Rattle.kube_objects.specs.Identities.{is_by}
use Rattle.kube_objects.specs.Newest.{newest, only_if, has, join, or_else}
use Rattle.kube_objects.specs.Own.{ReleasesByStop}
use Rattle.kube_objects.specs.Seen.{tick_shows, seen_says, seen}
use Rattle.kube_objects.specs.Stored.{Held, node_key, node_lease, at_key, write_of, tick_write, holds, last_write, stored}
use Rattle.kube_objects.specs.Tick.{add}
use Rattle.history.specs.Evictions.{stored_node}
use Rattle.history.specs.History.{history}
use Rattle.history_laws.specs.Order.{IsWithin, IsOrdered}
use Rattle.history_laws.specs.Tails.{In, IsTail}
use Rattle.history_laws.specs.Versions.{IsWritten}
use Rattle.history_laws.proofs.Order.{entries_are_ordered, entries_are_earlier}
use Rattle.history_laws.proofs.Plainly.{upper, same_self, none_is, true_is, false_is}
use Rattle.history_laws.proofs.Tailed.{tail_trans, tails_meet, in_tail, later_tail, same_head, count_tail}
use Rattle.history_laws.proofs.Versions.{versions_are_given}
use Rattle.eviction_laws.proofs.Cache.{Mirrors, last_seen}
use Rattle.outage_laws.specs.Attended.{IsAttended, Attends}
use Rattle.outage_laws.specs.Passes.{synced_at, has_pass}
use Rattle.outage_laws.proofs.Passes.{next_pass}
use Rattle.heard_laws.specs.Heard.{tells_of, IsLastTold, WritesLease, IsLatestRenewal, PassesHearInTime, RenewalsAreHeard}
use Rattle.heard_laws.proofs.Said.{IsLast, last_of, IsFirst, first_of, synced_mirrors, old_synced, synced_in, pass_in, still_said, none_said}
use Rattle.heard_laws.proofs.Words.{Word, Words, words, words_tail, telling_step, SameWord, same_words}

-- ---- positions

-- what stands below an entry is ordered
pub below_ordered : (x : Entry) (g h : List Entry) → IsTail (x ∷ g) h → IsOrdered h → (f : Entry) → In f g → IsWithin x.beat x.step f
below_ordered x g [] at order = absurd (none_there x g at)
  where
    none_there : (x : Entry) (g : List Entry) → x ∷ g ≡ [] → ⊥
    none_there x g is = cc
below_ordered x g (y ∷ h) (inl is) order = (subst IsOrdered (sym is) order).0
below_ordered x g (y ∷ h) (inr at) order = below_ordered x g h at order.1

word_at : (name : ℕ) (x : Entry) (g h : List Entry) → IsTail (x ∷ g) h → Words name h → Word name x.beat x.step x.actor x.fact g
word_at name x g h at s = (words_tail name (x ∷ g) h at s).0

-- what tells of a node up to a beat stands below the pass of that beat
module _ (doc : Doc) (own : ReleasesByStop doc) (q : Identity) (name k e : ℕ) (attended : IsAttended doc q k) (due : has_pass doc q k ≡ true) (le : k ≤ e) where
  pass_stands : IsTail (add k q Pass (synced_at doc q k)) (history doc (suc e))
  pass_stands = tail_trans (add k q Pass (synced_at doc q k)) (history doc (suc k)) (history doc (suc e)) (pass_in doc own q k attended due) (later_tail doc (suc k) (suc e) (omega (arith, le)))

  pub told_by : (y : Entry) (g : List Entry) → IsTail (y ∷ g) (history doc (suc e)) → tells_of name y.fact ≡ true → y.beat ≤ k → IsTail (y ∷ g) (synced_at doc q k)
  told_by y g at tells early = ⊎_elim below above (tails_meet (y ∷ g) (add k q Pass (synced_at doc q k)) (history doc (suc e)) at pass_stands)
    where
      untold : tells_of name (Ticks Pass) ≡ true → ⊥
      untold is = false_is is

      same : y ∷ g ≡ add k q Pass (synced_at doc q k) → ⊥
      same is = untold (sym (ap (λ (x : Entry). tells_of name x.fact) (same_head y (entry k 4 q (Ticks Pass)) g (synced_at doc q k) is)) ∙ tells)

      below : IsTail (y ∷ g) (add k q Pass (synced_at doc q k)) → IsTail (y ∷ g) (synced_at doc q k)
      below (inl is) = absurd (same is)
      below (inr at) = at

      step : (y.step ≡ 0) ⊎ ((y.step ≡ 1) ⊎ (y.step ≡ 2))
      step = telling_step name y.beat y.step y.actor y.fact g (word_at name y g (history doc (suc e)) at (words doc own name (suc e))) tells

      within : IsTail (add k q Pass (synced_at doc q k)) g → IsWithin y.beat y.step (entry k 4 q (Ticks Pass))
      within at_g = below_ordered y g (history doc (suc e)) at (entries_are_ordered doc (suc e)) (entry k 4 q (Ticks Pass)) (in_tail (entry k 4 q (Ticks Pass)) (add k q Pass (synced_at doc q k)) g at_g (inl refl))

      never : (y.step ≡ 0) ⊎ ((y.step ≡ 1) ⊎ (y.step ≡ 2)) → IsWithin y.beat y.step (entry k 4 q (Ticks Pass)) → ⊥
      never step (inl before) = absurd (omega (arith, before, early))
      never (inl is) (inr here) = absurd (omega (arith, here.1, is))
      never (inr (inl is)) (inr here) = absurd (omega (arith, here.1, is))
      never (inr (inr is)) (inr here) = absurd (omega (arith, here.1, is))

      above : IsTail (add k q Pass (synced_at doc q k)) (y ∷ g) → IsTail (y ∷ g) (synced_at doc q k)
      above (inl is) = absurd (same (sym is))
      above (inr at_g) = absurd (never step (within at_g))

pub no_cycle : (x : Entry) (g : List Entry) → IsTail (x ∷ g) g → ⊥
no_cycle x g at = omega (arith, count_tail (λ e. true) (x ∷ g) g at)

-- what tells of a node does so no later than the last such write
pub told_early : (doc : Doc) (name v e : ℕ) (told : IsLastTold doc name v e) (y : Entry) (g : List Entry) → IsTail (y ∷ g) (history doc (suc e)) → tells_of name y.fact ≡ true → y.beat ≤ v
told_early doc name v e told y g at tells = ⊎_elim below above (tails_meet (y ∷ g) (told.x ∷ told.before) (history doc (suc e)) at told.stands)
  where
    same : y ≡ told.x → y.beat ≤ v
    same is = let b : y.beat ≡ told.x.beat = ap (λ (x : Entry). x.beat) is in omega (arith, b, told.beat)

    within : IsWithin told.x.beat told.x.step y → y.beat ≤ v
    within (inl before) = omega (arith, before, told.beat)
    within (inr here) = omega (arith, here.0, told.beat)

    below : IsTail (y ∷ g) (told.x ∷ told.before) → y.beat ≤ v
    below (inl is) = same (same_head y told.x g told.before is)
    below (inr at) = within (below_ordered told.x told.before (history doc (suc e)) told.stands (entries_are_ordered doc (suc e)) y (in_tail y (y ∷ g) told.before at (inl refl)))

    above : IsTail (told.x ∷ told.before) (y ∷ g) → y.beat ≤ v
    above (inl is) = same (sym (same_head told.x y told.before g is))
    above (inr since) = absurd (true_is (sym tells ∙ told.last y g at since))

-- ---- a pass that hears nothing new

not_news : (found : Bool) (w : Option Wall) (old : Option (Option Wall)) → found ≡ true → is_news w (join (upper (keeps found w) old)) ≡ false
not_news false w old found = absurd (false_is found)
not_news true None old found = refl
not_news true (Some at) old found = ap not (eq-eqb at.0 at.0 refl)

not_later : (found : Bool) (w : Option Wall) (old : Option (Option Wall)) → found ≡ true → is_later w (join (upper (keeps found w) old)) ≡ false
not_later false w old found = absurd (false_is found)
not_later true None old found = refl
not_later true (Some at) old found = not_less at.0
  where
    not_less : (n : ℕ) → nat_lt n n ≡ false
    not_less n = by_test (nat_lt n n) refl
      where
        by_test : (b : Bool) → nat_lt n n ≡ b → b ≡ false
        by_test true is = let lt : n < n = ltb-true n n is in absurd (omega (arith, lt))
        by_test false is = refl

none_heard : (a b c : Bool) → a ≡ true → b ≡ false → c ≡ false → (not a || b || c) ≡ false
none_heard a b c ha hb hc = ap (λ a. not a || b || c) ha ∙ ap (λ b. false || b || c) hb ∙ hc

later_heard : (a b c : Bool) → c ≡ true → (not a || b || c) ≡ true
later_heard true true c hc = refl
later_heard true false c hc = hc
later_heard false b c hc = refl

-- a pass and an earlier one, with no pass between
module _ (doc : Doc) (own : ReleasesByStop doc) (q : Identity) (name r p : ℕ) (attends : Attends doc q r p) (due : has_pass doc q r ≡ true) (lt : r < p) (none : (j : ℕ) → r < j → j < p → has_pass doc q j ≡ false) where
  abbrev low : List Entry
  low = synced_at doc q r

  abbrev high : List Entry
  high = synced_at doc q p

  low_mirrors : Mirrors q low
  low_mirrors = synced_mirrors doc own q r (attends r (omega arith) (omega (arith, lt)))

  high_mirrors : Mirrors q high
  high_mirrors = synced_mirrors doc own q p (attends p (omega (arith, lt)) (omega arith))

  -- what is known then is whether the earlier one found it, and so is what it kept
  known_is : is_known q name high ≡ is_found q name low
  known_is = ap (or_else false) (still_said doc own q Bool (λ T. Some (is_found q name T)) r p attends due none lt)

  heartbeat_is : kept_heartbeat q name high ≡ join (upper (keeps (is_found q name low) (heartbeat q name low)) (newest (λ e T. at_pass q (λ T. keeps (is_found q name T) (heartbeat q name T)) e.actor e.fact T) low))
  heartbeat_is = ap join (still_said doc own q (Option Wall) (λ T. keeps (is_found q name T) (heartbeat q name T)) r p attends due none lt)

  renewal_is : kept_renewal q name high ≡ join (upper (keeps (is_found q name low) (renewal q name low)) (newest (λ e T. at_pass q (λ T. keeps (is_found q name T) (renewal q name T)) e.actor e.fact T) low))
  renewal_is = ap join (still_said doc own q (Option Wall) (λ T. keeps (is_found q name T) (renewal q name T)) r p attends due none lt)

  -- the same word is no news
  silent : SameWord name low high → has (stored_node name high) ≡ true → hears q name high ≡ false
  silent same stored =
      none_heard (is_known q name high) (is_news (heartbeat q name high) (kept_heartbeat q name high)) (is_later (renewal q name high) (kept_renewal q name high))
      (known_is ∙ found)
      (ap (λ w. is_news w (kept_heartbeat q name high)) same_heartbeat ∙ ap (is_news (heartbeat q name low)) heartbeat_is ∙ not_news (is_found q name low) (heartbeat q name low) _ found)
      (ap (λ w. is_later w (kept_renewal q name high)) same_renewal ∙ ap (is_later (renewal q name low)) renewal_is ∙ not_later (is_found q name low) (renewal q name low) _ found)
    where
      found : is_found q name low ≡ true
      found = ap (λ o. has (as_kind node_in o)) (low_mirrors (node_key name)) ∙ sym same.found ∙ stored

      same_heartbeat : heartbeat q name high ≡ heartbeat q name low
      same_heartbeat = ap (λ o. node_heartbeat (as_kind node_in o)) (high_mirrors (node_key name)) ∙ same.heartbeat ∙ sym (ap (λ o. node_heartbeat (as_kind node_in o)) (low_mirrors (node_key name)))

      same_renewal : renewal q name high ≡ renewal q name low
      same_renewal = ap (λ o. lease_renewal (as_kind lease_in o)) (high_mirrors (node_lease name) ∙ same.lease ∙ sym (low_mirrors (node_lease name)))

  -- the earlier position lies below
  low_high : IsTail low high
  low_high =
      tail_trans low (history doc p) high
      (tail_trans low (history doc (suc r)) (history doc p) (synced_in doc own q r (attends r (omega arith) (omega (arith, lt)))) (later_tail doc (suc r) p (omega (arith, lt))))
      (old_synced doc own q p (attends p (omega (arith, lt)) (omega arith)))

  -- nothing tells of the node between, where the last that does so comes no later than the earlier pass
  untold : (v e : ℕ) → p ≤ e → IsLastTold doc name v e → v ≤ r → SameWord name low high
  untold v e end told early =
      same_words name low high low_high (words_tail name high (history doc (suc p)) in_p (words doc own name (suc p)))
      (λ y t stands since. by_test y t stands since (tells_of name y.fact) refl)
    where
      in_p : IsTail high (history doc (suc p))
      in_p = synced_in doc own q p (attends p (omega (arith, lt)) (omega arith))

      by_test : (y : Entry) (t : List Entry) → IsTail (y ∷ t) high → IsTail low t → (b : Bool) → tells_of name y.fact ≡ b → b ≡ false
      by_test y t stands since false tells = refl
      by_test y t stands since true tells =
          let at = tail_trans (y ∷ t) high (history doc (suc e)) stands (tail_trans high (history doc (suc p)) (history doc (suc e)) in_p (later_tail doc (suc p) (suc e) (omega (arith, end)))) in
          let soon = told_early doc name v e told y t at tells in
          absurd (no_cycle y t (tail_trans (y ∷ t) low t
          (told_by doc own q name r e (attends r (omega arith) (omega (arith, lt))) due (omega (arith, lt, end)) y t at tells (omega (arith, soon, early))) since))

-- ---- the upper bound

pub passes_hear_in_time : PassesHearInTime
passes_hear_in_time doc own free q name a p e v attends first told slow far runs enough some from to heard = ⊎_elim (λ same. inl same) (λ other. inr (later (omega (arith, from, other)))) (cases_eq p a)
  where
    later : a < p → p < v + far
    later lt = ⊎_elim (λ early. omega (arith, early, soon)) (λ late. absurd (true_is (sym heard.heard ∙ quiet late))) (cases_lt last.at v)
      where
        last : IsLast (has_pass doc q) a (p - 1 - a)
        last = last_of (has_pass doc q) a (p - 1 - a) first

        before : last.at < p
        before = omega (arith, last.most, lt)

        none : (j : ℕ) → last.at < j → j < p → has_pass doc q j ≡ false
        none j after less = last.none j after (omega (arith, less, lt))

        soon : p ≤ last.at + far
        soon = ⊎_elim (λ beyond. omega (arith, beyond, to)) (λ within. by_next within) (cases_lt e (last.at + far))
          where
            by_next : last.at + far ≤ e → p ≤ last.at + far
            by_next within =
                let next = next_pass doc own free q a e attends slow far runs enough last.at last.least some within last.is in
                ⊎_elim (λ less. absurd (true_is (sym next.pass ∙ none next.at next.after less))) (λ le. omega (arith, le, next.most)) (cases_lt next.at p)

        within_span : Attends doc q last.at p
        within_span k low high = attends k (omega (arith, low, last.least)) (omega (arith, high, to))

        quiet : v ≤ last.at → hears q name (synced_at doc q p) ≡ false
        quiet late = silent doc own q name last.at p within_span last.is before none (untold doc own q name last.at p within_span last.is before none v e to told late) heard.found

-- ---- where what is seen and kept was written

written_seen : (q : Identity) (key : Key) (h : List Entry) (x : Held) → seen q key h ≡ Some x → IsWritten key h x
written_seen q key [] x is = absurd (none_is x is)
written_seen q key (e ∷ h) x is = cases (λ is. earlier (written_seen q key h x is)) e.actor e.fact (λ is. (versions_are_given (e ∷ h) key x is).0) is
  where
    earlier : IsWritten key h x → IsWritten key (e ∷ h) x
    earlier s = record { e = s.e; before = s.before; position = inr s.position; write = s.write; version = s.version; beat = s.beat; by = s.by }

    -- a write of the cache's own is on top
    writes : (seen q key h ≡ Some x → IsWritten key (e ∷ h) x) → (who : Actor) (o : Option (Option Object)) → (join (upper (holds h e.beat who o) (last_write key h)) ≡ Some x → IsWritten key (e ∷ h) x)
        → join (upper (holds h e.beat who o) (last_seen q key h)) ≡ Some x → IsWritten key (e ∷ h) x
    writes below who None top is = below is
    writes below who (Some None) top is = absurd (none_is x is)
    writes below who (Some (Some object)) top is = top is

    own : (seen q key h ≡ Some x → IsWritten key (e ∷ h) x) → (who : Actor) (t : Tick) → (join (upper (holds h e.beat who (at_key key (tick_write t))) (last_write key h)) ≡ Some x → IsWritten key (e ∷ h) x)
        → join (upper (tick_shows key e.beat who t h) (last_seen q key h)) ≡ Some x → IsWritten key (e ∷ h) x
    own below who Sync top is = earlier (versions_are_given h key x is).0
    own below who t top is = writes below who (at_key key (tick_write t)) top is

    by_own : (seen q key h ≡ Some x → IsWritten key (e ∷ h) x) → (who : Actor) (t : Tick) (b : Bool) → (join (upper (holds h e.beat who (at_key key (tick_write t))) (last_write key h)) ≡ Some x → IsWritten key (e ∷ h) x)
        → join (upper (only_if b (tick_shows key e.beat who t h)) (last_seen q key h)) ≡ Some x → IsWritten key (e ∷ h) x
    by_own below who t true top is = own below who t top is
    by_own below who t false top is = below is

    cases : (seen q key h ≡ Some x → IsWritten key (e ∷ h) x) → (who : Actor) (d : Fact) → (join (upper (holds h e.beat who (at_key key (write_of d))) (last_write key h)) ≡ Some x → IsWritten key (e ∷ h) x)
        → join (upper (seen_says q key e.beat who d h) (last_seen q key h)) ≡ Some x → IsWritten key (e ∷ h) x
    cases below who (Ticks t) top is = by_own below who t (is_by q who) top is
    cases below who d top is = below is

-- an entry of the history wrote the node's Lease with this renew time
record Renewed (name : ℕ) (time : Wall) (h : List Entry) : Type 0 where
  y : Entry
  before : List Entry
  position : IsTail (y ∷ before) h
  old : Lease
  write : WritesLease name y.fact old
  is : old.renewed ≡ Some time

renewed_more : (name : ℕ) (time : Wall) (x : Entry) (h : List Entry) → Renewed name time h → Renewed name time (x ∷ h)
renewed_more name time x h s = record { y = s.y; before = s.before; position = inr s.position; old = s.old; write = s.write; is = s.is }

renewal_written : (q : Identity) (name : ℕ) (h : List Entry) (time : Wall) → renewal q name h ≡ Some time → Renewed name time h
renewal_written q name h time is = by_seen (seen q (node_lease name) h) refl is
  where
    by_object : (x : Held) → seen q (node_lease name) h ≡ Some x → (o : Object) → x.object ≡ o → lease_renewal (versioned x.version (lease_in o)) ≡ Some time → Renewed name time h
    by_object x sees (object.Lease lease) same is =
        let w = written_seen q (node_lease name) h x sees in
        record { y = w.e; before = w.before; position = w.position; old = lease; write = w.write ∙ ap (λ o. Some (Some o)) same; is = is }
    by_object x sees (object.Node node) same is = absurd (none_is time is)
    by_object x sees (object.Pod pod) same is = absurd (none_is time is)

    by_seen : (o : Option Held) → seen q (node_lease name) h ≡ o → lease_renewal (as_kind lease_in o) ≡ Some time → Renewed name time h
    by_seen None sees is = absurd (none_is time is)
    by_seen (Some x) sees is = by_object x sees x.object refl is

kept_written : (q : Identity) (name : ℕ) (time : Wall) (h : List Entry) → kept_renewal q name h ≡ Some time → Renewed name time h
kept_written q name time [] is = absurd (none_is time is)
kept_written q name time (x ∷ h) is = cases (λ is. renewed_more name time x h (kept_written q name time h is)) x.actor x.fact is
  where
    last_kept : Option (Option Wall)
    last_kept = newest (λ e T. at_pass q (λ T. keeps (is_found q name T) (renewal q name T)) e.actor e.fact T) h

    by_value : (join last_kept ≡ Some time → Renewed name time (x ∷ h)) → (found : Bool) (w : Option Wall) → renewal q name h ≡ w → join (upper (keeps found w) last_kept) ≡ Some time → Renewed name time (x ∷ h)
    by_value below false w same is = absurd (none_is time is)
    by_value below true None same is = below is
    by_value below true (Some at) same is = renewed_more name time x h (renewal_written q name h time (same ∙ is))

    by_own : (join last_kept ≡ Some time → Renewed name time (x ∷ h)) → (b : Bool) → join (upper (only_if b (keeps (is_found q name h) (renewal q name h))) last_kept) ≡ Some time → Renewed name time (x ∷ h)
    by_own below true is = by_value below (is_found q name h) (renewal q name h) refl is
    by_own below false is = below is

    of_tick : (join last_kept ≡ Some time → Renewed name time (x ∷ h)) → (who : Actor) (t : Tick)
        → join (upper (at_pass q (λ T. keeps (is_found q name T) (renewal q name T)) who (Ticks t) h) last_kept) ≡ Some time → Renewed name time (x ∷ h)
    of_tick below who Pass is = by_own below (is_by q who) is
    of_tick below who t is = below is

    cases : (join last_kept ≡ Some time → Renewed name time (x ∷ h)) → (who : Actor) (d : Fact)
        → join (upper (at_pass q (λ T. keeps (is_found q name T) (renewal q name T)) who d h) last_kept) ≡ Some time → Renewed name time (x ∷ h)
    cases below who (Ticks t) is = of_tick below who t is
    cases below who d is = below is

-- ---- a renewal is heard

-- by the first pass of the term
pub first_hears : (q : Identity) (name : ℕ) (h : List Entry) → last_pass q h ≡ None → hears q name h ≡ true
first_hears q name h none =
    ap (λ a. not a || is_news (heartbeat q name h) (kept_heartbeat q name h) || is_later (renewal q name h) (kept_renewal q name h))
    (ap (or_else false) (none_said q Bool (λ T. Some (is_found q name T)) h none))

module _ (doc : Doc) (own : ReleasesByStop doc) (q : Identity) (name e v : ℕ) (told : IsLastTold doc name v e) (renews : IsLatestRenewal name told.x told.before)
    (r m : ℕ) (attends : Attends doc q r m) (due : has_pass doc q r ≡ true) (passes : has_pass doc q m ≡ true) (early : r < v) (late : v ≤ m) (end : m ≤ e) (none : (j : ℕ) → r < j → j < m → has_pass doc q j ≡ false) where
  abbrev lt : r < m
  lt = omega (arith, early, late)

  here : IsAttended doc q m
  here = attends m (omega (arith, lt)) (omega arith)

  -- the renewal stands below the later pass, and is what is stored there
  stands : IsTail (told.x ∷ told.before) (synced_at doc q m)
  stands = told_by doc own q name m e here passes end told.x told.before told.stands told.tells (omega (arith, told.beat, late))

  high_in : IsTail (synced_at doc q m) (history doc (suc e))
  high_in = tail_trans (synced_at doc q m) (history doc (suc m)) (history doc (suc e)) (synced_in doc own q m here) (later_tail doc (suc m) (suc e) (omega (arith, end)))

  since : SameWord name (told.x ∷ told.before) (synced_at doc q m)
  since =
      same_words name (told.x ∷ told.before) (synced_at doc q m) stands (words_tail name (synced_at doc q m) (history doc (suc e)) high_in (words doc own name (suc e)))
      (λ y t at after. told.last y t (tail_trans (y ∷ t) (synced_at doc q m) (history doc (suc e)) at high_in) after)

  renewal_at : renewal q name (synced_at doc q m) ≡ Some renews.at
  renewal_at =
      ap (λ o. lease_renewal (as_kind lease_in o)) (synced_mirrors doc own q m here (node_lease name) ∙ since.lease)
      ∙ ap (λ o. lease_renewal (as_kind lease_in (join (upper (holds told.before told.x.beat told.x.actor o) (last_write (node_lease name) told.before))))) renews.writes
      ∙ renews.renewed

  -- what was kept was written before it
  never : IsTail (told.x ∷ told.before) (history doc v) → ⊥
  never at = by_order (entries_are_earlier doc v told.x (in_tail told.x (told.x ∷ told.before) (history doc v) at (inl refl)))
    where
      by_order : (told.x.beat < v) ⊎ ((told.x.beat ≡ 0) × (told.x.step ≡ 0)) → ⊥
      by_order (inl before) = omega (arith, before, told.beat)
      by_order (inr zero) = omega (arith, zero.0, told.beat, early)

  kept_before : (time : Wall) → kept_renewal q name (synced_at doc q m) ≡ Some time → time.0 < renews.at.0
  kept_before time is = by_position (tails_meet (w.y ∷ w.before) (told.x ∷ told.before) (history doc (suc e)) in_e told.stands)
    where
      passed : kept_renewal q name (add r q Pass (synced_at doc q r)) ≡ Some time
      passed =
          ap (λ b. join (upper (only_if b (keeps (is_found q name (synced_at doc q r)) (renewal q name (synced_at doc q r)))) (newest (λ e T. at_pass q (λ T. keeps (is_found q name T) (renewal q name T)) e.actor e.fact T) (synced_at doc q r)))) (same_self q)
          ∙ sym (renewal_is doc own q name r m attends due lt none) ∙ is

      w : Renewed name time (add r q Pass (synced_at doc q r))
      w = kept_written q name time (add r q Pass (synced_at doc q r)) passed

      in_v : IsTail (w.y ∷ w.before) (history doc v)
      in_v =
          tail_trans (w.y ∷ w.before) (add r q Pass (synced_at doc q r)) (history doc v) w.position
          (tail_trans (add r q Pass (synced_at doc q r)) (history doc (suc r)) (history doc v) (pass_in doc own q r (attends r (omega arith) (omega (arith, lt))) due) (later_tail doc (suc r) v (omega (arith, early))))

      in_e : IsTail (w.y ∷ w.before) (history doc (suc e))
      in_e = tail_trans (w.y ∷ w.before) (history doc v) (history doc (suc e)) in_v (later_tail doc v (suc e) (omega (arith, late, end)))

      by_position : IsTail (w.y ∷ w.before) (told.x ∷ told.before) ⊎ IsTail (told.x ∷ told.before) (w.y ∷ w.before) → time.0 < renews.at.0
      by_position (inl (inl is)) = absurd (never (subst (λ h. IsTail h (history doc v)) is in_v))
      by_position (inl (inr at)) = renews.later w.y w.before w.old time at w.write w.is
      by_position (inr at) = absurd (never (tail_trans (told.x ∷ told.before) (w.y ∷ w.before) (history doc v) at in_v))

  later_is : is_later (renewal q name (synced_at doc q m)) (kept_renewal q name (synced_at doc q m)) ≡ true
  later_is = ap (λ w. is_later w (kept_renewal q name (synced_at doc q m))) renewal_at ∙ by_kept (kept_renewal q name (synced_at doc q m)) refl
    where
      by_kept : (o : Option Wall) → kept_renewal q name (synced_at doc q m) ≡ o → is_later (Some renews.at) o ≡ true
      by_kept None is = refl
      by_kept (Some time) is = lt-ltb time.0 renews.at.0 (kept_before time is)

  pub renewal_heard : hears q name (synced_at doc q m) ≡ true
  renewal_heard =
      let h = synced_at doc q m in
      later_heard (is_known q name h) (is_news (heartbeat q name h) (kept_heartbeat q name h)) (is_later (renewal q name h) (kept_renewal q name h)) later_is

pub renewals_are_heard : RenewalsAreHeard
renewals_are_heard doc own q name a e v attends none from told renews k least most due =
    (m, first.least, omega (arith, first.most, least), first.is, ⊎_elim same (λ other. later (omega (arith, first.least, from, other))) (cases_eq m a))
  where
    first : IsFirst (has_pass doc q) v (k - v)
    first = let e : k ≡ v + (k - v) = omega (arith, least) in first_of (has_pass doc q) v (k - v) (subst (λ k. has_pass doc q k ≡ true) e due)

    m : ℕ
    m = first.at

    end : m ≤ e
    end = omega (arith, first.most, least, most)

    same : m ≡ a → hears q name (synced_at doc q m) ≡ true
    same is = subst (λ k. hears q name (synced_at doc q k) ≡ true) (sym is) (first_hears q name (synced_at doc q a) none)

    passes : has_pass doc q a ≡ true
    passes = ap (is_after_pass doc a q (pass_period doc q (synced_at doc q a))) none

    later : a < m → hears q name (synced_at doc q m) ≡ true
    later lt = ⊎_elim before (λ le. absurd (true_is (sym passes ∙ first.none a le lt))) (cases_lt a v)
      where
        before : a < v → hears q name (synced_at doc q m) ≡ true
        before early = renewal_heard doc own q name e v told renews last.at m within_span last.is first.is (omega (arith, last.most, early)) first.least end none_between
          where
            last : IsLast (has_pass doc q) a (v - 1 - a)
            last = last_of (has_pass doc q) a (v - 1 - a) passes

            within_span : Attends doc q last.at m
            within_span j low high = attends j (omega (arith, low, last.least)) (omega (arith, high, end))

            none_between : (j : ℕ) → last.at < j → j < m → has_pass doc q j ≡ false
            none_between j after less = ⊎_elim (λ low. last.none j after (omega (arith, low, early))) (λ high. first.none j high less) (cases_lt j v)
