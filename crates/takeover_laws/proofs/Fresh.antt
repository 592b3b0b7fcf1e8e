-- Deadlines: who sets one later than now, whose they are, and what a turn past one does.
use Rattle.std.proofs.Common.{◌≡◌, ◌⊎◌, ◌<◌, ◌≤◌, ℕ, zero, suc, ◌+◌, ◌&&◌, not, nat_lt, min, Bool, true, false, List, [], ◌∷◌, Option, Some, None, refl, sym, ap, ◌∙◌, subst, inl, inr, ⊎_elim, arith}
use Rattle.std.specs.Prelude.{if◌then◌else◌}
use Rattle.std.proofs.lemmas.Bool.{ltb-false, eq-eqb, cases_eq}
use Rattle.kube_objects.specs.declared.deed.Actor.{Actor}
use Rattle.kube_objects.specs.declared.key.Key.{Key}
use Rattle.kube_objects.specs.declared.object.Object.{Object}
use Rattle.kube_objects.specs.declared.script.Event.{Event}
use Rattle.kube_objects.specs.Clocks.{local, store_wall, whole_second}
use Rattle.kube_objects.specs.Document.{Doc, end_beat, is_controller, retry_period, renew_deadline}
use Rattle.kube_objects.specs.Elector.{succeeds, lead_says, leads, deadline_says, deadline, is_before, in_term, acts}
use Rattle.kube_objects.specs.Entry.{Entry, Identity, Call, Fact, First, Starts, Delivers, Expires, Leads, entry, script_entry, StepsDown, ReleaseBegins, ReleaseEnds, ReleaseStops}
use Rattle.kube_objects.specs.Identities.{is_same, is_by, of_process}
use Rattle.kube_objects.specs.Newest.{newest, when, join, has}
use Rattle.kube_objects.specs.Pauses.{pause_of, is_paused, is_ahead, wait_of, last_wait, reading_of, can_at}
use Rattle.kube_objects.specs.Process.{gone, life, alive, is_start, starts, call_in, is_late, release_begun, is_present}
use Rattle.kube_objects.specs.Stamps.{stamped}
use Rattle.kube_objects.specs.Turns.{expire_as, expire_call, end_as, end_term}
use Rattle.kube_objects.specs.Own.{ReleasesByStop}
use Rattle.kube_objects.proofs.Clocks.{local_up}
use Rattle.kube_objects.proofs.Own.{expire_as-own, acts-own, end_term-own}
use Rattle.history.specs.History.{put_all, history, at_turn}
use Rattle.history.specs.Steps.{if_up, restart_if, restart, expire, finish, turn, controller_turn, kubelet_turn, unpaused_turn}
use Rattle.history_laws.specs.Tails.{IsTail}
use Rattle.history_laws.proofs.Counting.{when_test, when_value}
use Rattle.history_laws.proofs.Lives.{Counted, Over, counted_more, over_more}
use Rattle.history_laws.proofs.Plainly.{upper, some_is, none_is, false_is, and_left, and_right, not_true, same_is, added_more, and_both}
use Rattle.history_laws.proofs.Tailed.{tail_all, tail_trans}
use Rattle.history_laws.proofs.Walk.{Anyone, KeepsTurn, KeepsReleaseTurn, Keeps, KeepsRelease, LeadIsUp, StartIsNext, all_kinds, all_release, all_turns, all_release_turns, walk_history, walk_at_turn, walk_any_after_end}
use Rattle.call_laws.proofs.Above.{Above}
use Rattle.call_laws.proofs.Making.{MadeAs, are_made}

-- ---- a deadline is later than now

pub can_least : (doc : Doc) (p at : ℕ) → at ≤ can_at doc p at
can_least doc p at = by_wait (last_wait doc p at doc.events) refl
  where
    reached : (k : ℕ) → not (is_ahead doc p at k) ≡ true → at ≤ local doc p k
    reached zero is = absurd (false_is is)
    reached (suc k) is = let le : at ≤ local doc p k = ltb-false (local doc p k) at (not_true (nat_lt (local doc p k) at) is) in omega (arith, le, local_up doc p k (suc k) (omega arith))

    one : (from : ℕ) (o : Option ℕ) (k : ℕ) → wait_of doc p at from o ≡ Some k → at ≤ local doc p k
    one from None k is = absurd (none_is k is)
    one from (Some beats) k is =
        let end = min (from + beats) (end_beat doc) in
        let test = is_ahead doc p at from && not (is_ahead doc p at end) in
        subst (λ k. at ≤ local doc p k) (when_value test end k is) (reached end (and_right (is_ahead doc p at from) (not (is_ahead doc p at end)) (when_test test end k is)))

    waited : (es : List Event) (k : ℕ) → last_wait doc p at es ≡ Some k → at ≤ local doc p k
    waited [] k is = absurd (none_is k is)
    waited (e ∷ es) k is = cases (last_wait doc p at es) (waited es k) is
      where
        cases : (o : Option ℕ) → (o ≡ Some k → at ≤ local doc p k) → upper o (wait_of doc p at e.beat.0 (pause_of p e.what)) ≡ Some k → at ≤ local doc p k
        cases None below is = one e.beat.0 (pause_of p e.what) k is
        cases (Some j) below is = below is

    by_wait : (o : Option ℕ) → last_wait doc p at doc.events ≡ o → at ≤ reading_of doc p at o
    by_wait None is = omega arith
    by_wait (Some k) is = waited doc.events k is

-- what an entry at beat k sets as a deadline is after the reading at k
pub sets_later : (doc : Doc) (q : Identity) (k : ℕ) (who : Actor) (led : Bool) (d : Fact) (at : ℕ) → 1 ≤ renew_deadline doc q.process → deadline_says doc q k who led d ≡ Some at → local doc q.process k < at
sets_later doc q k who led d at lasts is = grind (arith, when_value, can_least)

-- a deadline that is there and after a reading
pub record IsAfter (now : ℕ) (o : Option ℕ) : Type 0 where
  pub at : ℕ
  pub is : o ≡ Some at
  pub later : now < at

-- a term that isn't over at beat k
abbrev pub IsFresh : Doc → Identity → ℕ → List Entry → Type 0
IsFresh doc q k h = IsAfter (local doc q.process k) (deadline doc q h)

-- over entries of beat k and later a deadline stays, or is set anew
pub same_or_fresh : (doc : Doc) (q : Identity) (k : ℕ) (g h : List Entry) → 1 ≤ renew_deadline doc q.process → Above (λ e. k ≤ e.beat) g h → (deadline doc q h ≡ deadline doc q g) ⊎ IsFresh doc q k h
same_or_fresh doc q k g [] lasts above = inl (ap (deadline doc q) (sym above))
same_or_fresh doc q k g (x ∷ h) lasts (inl is) = inl (ap (deadline doc q) (sym is))
same_or_fresh doc q k g (x ∷ h) lasts (inr above) = by_says (deadline_says doc q x.beat x.actor (leads q h) x.fact) refl (same_or_fresh doc q k g h lasts above.1)
  where
    by_says : (o : Option ℕ) → deadline_says doc q x.beat x.actor (leads q h) x.fact ≡ o → (deadline doc q h ≡ deadline doc q g) ⊎ IsFresh doc q k h
        → (upper o (deadline doc q h) ≡ deadline doc q g) ⊎ IsAfter (local doc q.process k) (upper o (deadline doc q h))
    by_says None is old = old
    by_says (Some at) is old = inr (record { at = at; is = refl; later = omega (arith, sets_later doc q x.beat x.actor (leads q h) x.fact at lasts is, local_up doc q.process k x.beat above.0) })

-- a term that isn't over stays so
pub fresh_stays : (doc : Doc) (q : Identity) (k : ℕ) (g h : List Entry) → 1 ≤ renew_deadline doc q.process → Above (λ e. k ≤ e.beat) g h → IsFresh doc q k g → IsFresh doc q k h
fresh_stays doc q k g h lasts above fresh = ⊎_elim (λ same. record { at = fresh.at; is = same ∙ fresh.is; later = fresh.later }) (λ f. f) (same_or_fresh doc q k g h lasts above)

-- ---- whose a deadline is

record LedRight (doc : Doc) (h : List Entry) : Type 0 where
  counts : Counted h
  led : (q : Identity) → leads q h ≡ true → q.incarnation ≤ starts q.process h
  set : (q : Identity) → has (deadline doc q h) ≡ true → leads q h ≡ true

led_more : (doc : Doc) (x : Entry) (h : List Entry) → StartIsNext x.actor x.fact h → LeadIsUp x.actor x.fact h → LedRight doc h → LedRight doc (x ∷ h)
led_more doc x h next up s = record { counts = counted_more x h next s.counts; led = λ q is. leads_counted q x.actor x.fact up is; set = λ q is. set_leads q x.actor x.fact is }
  where
    more : (q : Identity) → starts q.process h ≤ starts q.process (x ∷ h)
    more q = added_more (is_start x.fact && has (of_process q.process x.actor)) (starts q.process h)

    older : (q : Identity) → leads q h ≡ true → q.incarnation ≤ starts q.process (x ∷ h)
    older q is = omega (arith, s.led q is, more q)

    leads_counted : (q : Identity) (who : Actor) (d : Fact) → LeadIsUp who d h → has (upper (lead_says q who d) (newest (λ e T. lead_says q e.actor e.fact) h)) ≡ true → q.incarnation ≤ starts q.process (x ∷ h)
    leads_counted q who (Leads version) up is = by_test (is_same up.0 q) refl
      where
        by_test : (b : Bool) → is_same up.0 q ≡ b → q.incarnation ≤ starts q.process (x ∷ h)
        by_test true same =
            let e : up.0 ≡ q = same_is up.0 q same in
            subst (λ p. p.incarnation ≤ starts p.process (x ∷ h)) e (omega (arith, s.counts up.0.process up.0.incarnation up.2, more up.0))
        by_test false other = older q (subst (λ b. has (upper (when b version) (newest (λ e T. lead_says q e.actor e.fact) h)) ≡ true) (ap (is_by q) up.1 ∙ other) is)
    leads_counted q who d up is = older q is

    set_leads : (q : Identity) (who : Actor) (d : Fact) → has (upper (deadline_says doc q x.beat who (leads q h) d) (deadline doc q h)) ≡ true → has (upper (lead_says q who d) (newest (λ e T. lead_says q e.actor e.fact) h)) ≡ true
    set_leads q who (Leads version) is = by_test (is_by q who) is
      where
        by_test : (b : Bool) → has (upper (when b (local doc q.process x.beat + renew_deadline doc q.process)) (deadline doc q h)) ≡ true → has (upper (when b version) (newest (λ e T. lead_says q e.actor e.fact) h)) ≡ true
        by_test true is = refl
        by_test false is = s.set q is
    set_leads q who (Delivers call reply counted) is =
        by_test ((counted && is_by q who) && (leads q h && succeeds call.request reply)) refl is
      where
        by_test : (b : Bool) → ((counted && is_by q who) && (leads q h && succeeds call.request reply)) ≡ b
            → has (upper (when b (can_at doc q.process (local doc q.process x.beat + retry_period doc q.process) + renew_deadline doc q.process)) (deadline doc q h)) ≡ true → leads q h ≡ true
        by_test true test is = and_left (leads q h) (succeeds call.request reply) (and_right (counted && is_by q who) (leads q h && succeeds call.request reply) test)
        by_test false test is = s.set q is
    set_leads q who d is = s.set q is

led_keeps : (doc : Doc) → Keeps doc (λ k step h. LedRight doc h)
led_keeps doc = all_kinds doc (λ k step h. LedRight doc h) (λ k step h s. s) (λ k h s. s) (λ x h next s. led_more doc x h next.0 next.2 s)

led_release : (doc : Doc) → KeepsRelease doc (λ k step h. LedRight doc h)
led_release doc = all_release doc (λ k step h. LedRight doc h) (λ x h next s. led_more doc x h next.0 next.2 s)

puts_led : (doc : Doc) (xs : List (Key × Object)) (h : List Entry) → LedRight doc h → LedRight doc (put_all doc xs h)
puts_led doc [] h s = s
puts_led doc (x ∷ xs) h s =
    let e = script_entry 0 0 (First x.0 (stamped (whole_second (store_wall doc 0)) x.1)) in
    puts_led doc xs (e ∷ h) (led_more doc e h tt tt s)

first_led : (doc : Doc) → LedRight doc (history doc 0)
first_led doc = puts_led doc doc.objects [] (record { counts = λ p i up. absurd (none_is i up); led = λ q is. absurd (false_is is); set = λ q is. absurd (false_is is) })

-- who has a deadline was counted
pub set_counted : (doc : Doc) (q : Identity) (k at : ℕ) → deadline doc q (history doc k) ≡ Some at → q.incarnation ≤ starts q.process (history doc k)
set_counted doc q k at is = let s = walk_history doc (λ k step h. LedRight doc h) (led_keeps doc) (led_release doc) (first_led doc) k in s.led q (s.set q (ap has is))

pub turn_counted : (doc : Doc) (q : Identity) (p k at : ℕ) → deadline doc q (at_turn doc p k) ≡ Some at → q.incarnation ≤ starts q.process (at_turn doc p k)
turn_counted doc q p k at is = let s = walk_at_turn doc (λ k step h. LedRight doc h) (led_keeps doc) (led_release doc) (first_led doc) p k in s.led q (s.set q (ap has is))

-- who has a deadline at a turn leads
pub turn_leads : (doc : Doc) (q : Identity) (p k : ℕ) → has (deadline doc q (at_turn doc p k)) ≡ true → leads q (at_turn doc p k) ≡ true
turn_leads doc q p k = (walk_at_turn doc (λ k step h. LedRight doc h) (led_keeps doc) (led_release doc) (first_led doc) p k).set q

-- ---- one past its deadline ends the term

over_turns : (doc : Doc) (q : Identity) → KeepsTurn doc Anyone (λ k h. Over q h)
over_turns doc q = all_turns doc Anyone (λ k h. Over q h) (λ k x h beat step next s. over_more q x h next.0 s)

over_release : (doc : Doc) (q : Identity) → KeepsReleaseTurn doc (λ k h. Over q h)
over_release doc q = all_release_turns doc (λ k h. Over q h) (λ k x h beat step next s. over_more q x h next.0 s)

ended : (doc : Doc) → ReleasesByStop doc → (m : ℕ) (q : Identity) (g : List Entry) (d : ℕ) → alive q.process g ≡ Some q.incarnation → deadline doc q g ≡ Some d → q.incarnation ≤ starts q.process g → nat_lt (local doc q.process m) d ≡ false → Over q (finish doc m q.process g)
ended doc rules m q g d up set counted late =
    subst (λ o. Over q (if_up q.process (λ p T. end_term doc m p (deadline doc p T) T) o g)) (sym up)
    (subst (λ o. Over q (end_term doc m q o g)) (sym set)
    (subst (λ b. Over q (if b then g else end_as doc.settings.rules.release doc m q g)) (sym late)
    (subst (Over q) (sym (end_term-own doc rules m q g))
    (counted, subst (λ b. join (upper (gone (when b q.incarnation)) (life q.process g)) ≡ Some q.incarnation → ⊥) (sym (eq-eqb q.process q.process refl)) (λ is. none_is q.incarnation is)))))

pub past_ends : (doc : Doc) → ReleasesByStop doc → (m : ℕ) (q : Identity) (h : List Entry) (d : ℕ) → is_controller doc q.process ≡ true → alive q.process h ≡ Some q.incarnation → deadline doc q h ≡ Some d → q.incarnation ≤ starts q.process h → nat_lt (local doc q.process m) d ≡ false → is_paused doc q.process m ≡ false
    → Over q (turn doc m q.process h)
past_ends doc rules m q h d role up set counted late awake =
    subst (λ b. Over q (if b then h else unpaused_turn doc m q.process h)) (sym awake)
    (subst (λ b. Over q (if b then controller_turn doc m q.process h else kubelet_turn doc m q.process h)) (sym role)
    (walk_any_after_end doc (λ k h. Over q h) (over_turns doc q) (over_release doc q) m q.process role awake (finish doc m q.process (expire doc m q.process (restart doc m q.process h)))
    (subst (λ o. Over q (finish doc m q.process (expire doc m q.process (restart_if doc m q.process o h)))) (sym up) after)))
  where
    by_late : (call : Call) (b : Bool) → Over q (finish doc m q.process (if b then expire_as doc m q call (release_begun doc.settings.rules.release call.kind) h else h))
    by_late call true = subst (λ g. Over q (finish doc m q.process g)) (sym (expire_as-own doc rules m q call h)) (ended doc rules m q (entry m 4 q (Expires call) ∷ h) d up set counted late)
    by_late call false = ended doc rules m q h d up set counted late

    by_call : (o : Option Call) → Over q (finish doc m q.process (expire_call doc m q o h))
    by_call None = ended doc rules m q h d up set counted late
    by_call (Some call) = by_late call (is_late doc q m call)

    after : Over q (finish doc m q.process (expire doc m q.process h))
    after = subst (λ o. Over q (finish doc m q.process (if_up q.process (λ p T. expire_call doc m p (call_in p T) T) o h))) (sym up) (by_call (call_in q h))

-- ---- who is over at a position is so at a later one

pub next_start : (doc : Doc) (k step : ℕ) (who : Actor) (d : Fact) (h : List Entry) → MadeAs doc k step who d h → StartIsNext who d h
next_start doc k step who Starts h made = made
next_start doc k step who StepsDown h made = absurd made
next_start doc k step who (ReleaseBegins at_deadline) h made = absurd made
next_start doc k step who ReleaseEnds h made = absurd made
next_start doc k step who ReleaseStops h made = absurd made
next_start doc k step who d h made = tt

pub over_stays : (doc : Doc) → ReleasesByStop doc → (m : ℕ) (q : Identity) (g h : List Entry) → IsTail h (history doc m) → IsTail g h → Over q g → Over q h
over_stays doc rules m q g [] within at over = subst (Over q) at over
over_stays doc rules m q g (x ∷ h) within (inl is) over = subst (Over q) is over
over_stays doc rules m q g (x ∷ h) within (inr at) over =
    over_more q x h (next_start doc x.beat x.step x.actor x.fact h (are_made doc rules m x h within)) (over_stays doc rules m q g h (tail_trans h (x ∷ h) (history doc m) (inr (tail_all h)) within) at over)

-- who was counted and isn't over is up
pub still_up : (q : Identity) (h : List Entry) → q.incarnation ≤ starts q.process h → (Over q h → ⊥) → alive q.process h ≡ Some q.incarnation
still_up q h counted not_over = by_up (alive q.process h) refl
  where
    differs : (j : ℕ) → alive q.process h ≡ Some j → (j ≡ q.incarnation → ⊥) → ⊥
    differs j is other = not_over (counted, λ up. other (some_is j q.incarnation (sym is ∙ up)))

    by_up : (o : Option ℕ) → alive q.process h ≡ o → alive q.process h ≡ Some q.incarnation
    by_up None is = absurd (not_over (counted, λ up. none_is q.incarnation (sym is ∙ up)))
    by_up (Some j) is = by_same (cases_eq j q.incarnation)
      where
        by_same : (j ≡ q.incarnation) ⊎ (j ≡ q.incarnation → ⊥) → alive q.process h ≡ Some q.incarnation
        by_same (inl same) = is ∙ ap Some same
        by_same (inr other) = absurd (differs j is other)

-- who is up, awake and before its deadline acts
pub acts_before : (doc : Doc) → ReleasesByStop doc → (q : Identity) (k at : ℕ) (h : List Entry) → is_paused doc q.process k ≡ false → alive q.process h ≡ Some q.incarnation → deadline doc q h ≡ Some at → nat_lt (local doc q.process k) at ≡ true → acts doc q k h ≡ true
acts_before doc rules q k at h awake up set before =
    acts-own doc rules q k h
    ∙ and_both (not (is_paused doc q.process k)) (in_term doc q k h) (ap not awake)
    (and_both (is_present (alive q.process h) q.incarnation) (is_before (local doc q.process k) (deadline doc q h))
    (ap (λ o. is_present o q.incarnation) up ∙ eq-eqb q.incarnation q.incarnation refl) (ap (is_before (local doc q.process k)) set ∙ before))
