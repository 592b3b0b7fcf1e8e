-- In which beat and after which step of it an entry stands, and what is in force there.
use Rattle.std.proofs.Common.{◌≡◌, ◌⊎◌, ◌<◌, ◌≤◌, ℕ, zero, suc, ◌+◌, ◌-◌, List, [], ◌∷◌, Option, Some, None, IfSome, refl, sym, ap, ◌∙◌, subst, inl, inr, ⊎_elim, arith}
use Rattle.std.proofs.lemmas.Bool.{cases_lt}
use Rattle.kube_objects.specs.declared.deed.Actor.{Actor}
use Rattle.kube_objects.specs.declared.script.What.{What}
use Rattle.kube_objects.specs.Document.{Doc, processes}
use Rattle.kube_objects.specs.Identities.{identity_of}
use Rattle.kube_objects.specs.Entry.{Entry, Identity, Call, actor_of, Fact, Event as Happens, Sends, Answers}
use Rattle.kube_objects.specs.Wire.{of_event, in_force, request_arrival, reply_arrival, sent_as, sent_of, back_as, back_of}
use Rattle.kube_objects.specs.Own.{ReleasesByStop}
use Rattle.history.specs.History.{history, three_steps}
use Rattle.history.specs.Steps.{step_three}
use Rattle.history_laws.specs.Order.{IsWithin}
use Rattle.history_laws.specs.Tails.{In, IsTail}
use Rattle.history_laws.proofs.Order.{entries_are_earlier}
use Rattle.history_laws.proofs.Plainly.{upper}
use Rattle.history_laws.proofs.Plainly.{for_new, for_old}
use Rattle.history_laws.proofs.Tailed.{tail_all, tail_trans, tails_meet, later_tail}
use Rattle.history_laws.proofs.Walk.{Anyone, Keeps, KeepsRelease, KeepsTurn, all_kinds, all_release, all_turns, walk_one, walk_two, walk_three, walk_steps, walk_any_turns}
use Rattle.call_laws.specs.Answering.{with_events, with_answers}
use Rattle.call_laws.specs.Placing.{EntriesStandInBeats, ForcesStand, MessagesTravel}
use Rattle.call_laws.proofs.Above.{Above, above_all, above_meet, in_head}
use Rattle.call_laws.proofs.Making.{MadeAs, are_made}

-- ---- from a step of a beat on, to its end

abbrev pub IsLate : ℕ → ℕ → Entry → Type 0
IsLate k step e = (e.beat ≡ k) × (step ≤ e.step)

abbrev Late : ℕ → ℕ → List Entry → ℕ → ℕ → List Entry → Type 0
Late k from g j step h = (k ≤ j) × (j ≡ k → (from ≤ step) × Above (IsLate k from) g h)

late_keeps : (doc : Doc) (k from : ℕ) (g : List Entry) → Keeps doc (Late k from g)
late_keeps doc k from g =
    all_kinds doc (Late k from g)
    (λ j step h s. (s.0, λ is. let r = s.1 is in (omega (arith, r.0), r.1)))
    (λ j h s. (omega (arith, s.0), λ is. absurd (omega (arith, is, s.0))))
    (λ x h next s. (s.0, λ is. let r = s.1 is in (r.0, inr ((is, r.0), r.1))))

late_release : (doc : Doc) (k from : ℕ) (g : List Entry) → KeepsRelease doc (Late k from g)
late_release doc k from g = all_release doc (Late k from g) (λ x h next s. (s.0, λ is. let r = s.1 is in (r.0, inr ((is, r.0), r.1))))

late_turns : (doc : Doc) (k from : ℕ) (g : List Entry) → KeepsTurn doc Anyone (λ j h. Late k from g j 4 h)
late_turns doc k from g =
    all_turns doc Anyone (λ j h. Late k from g j 4 h) (λ j x h beat step next s.
    (s.0, λ is. let r = s.1 is in (r.0, inr ((beat ∙ is, omega (arith, r.0, step)), r.1))))

late_all : (k from : ℕ) (g : List Entry) → Late k from g k from g
late_all k from g = (omega arith, λ is. (omega arith, above_all (IsLate k from) g))

-- from the end of step 1 on
pub after_events : (doc : Doc) (k : ℕ) → Above (IsLate k 2) (with_events doc k) (history doc (suc k))
after_events doc k =
    let one = with_events doc k in
    let two = with_answers doc k in
    let keeps = late_keeps doc k 2 one in
    let s2 : Late k 2 one k 2 two = walk_two doc (Late k 2 one) keeps (late_release doc k 2 one) k one (late_all k 2 one) in
    let s3 : Late k 2 one k 3 (step_three doc k two) = walk_three doc (Late k 2 one) keeps (late_release doc k 2 one) k two (keeps.on k 2 two s2) in
    ((walk_any_turns doc (λ j h. Late k 2 one j 4 h) (late_turns doc k 2 one) (late_release doc k 2 one).turns k (processes doc) (step_three doc k two) (keeps.on k 3 (step_three doc k two) s3)).1 refl).1

-- from the end of step 2 on
pub after_answers : (doc : Doc) (k : ℕ) → Above (IsLate k 3) (with_answers doc k) (history doc (suc k))
after_answers doc k =
    let two = with_answers doc k in
    let keeps = late_keeps doc k 3 two in
    let s3 : Late k 3 two k 3 (step_three doc k two) = walk_three doc (Late k 3 two) keeps (late_release doc k 3 two) k two (late_all k 3 two) in
    ((walk_any_turns doc (λ j h. Late k 3 two j 4 h) (late_turns doc k 3 two) (late_release doc k 3 two).turns k (processes doc) (step_three doc k two) (keeps.on k 3 (step_three doc k two) s3)).1 refl).1

-- ---- from a beat on

abbrev Later : ℕ → List Entry → ℕ → ℕ → List Entry → Type 0
Later n g j step h = (n ≤ j) × Above (λ e. n ≤ e.beat) g h

later_keeps : (doc : Doc) (n : ℕ) (g : List Entry) → Keeps doc (Later n g)
later_keeps doc n g = all_kinds doc (Later n g) (λ j step h s. s) (λ j h s. (omega (arith, s.0), s.1)) (λ x h next s. (s.0, inr (s.0, s.1)))

later_release : (doc : Doc) (n : ℕ) (g : List Entry) → KeepsRelease doc (Later n g)
later_release doc n g = all_release doc (Later n g) (λ x h next s. (s.0, inr (s.0, s.1)))

later_turns : (doc : Doc) (n : ℕ) (g : List Entry) → KeepsTurn doc Anyone (λ j h. Later n g j 4 h)
later_turns doc n g = all_turns doc Anyone (λ j h. Later n g j 4 h) (λ j x h beat step next s. (s.0, inr (omega (arith, s.0, beat), s.1)))

later_on : (doc : Doc) (n i : ℕ) → Later n (history doc n) (n + i) 1 (history doc (n + i))
later_on doc n zero = let e : n ≡ n + 0 = omega arith in subst (λ m. Later n (history doc n) m 1 (history doc m)) e (omega arith, above_all (λ e. n ≤ e.beat) (history doc n))
later_on doc n (suc i) =
    let e : suc (n + i) ≡ n + suc i = omega arith in
    let g = history doc n in
    let h = history doc (n + i) in
    let s = walk_any_turns doc (λ j h. Later n g j 4 h) (later_turns doc n g) (later_release doc n g).turns (n + i) (processes doc) (three_steps doc (n + i) h) (walk_steps doc (Later n g) (later_keeps doc n g) (later_release doc n g) (n + i) h (later_on doc n i)) in
    subst (λ m. Later n g m 1 (history doc m)) e ((later_keeps doc n g).next (n + i) s)

pub from_beat : (doc : Doc) (n m : ℕ) → n ≤ m → Above (λ e. n ≤ e.beat) (history doc n) (history doc m)
from_beat doc n m le = let e : n + (m - n) ≡ m = omega (arith, le) in subst (λ m. Above (λ e. n ≤ e.beat) (history doc n) (history doc m)) e (later_on doc n (m - n)).1

-- ---- what is in step 1

within_keeps : (doc : Doc) → Keeps doc (λ k step h. (e : Entry) → In e h → IsWithin k step e)
within_keeps doc =
    all_kinds doc (λ k step h. (e : Entry) → In e h → IsWithin k step e)
    (λ k step h s. for_old (IsWithin k step) (IsWithin k (suc step)) h (λ e. on k step e) s)
    (λ k h s. for_old (IsWithin k 4) (IsWithin (suc k) 1) h (λ e. next k e) s)
    (λ x h next s. for_new (IsWithin x.beat x.step) x h (inr (refl, omega arith)) s)
  where
    on : (k step : ℕ) (e : Entry) → IsWithin k step e → IsWithin k (suc step) e
    on k step e (inl before) = inl before
    on k step e (inr here) = inr (here.0, omega (arith, here.1))

    next : (k : ℕ) (e : Entry) → IsWithin k 4 e → IsWithin (suc k) 1 e
    next k e (inl before) = inl (omega (arith, before))
    next k e (inr here) = inl (omega (arith, here.0))

within_release : (doc : Doc) → KeepsRelease doc (λ k step h. (e : Entry) → In e h → IsWithin k step e)
within_release doc = all_release doc (λ k step h. (e : Entry) → In e h → IsWithin k step e) (λ x h next s. for_new (IsWithin x.beat x.step) x h (inr (refl, omega arith)) s)

within_events : (doc : Doc) (k : ℕ) (e : Entry) → In e (with_events doc k) → IsWithin k 1 e
within_events doc k = walk_one doc (λ k step h. (e : Entry) → In e h → IsWithin k step e) (within_keeps doc) (within_release doc) k (history doc k) (λ e at. first e (entries_are_earlier doc k e at))
  where
    first : (e : Entry) → (e.beat < k) ⊎ ((e.beat ≡ 0) × (e.step ≡ 0)) → IsWithin k 1 e
    first e (inl before) = inl before
    first e (inr none) = ⊎_elim (λ lt. inl (omega (arith, lt, none.0))) (λ le. inr (omega (arith, le, none.0), omega (arith, none.1))) (cases_lt 0 k)

pub within_answers : (doc : Doc) (k : ℕ) (e : Entry) → In e (with_answers doc k) → IsWithin k 2 e
within_answers doc k =
    let one = with_events doc k in
    walk_two doc (λ k step h. (e : Entry) → In e h → IsWithin k step e) (within_keeps doc) (within_release doc) k one ((within_keeps doc).on k 1 one (within_events doc k))

-- ---- positions by beat and step

-- where an entry comes at a beat or later, the history before the beat is below it
pub not_before : (doc : Doc) (n m : ℕ) (e : Entry) (before : List Entry) → n ≤ m → IsTail (e ∷ before) (history doc m) → n ≤ e.beat → 1 ≤ e.step → IsTail (history doc n) before
not_before doc n m e before le at late step = by_place (tails_meet (history doc n) (e ∷ before) (history doc m) (later_tail doc n m le) at)
  where
    earlier : In e (history doc n) → ⊥
    earlier stands = ⊎_elim (λ lt. omega (arith, lt, late)) (λ none. omega (arith, none.1, step)) (entries_are_earlier doc n e stands)

    by_place : IsTail (history doc n) (e ∷ before) ⊎ IsTail (e ∷ before) (history doc n) → IsTail (history doc n) before
    by_place (inl (inl is)) = absurd (earlier (subst (In e) (sym is) (inl refl)))
    by_place (inl (inr below)) = below
    by_place (inr above) = absurd (earlier (in_head e before (history doc n) above))

-- an entry stands in the history with its beat
pub in_own_beat : (doc : Doc) (m : ℕ) (e : Entry) (before : List Entry) → IsTail (e ∷ before) (history doc m) → IsTail (e ∷ before) (history doc (suc e.beat))
in_own_beat doc m e before at = ⊎_elim longer within (cases_lt m (suc e.beat))
  where
    longer : m < suc e.beat → IsTail (e ∷ before) (history doc (suc e.beat))
    longer lt = tail_trans (e ∷ before) (history doc m) (history doc (suc e.beat)) at (later_tail doc m (suc e.beat) (omega (arith, lt)))

    by_place : Above (λ x. suc e.beat ≤ x.beat) (history doc (suc e.beat)) (e ∷ before) ⊎ IsTail (e ∷ before) (history doc (suc e.beat)) → IsTail (e ∷ before) (history doc (suc e.beat))
    by_place (inl (inl is)) = subst (IsTail (e ∷ before)) (sym is) (tail_all (e ∷ before))
    by_place (inl (inr late)) = absurd (omega (arith, late.0))
    by_place (inr above) = above

    within : suc e.beat ≤ m → IsTail (e ∷ before) (history doc (suc e.beat))
    within le = by_place (above_meet (λ x. suc e.beat ≤ x.beat) (history doc (suc e.beat)) (e ∷ before) (history doc m) (from_beat doc (suc e.beat) m le) at)

-- an entry of step 2 or later is above the events of its beat
pub above_events : (doc : Doc) (m : ℕ) (e : Entry) (before : List Entry) → IsTail (e ∷ before) (history doc m) → 2 ≤ e.step → Above (IsLate e.beat 2) (with_events doc e.beat) before
above_events doc m e before at step =
    by_place (above_meet (IsLate e.beat 2) (with_events doc e.beat) (e ∷ before) (history doc (suc e.beat)) (after_events doc e.beat) (in_own_beat doc m e before at))
  where
    earlier : In e (with_events doc e.beat) → ⊥
    earlier stands = ⊎_elim (λ lt. omega (arith, lt)) (λ here. omega (arith, here.1, step)) (within_events doc e.beat e stands)

    by_place : Above (IsLate e.beat 2) (with_events doc e.beat) (e ∷ before) ⊎ IsTail (e ∷ before) (with_events doc e.beat) → Above (IsLate e.beat 2) (with_events doc e.beat) before
    by_place (inl (inl is)) = absurd (earlier (subst (In e) (sym is) (inl refl)))
    by_place (inl (inr late)) = late.1
    by_place (inr above) = absurd (earlier (in_head e before (with_events doc e.beat) above))

pub entries_stand_in_beats : EntriesStandInBeats
entries_stand_in_beats doc m e before at = (in_own_beat doc m e before at, λ step. not_before doc e.beat (suc e.beat) e before (omega arith) (in_own_beat doc m e before at) (omega arith) step)

-- ---- what is in force

-- an entry of step 2 or later is no event
no_event : {A : Type 0} (doc : Doc) (k step : ℕ) (who : Actor) (d : Fact) (h : List Entry) (f : What → Option A) → MadeAs doc k step who d h → 2 ≤ step → of_event f d ≡ None
no_event doc k step who (Happens w version) h f made late = absurd (omega (arith, made.0, late))
no_event doc k step who d h f made late = refl

force_stays : {A : Type 0} (doc : Doc) → ReleasesByStop doc → (k m : ℕ) (f : What → Option A) (g h : List Entry) → IsTail h (history doc m) → Above (IsLate k 2) g h → in_force f h ≡ in_force f g
force_stays doc own k m f g [] at above = ap (in_force f) (sym above)
force_stays doc own k m f g (e ∷ h) at (inl is) = ap (in_force f) (sym is)
force_stays doc own k m f g (e ∷ h) at (inr above) =
    ap (λ o. upper o (in_force f h)) (no_event doc e.beat e.step e.actor e.fact h f (are_made doc own m e h at) above.0.1)
    ∙ force_stays doc own k m f g h (tail_trans h (e ∷ h) (history doc m) (inr (tail_all h)) at) above.1

stands_at : {A : Type 0} (doc : Doc) → ReleasesByStop doc → (m : ℕ) (e : Entry) (before : List Entry) → IsTail (e ∷ before) (history doc m) → 2 ≤ e.step → (f : What → Option A) → in_force f before ≡ in_force f (with_events doc e.beat)
stands_at doc own m e before at step f =
    force_stays doc own e.beat m f (with_events doc e.beat) before (tail_trans before (e ∷ before) (history doc m) (inr (tail_all before)) at) (above_events doc m e before at step)

pub forces_stand : ForcesStand
forces_stand doc own m e before at step = (λ f. stands_at doc own m e before at step f, λ f. stands_at doc own m e before at step f)

-- ---- when messages arrive

sent_by : (who : Actor) (q : Identity) (call : Call) (arrives : Option ℕ) → who ≡ actor_of q → sent_as call arrives (identity_of who) ≡ Some (record { who = q; call = call; arrives = arrives })
sent_by who q call arrives by = ap (λ who. sent_as call arrives (identity_of who)) by

travels : (doc : Doc) (k step : ℕ) (who : Actor) (d : Fact) (h : List Entry) → MadeAs doc k step who d h
    → IfSome (sent_of who d) (λ s. (s.call.sent ≡ k) × (s.arrives ≡ request_arrival doc s.who.process k h)) × IfSome (back_of who d) (λ b. b.comes ≡ reply_arrival doc b.who.process k h)
travels doc k step who (Sends call arrives) h made = (
  subst (λ o. IfSome o (λ s. (s.call.sent ≡ k) × (s.arrives ≡ request_arrival doc s.who.process k h))) (sym (sent_by who made.q call arrives made.by))
      (ap (λ (c : Call). c.sent) made.call_is, made.arrives_is),
  tt,
)
travels doc k step who (Answers call reply comes wrote) h made =
    (tt, subst (λ who. IfSome (back_as call reply comes (identity_of who)) (λ b. b.comes ≡ reply_arrival doc b.who.process k h)) (sym made.by) made.comes_is)
travels doc k step who d h made = (tt, tt)

pub messages_travel : MessagesTravel
messages_travel doc own m e before at = travels doc e.beat e.step e.actor e.fact before (are_made doc own m e before at)
