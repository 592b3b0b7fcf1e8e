-- Whoever asks to give up its Lease waits for the answer until its release ends, and where a reply with the number of that call has come to
-- it, it is over, or the call is late.
use Rattle.std.proofs.Common.{◌≡◌, ◌⊎◌, ◌<◌, ◌≤◌, ℕ, ◌==◌, ◌&&◌, not, Bool, true, false, cond, List, [], ◌∷◌, Option, Some, None, refl, sym, ap, ◌∙◌, subst, inl, inr, ⊎_elim, arith}
use Rattle.std.proofs.lemmas.Bool.{eq-eqb, eqb-true, cases_lt}
use Rattle.kube_base.specs.declared.numbers.ProcId.{ProcId}
use Rattle.kube_objects.specs.declared.call.Request.{Request}
use Rattle.kube_objects.specs.declared.call.Request.TheVariants.{Get, Update}
use Rattle.kube_objects.specs.declared.deed.Actor.{Actor}
use Rattle.kube_objects.specs.declared.key.Key.{Key}
use Rattle.kube_objects.specs.declared.object.Object.{Object}
use Rattle.kube_objects.specs.declared.script.What.TheVariants as what
use Rattle.kube_objects.specs.CallSlots.{release_of}
use Rattle.kube_objects.specs.Clocks.{store_wall, whole_second}
use Rattle.kube_objects.specs.Document.{Doc, is_controller}
use Rattle.kube_objects.specs.Elector.{Shown, acts_by, acts_on, attempt, attempt_from, is_valid, leads, moment, observed_at, renewed, shown}
use Rattle.kube_objects.specs.Entry.{Entry, Identity, Call, CallKind, Tick, Plain, Fast, Release, Look, Emptying, Fact, First, Event as Happens}
use Rattle.kube_objects.specs.Entry.{ReleaseBegins, ReleaseStops, ReleaseEnds, StepsDown, Sends, Delivers, Expires, Ticks, entry, script_entry}
use Rattle.kube_objects.specs.Identities.{identity, is_same, is_by, is_own}
use Rattle.kube_objects.specs.Newest.{when, only_if}
use Rattle.kube_objects.specs.Process.{life, alive, starts, is_releasing, open_as, call_in, is_present, is_late, answered_call, counted, release_begun}
use Rattle.kube_objects.specs.Releases.{and_end, end_release, begin_release}
use Rattle.kube_objects.specs.Stamps.{stamped}
use Rattle.kube_objects.specs.Stored.{election}
use Rattle.kube_objects.specs.Tick.{tick}
use Rattle.kube_objects.specs.Wire.{next_call, request_arrival, send, Sent, Back, sent_of}
use Rattle.history.specs.History.{put_all, history, at_turn}
use Rattle.history_laws.specs.Tails.{In}
use Rattle.history_laws.proofs.Counting.{CountedFor, counted_is}
use Rattle.history_laws.proofs.Lives.{Over, counted_more, over_more}
use Rattle.history_laws.proofs.Plainly.{for_new, some_is, none_is, true_is, and_left, and_right, same_is, same_self}
use Rattle.history_laws.proofs.Releasing.{AllFit, same_fits, same_step, fit_keeps, fit_release, first_fit, same_foreign, same_and_end, same_end, same_begin, ended_over, sent_call, begin_cases, emptying_of_look, replied_call, gone_now}
use Rattle.history_laws.proofs.Ticks.{walk_tick}
use Rattle.history_laws.proofs.Walk.{StartIsNext, stopped_at, halted_at, after_reply, Keeps, KeepsRelease, walk_at_turn}
use Rattle.lease_laws.proofs.Invariant.{gives_up}

-- an identity has sent a call
pub record Asked (q : Identity) (c : Call) (h : List Entry) : Type 0 where
  pub e : Entry
  pub at : In e h
  pub arrives : Option ℕ
  pub is : sent_of e.actor e.fact ≡ Some (record { who = q; call = c; arrives = arrives })

-- a reply to a call with this number comes to the identity
abbrev pub hears : Identity → ℕ → Actor → Fact → Bool
hears q n who (Delivers call reply counted) = is_by q who && (call.number == n)
hears q n who _ = false

-- a call of a release waits
pub record Pending (doc : Doc) (q : Identity) (c : Call) (h : List Entry) : Type 0 where
  pub waits : call_in q h ≡ Some c
  pub begun : ℕ
  pub of : release_begun doc.settings.rules.release c.kind ≡ Some begun

abbrev pub Gone : Doc → Identity → Call → List Entry → Type 0
Gone doc q c h = Over q h ⊎ Pending doc q c h

abbrev pub Until : ℕ → List Entry → Type 0
Until k h = (x : Entry) → In x h → x.beat ≤ k

pub record Told (doc : Doc) (q : Identity) (c : Call) (k : ℕ) (h : List Entry) : Type 0 where
  pub fit : AllFit doc h
  pub until : Until k h
  pub gone : Asked q c h → Gone doc q c h
  pub heard : (x : Entry) → In x h → hears q c.number x.actor x.fact ≡ true → c.sent < x.beat → Asked q c h → Over q h ⊎ (is_late doc q x.beat c ≡ true)

-- ---- what was asked

asked_old : (q : Identity) (c : Call) (x : Entry) (h : List Entry) → sent_of x.actor x.fact ≡ None → Asked q c (x ∷ h) → Asked q c h
asked_old q c x h none a = ⊎_elim new old a.at
  where
    new : a.e ≡ x → Asked q c h
    new is = absurd (none_is _ (sym none ∙ ap (λ (e : Entry). sent_of e.actor e.fact) (sym is) ∙ a.is))

    old : In a.e h → Asked q c h
    old at = record { e = a.e; at = at; arrives = a.arrives; is = a.is }

asked_sent : (doc : Doc) (q : Identity) (c : Call) (k step : ℕ) (p : Identity) (kind : CallKind) (request : Request) (h : List Entry) → Asked q c (send doc k step p kind request h)
    → Asked q c h ⊎ ((p ≡ q) × (next_call p k kind request h ≡ c))
asked_sent doc q c k step p kind request h a = ⊎_elim new old a.at
  where
    x : Entry
    x = entry k step p (Sends (next_call p k kind request h) (request_arrival doc p.process k h))

    new : a.e ≡ x → Asked q c h ⊎ ((p ≡ q) × (next_call p k kind request h ≡ c))
    new is =
        let both : Some (record { who = p; call = next_call p k kind request h; arrives = request_arrival doc p.process k h }) ≡ Some (record { who = q; call = c; arrives = a.arrives })
        = ap (λ (e : Entry). sent_of e.actor e.fact) (sym is) ∙ a.is in
        let same = some_is (record { who = p; call = next_call p k kind request h; arrives = request_arrival doc p.process k h }) (record { who = q; call = c; arrives = a.arrives }) both in
        inr (ap (λ (s : Sent). s.who) same, ap (λ (s : Sent). s.call) same)

    old : In a.e h → Asked q c h ⊎ ((p ≡ q) × (next_call p k kind request h ≡ c))
    old at = inl (record { e = a.e; at = at; arrives = a.arrives; is = a.is })

-- ---- what entries add that neither ask nor tell

record Adds (q : Identity) (c : Call) (k : ℕ) (h g : List Entry) : Type 0 where
  until : Until k h → Until k g
  back : Asked q c g → Asked q c h
  only : (x : Entry) → In x g → hears q c.number x.actor x.fact ≡ true → In x h
  over : Over q h → Over q g

until_more : (k : ℕ) (x : Entry) (h : List Entry) → x.beat ≡ k → Until k h → Until k (x ∷ h)
until_more k x h beat u = for_new (λ y. y.beat ≤ k) x h (omega (arith, beat)) u

module _ (q : Identity) (c : Call) (k : ℕ) where
  adds_none : (h : List Entry) → Adds q c k h h
  adds_none h = record { until = λ u. u; back = λ a. a; only = λ x at is. at; over = λ o. o }

  adds_more : (x : Entry) (h g : List Entry) → x.beat ≡ k → StartIsNext x.actor x.fact g → (Asked q c (x ∷ g) → Asked q c g) → hears q c.number x.actor x.fact ≡ false → Adds q c k h g → Adds q c k h (x ∷ g)
  adds_more x h g beat next back quiet s = record {
    until = λ u. until_more k x g beat (s.until u);
    back = λ a. s.back (back a);
    only = λ y at is. ⊎_elim (λ new. absurd (true_is (sym is ∙ ap (λ (y : Entry). hears q c.number y.actor y.fact) new ∙ quiet))) (λ old. s.only y old is) at;
    over = λ o. over_more q x g next (s.over o);
  }

  adds_quiet : (x : Entry) (h g : List Entry) → x.beat ≡ k → StartIsNext x.actor x.fact g → sent_of x.actor x.fact ≡ None → hears q c.number x.actor x.fact ≡ false → Adds q c k h g → Adds q c k h (x ∷ g)
  adds_quiet x h g beat next none quiet s = adds_more x h g beat next (asked_old q c x g none) quiet s

  adds_and_end : (step : ℕ) (p : Identity) (b : Bool) (h g : List Entry) → Adds q c k h g → Adds q c k h (and_end k step p b g)
  adds_and_end step p true h g s = adds_quiet (entry k step p StepsDown) h g refl tt refl refl s
  adds_and_end step p false h g s = s

module _ (doc : Doc) (q : Identity) (c : Call) (k : ℕ) where
  adds_end : (step : ℕ) (p : Identity) (h g : List Entry) → Adds q c k h g → Adds q c k h (end_release doc k step p g)
  adds_end step p h g s =
      let f = and_end k step p (acts_on doc p g) g in
      adds_quiet q c k (entry k step p ReleaseEnds) h f refl tt refl refl (adds_and_end q c k step p (acts_on doc p g) h g s)

  -- another's request
  adds_send : (step : ℕ) (p : Identity) (kind : CallKind) (request : Request) (h g : List Entry) → is_same p q ≡ false → Adds q c k h g → Adds q c k h (send doc k step p kind request g)
  adds_send step p kind request h g other s = adds_more q c k (entry k step p (Sends (next_call p k kind request g) (request_arrival doc p.process k g))) h g refl tt back refl s
    where
      back : Asked q c (send doc k step p kind request g) → Asked q c g
      back a = ⊎_elim (λ old. old) (λ new. absurd (true_is (sym (subst (λ r. is_same p r ≡ true) new.0 (same_self p)) ∙ other))) (asked_sent doc q c k step p kind request g a)

  adds_begin : (step : ℕ) (p : Identity) (at_deadline : Bool) (h g : List Entry) → is_same p q ≡ false → Adds q c k h g → Adds q c k h (begin_release doc k step p at_deadline g)
  adds_begin step p at_deadline h g other s =
      let x = entry k step p (ReleaseBegins at_deadline) in
      let begun : Adds q c k h (x ∷ g) = adds_quiet q c k x h g refl tt refl refl s in
      begin_cases doc k step p (Adds q c k h) at_deadline g (adds_end step p h (x ∷ g) begun) (λ kind request first. adds_send step p kind request h (x ∷ g) other begun)

  until_send : (step : ℕ) (p : Identity) (kind : CallKind) (request : Request) (h : List Entry) → Until k h → Until k (send doc k step p kind request h)
  until_send step p kind request h u = until_more k (entry k step p (Sends (next_call p k kind request h) (request_arrival doc p.process k h))) h refl u

  -- ---- what is told

  told_same : (h g : List Entry) → Adds q c k h g → AllFit doc g → call_in q g ≡ call_in q h → Told doc q c k h → Told doc q c k g
  told_same h g adds fit call s = record {
    fit = fit;
    until = adds.until s.until;
    gone = λ a. ⊎_elim (λ over. inl (adds.over over)) (λ w. inr (record { waits = call ∙ w.waits; begun = w.begun; of = w.of })) (s.gone (adds.back a));
    heard = λ x at told later a. ⊎_elim (λ over. inl (adds.over over)) (λ late. inr late) (s.heard x (adds.only x at told) told later (adds.back a));
  }

  told_quiet : (x : Entry) (h : List Entry) → x.beat ≡ k → StartIsNext x.actor x.fact h → sent_of x.actor x.fact ≡ None → hears q c.number x.actor x.fact ≡ false → call_in q (x ∷ h) ≡ call_in q h
      → AllFit doc (x ∷ h) → Told doc q c k h → Told doc q c k (x ∷ h)
  told_quiet x h beat next none quiet call fit s = told_same h (x ∷ h) (adds_quiet q c k x h h beat next none quiet (adds_none q c k h)) fit call s

  told_over : (g : List Entry) → AllFit doc g → Until k g → Over q g → Told doc q c k g
  told_over g fit until over = record { fit = fit; until = until; gone = λ a. inl over; heard = λ x at told later a. inl over }

  told_none : (g : List Entry) → AllFit doc g → Until k g → (Asked q c g → ⊥) → Told doc q c k g
  told_none g fit until none = record { fit = fit; until = until; gone = λ a. absurd (none a); heard = λ x at told later a. absurd (none a) }

  -- its release's call is sent
  told_sent : (step : ℕ) (p : Identity) (kind : CallKind) (request : Request) (begun : ℕ) (h : List Entry) → release_begun doc.settings.rules.release kind ≡ Some begun → ((d : Call) → open_as kind d ≡ Some d)
      → (Asked q c h → ⊥) → Until k h → AllFit doc (send doc k step p kind request h) → Told doc q c k (send doc k step p kind request h)
  told_sent step p kind request begun h of opens none until fit = record {
    fit = fit;
    until = until_send step p kind request h until;
    gone = λ a. inr (pending (new a));
    heard = λ x at told later a. absurd (now x at later (new a));
  }
    where
      g : List Entry
      g = send doc k step p kind request h

      new : Asked q c g → (p ≡ q) × (next_call p k kind request h ≡ c)
      new a = ⊎_elim (λ old. absurd (none old)) (λ is. is) (asked_sent doc q c k step p kind request h a)

      pending : (p ≡ q) × (next_call p k kind request h ≡ c) → Pending doc q c g
      pending is = record {
        waits = subst (λ r. call_in r g ≡ Some c) is.0 (sent_call doc k step p kind request h ∙ opens (next_call p k kind request h) ∙ ap Some is.1);
        begun = begun;
        of = ap (λ (d : Call). release_begun doc.settings.rules.release d.kind) (sym is.1) ∙ of;
      }

      now : (x : Entry) → In x g → c.sent < x.beat → (p ≡ q) × (next_call p k kind request h ≡ c) → ⊥
      now x at later is = absurd (omega (arith, later, until_send step p kind request h until x at, ap (λ (d : Call). d.sent) is.1))

-- nobody has asked who is up and whose call isn't of a release
unasked : (doc : Doc) (q : Identity) (c : Call) (k : ℕ) (h : List Entry) → alive q.process h ≡ Some q.incarnation → (Pending doc q c h → ⊥) → Told doc q c k h → Asked q c h → ⊥
unasked doc q c k h up none s a = ⊎_elim (λ over. over.1 up) none (s.gone a)

-- ---- kinds that give nothing up

-- an attempt gives up nothing
pub attempt_keeps : (doc : Doc) (q : Identity) (k : ℕ) (h : List Entry) → gives_up (attempt doc q k h).0 ≡ false
attempt_keeps doc q k h = by_test (doc.settings.fast_renew && leads q h)
  where
    by_own : (b : Bool) (x : Shown) → gives_up (cond {A = CallKind × Request} b (Fast, Update election x.0 (renewed q (moment doc q k) x.1)) (Plain, Get election)).0 ≡ false
    by_own true x = refl
    by_own false x = refl

    by_shown : (o : Option Shown) → gives_up (attempt_from q (moment doc q k) (observed_at doc q h) o).0 ≡ false
    by_shown None = refl
    by_shown (Some x) = by_own (is_own q x.1.holder && is_valid (moment doc q k).now (observed_at doc q h) x.1) x

    by_test : (b : Bool) → gives_up (cond {A = CallKind × Request} b (attempt_from q (moment doc q k) (observed_at doc q h) (shown q h)) (Plain, Get election)).0 ≡ false
    by_test true = by_shown (shown q h)
    by_test false = refl

-- ---- a reply that doesn't count

-- it comes to who is over, or late
ignored : (doc : Doc) (q : Identity) (c : Call) (k : ℕ) (h : List Entry) → AllFit doc h → counted doc q k c.number h ≡ None → Gone doc q c h → Over q h ⊎ (is_late doc q k c ≡ true)
ignored doc q c k h fit none (inl over) = inl over
ignored doc q c k h fit none (inr w) = by_life (is_present (alive q.process h) q.incarnation) refl (subst (λ o. only_if (is_present (alive q.process h) q.incarnation) (answered_call doc q k c.number o) ≡ None) w.waits none)
  where
    started : q.incarnation ≤ starts q.process h
    started = ⊎_elim (λ later. absurd (none_is c (sym (((fit.each q).unborn later).1) ∙ w.waits))) (λ le. le) (cases_lt (starts q.process h) q.incarnation)

    down : is_present (alive q.process h) q.incarnation ≡ false → alive q.process h ≡ Some q.incarnation → ⊥
    down other up = true_is (sym (ap (λ o. is_present o q.incarnation) up ∙ eq-eqb q.incarnation q.incarnation refl) ∙ other)

    by_late : (b : Bool) → is_late doc q k c ≡ b → when ((c.number == c.number) && not b) c ≡ None → b ≡ true
    by_late true late is = refl
    by_late false late is = absurd (none_is c (sym is ∙ ap (λ b. when (b && true) c) (eq-eqb c.number c.number refl)))

    by_life : (b : Bool) → is_present (alive q.process h) q.incarnation ≡ b → only_if b (when ((c.number == c.number) && not (is_late doc q k c)) c) ≡ None → Over q h ⊎ (is_late doc q k c ≡ true)
    by_life true present is = inr (by_late (is_late doc q k c) refl is)
    by_life false other is = inl (started, down other)

-- ---- the walk

module _ (doc : Doc) (q : Identity) (c : Call) (role : is_controller doc q.process ≡ true) (gives : gives_up c.kind ≡ true) where
  -- it isn't a call that gives nothing up
  other_kind : (d : Call) → gives_up d.kind ≡ false → d ≡ c → ⊥
  other_kind d keeps is = true_is (sym (ap (λ (d : Call). gives_up d.kind) is ∙ gives) ∙ keeps)

  -- by whether an entry is the identity's own
  by_own : (p : Identity) (P : Type 0) → (p ≡ q → P) → (is_same p q ≡ false → P) → P
  by_own p P own other = by_test (is_same p q) refl
    where
      by_test : (b : Bool) → is_same p q ≡ b → P
      by_test true is = own (same_is p q is)
      by_test false is = other is

  up_own : (p : Identity) (h : List Entry) → p ≡ q → alive p.process h ≡ Some p.incarnation → alive q.process h ≡ Some q.incarnation
  up_own p h same up = subst (λ p. alive p.process h ≡ Some p.incarnation) same up

  call_own : (p : Identity) (h : List Entry) (o : Option Call) → p ≡ q → call_in p h ≡ o → call_in q h ≡ o
  call_own p h o same is = subst (λ p. call_in p h ≡ o) same is

  -- a call waits that isn't of a release
  not_pending : (h : List Entry) (d : Call) → call_in q h ≡ Some d → release_begun doc.settings.rules.release d.kind ≡ None → Pending doc q c h → ⊥
  not_pending h d waits of w =
      let same : d ≡ c = some_is d c (sym waits ∙ w.waits) in
      none_is w.begun (sym of ∙ ap (λ (d : Call). release_begun doc.settings.rules.release d.kind) same ∙ w.of)

  no_call : (h : List Entry) → call_in q h ≡ None → Pending doc q c h → ⊥
  no_call h none w = none_is c (sym none ∙ w.waits)

  -- a request that gives nothing up
  plain_told : (k step : ℕ) (p : Identity) (kind : CallKind) (request : Request) (h : List Entry) → gives_up kind ≡ false → (p ≡ q → (alive q.process h ≡ Some q.incarnation) × (call_in q h ≡ None))
      → AllFit doc (send doc k step p kind request h) → Told doc q c k h → Told doc q c k (send doc k step p kind request h)
  plain_told k step p kind request h keeps free fit s = by_own p (Told doc q c k (send doc k step p kind request h)) own foreign
    where
      x : Entry
      x = entry k step p (Sends (next_call p k kind request h) (request_arrival doc p.process k h))

      own : p ≡ q → Told doc q c k (send doc k step p kind request h)
      own same =
          told_none doc q c k (x ∷ h) fit (until_send doc q c k step p kind request h s.until)
          (λ a. ⊎_elim (unasked doc q c k h (free same).0 (no_call h (free same).1) s) (λ new. other_kind (next_call p k kind request h) keeps new.1) (asked_sent doc q c k step p kind request h a))

      foreign : is_same p q ≡ false → Told doc q c k (send doc k step p kind request h)
      foreign other = told_same doc q c k h (x ∷ h) (adds_send doc q c k step p kind request h h other (adds_none q c k h)) fit (same_foreign q x h tt other).call s

  -- an entry that closes a call which isn't of a release
  closing_told : (k step : ℕ) (p : Identity) (fact : Fact) (d : Call) (h : List Entry) → StartIsNext (entry k step p fact).actor fact h → sent_of (entry k step p fact).actor fact ≡ None → (is_same p q ≡ false → hears q c.number (entry k step p fact).actor fact ≡ false)
      → alive p.process h ≡ Some p.incarnation → call_in p h ≡ Some d → (is_controller doc p.process ≡ true → release_begun doc.settings.rules.release d.kind ≡ None)
      → AllFit doc (entry k step p fact ∷ h) → Told doc q c k h → Told doc q c k (entry k step p fact ∷ h)
  closing_told k step p fact d h next none quiet up waits of fit s = by_own p (Told doc q c k (x ∷ h)) own foreign
    where
      x : Entry
      x = entry k step p fact

      own : p ≡ q → Told doc q c k (x ∷ h)
      own same =
          told_none doc q c k (x ∷ h) fit (until_more k x h refl s.until)
          (λ a. unasked doc q c k h (up_own p h same up) (not_pending h d (call_own p h (Some d) same waits) (of (subst (λ p. is_controller doc p.process ≡ true) (sym same) role))) s (asked_old q c x h none a))

      foreign : is_same p q ≡ false → Told doc q c k (x ∷ h)
      foreign other = told_quiet doc q c k x h refl next none (quiet other) (same_foreign q x h next other).call fit s

  -- a release ends
  end_told : (k step : ℕ) (p : Identity) (h g : List Entry) → p.incarnation ≤ starts p.process g → (is_same p q ≡ false → Adds q c k h g × (call_in q g ≡ call_in q h)) → Until k g → AllFit doc (end_release doc k step p g)
      → Told doc q c k h → Told doc q c k (end_release doc k step p g)
  end_told k step p h g started others until fit s = by_own p (Told doc q c k (end_release doc k step p g)) own foreign
    where
      own : p ≡ q → Told doc q c k (end_release doc k step p g)
      own same =
          told_over doc q c k (end_release doc k step p g) fit ((adds_end doc q c k step p g g (adds_none q c k g)).until until)
          (subst (λ r. Over r (end_release doc k step p g)) same (ended_over doc k step p g started))

      foreign : is_same p q ≡ false → Told doc q c k (end_release doc k step p g)
      foreign other =
          let a = others other in
          told_same doc q c k h (end_release doc k step p g) (adds_end doc q c k step p h g a.0) fit ((same_end doc k step p q other g).call ∙ a.1) s

  -- a release begins
  begin_told : (k step : ℕ) (p : Identity) (at_deadline : Bool) (h g : List Entry) → Adds q c k h g → p.incarnation ≤ starts p.process g → (is_same p q ≡ false → call_in q g ≡ call_in q h)
      → alive p.process h ≡ Some p.incarnation → is_releasing p h ≡ false → AllFit doc (begin_release doc k step p at_deadline g) → Told doc q c k h → Told doc q c k (begin_release doc k step p at_deadline g)
  begin_told k step p at_deadline h g adds started call up fresh fit s = by_own p (Told doc q c k (begin_release doc k step p at_deadline g)) own foreign
    where
      x : Entry
      x = entry k step p (ReleaseBegins at_deadline)

      added : Adds q c k h (x ∷ g)
      added = adds_quiet q c k x h g refl tt refl refl adds

      none : p ≡ q → Asked q c (x ∷ g) → ⊥
      none same a = unasked doc q c k h (up_own p h same up) pending s (added.back a)
        where
          pending : Pending doc q c h → ⊥
          pending w = none_is w.begun (sym ((s.fit.each q).ordinary (up_own p h same up) (subst (λ p. is_releasing p h ≡ false) same fresh)) ∙ ap (release_of doc) w.waits ∙ w.of)

      own : p ≡ q → Told doc q c k (begin_release doc k step p at_deadline g)
      own same =
          begin_cases doc k step p (λ f. AllFit doc f → Told doc q c k f) at_deadline g
          (λ fit. told_over doc q c k (end_release doc k step p (x ∷ g)) fit ((adds_end doc q c k step p h (x ∷ g) added).until s.until)
          (subst (λ r. Over r (end_release doc k step p (x ∷ g))) same (ended_over doc k step p (x ∷ g) started)))
          (λ kind request first. λ fit. told_sent doc q c k step p kind request k (x ∷ g) first.of first.opens (none same) (added.until s.until) fit) fit

      foreign : is_same p q ≡ false → Told doc q c k (begin_release doc k step p at_deadline g)
      foreign other =
          told_same doc q c k h (begin_release doc k step p at_deadline g) (adds_begin doc q c k step p at_deadline h g other adds) fit ((same_begin doc k step p q other at_deadline g).call ∙ call other) s

  -- a reply that doesn't count
  ignored_told : (k : ℕ) (b : Back) (h : List Entry) → counted doc b.who k b.call.number h ≡ None → AllFit doc (entry k 3 b.who (Delivers b.call b.reply false) ∷ h) → Told doc q c k h
      → Told doc q c k (entry k 3 b.who (Delivers b.call b.reply false) ∷ h)
  ignored_told k b h none fit s = record {
    fit = fit;
    until = until_more k x h refl s.until;
    gone = λ a. later (s.gone (asked_old q c x h refl a));
    heard = λ y at told after a. ⊎_elim (new y told (asked_old q c x h refl a)) (λ old. still (s.heard y old told after (asked_old q c x h refl a))) at;
  }
    where
      x : Entry
      x = entry k 3 b.who (Delivers b.call b.reply false)

      later : Gone doc q c h → Gone doc q c (x ∷ h)
      later (inl over) = inl (over_more q x h tt over)
      later (inr w) = inr (record { waits = w.waits; begun = w.begun; of = w.of })

      still : {A : Type 0} → Over q h ⊎ A → Over q (x ∷ h) ⊎ A
      still (inl over) = inl (over_more q x h tt over)
      still (inr late) = inr late

      new : (y : Entry) → hears q c.number y.actor y.fact ≡ true → Asked q c h → y ≡ x → Over q (x ∷ h) ⊎ (is_late doc q y.beat c ≡ true)
      new y told a is =
          let both : (is_same b.who q && (b.call.number == c.number)) ≡ true = ap (λ (y : Entry). hears q c.number y.actor y.fact) (sym is) ∙ told in
          let same : b.who ≡ q = same_is b.who q (and_left (is_same b.who q) (b.call.number == c.number) both) in
          let number : b.call.number ≡ c.number = eqb-true _ _ (and_right (is_same b.who q) (b.call.number == c.number) both) in
          let uncounted : counted doc q k c.number h ≡ None = subst (λ n. counted doc q k n h ≡ None) number (subst (λ r. counted doc r k b.call.number h ≡ None) same none) in
          subst (λ n. Over q (x ∷ h) ⊎ (is_late doc q n c ≡ true)) (ap (λ (y : Entry). y.beat) (sym is)) (still (ignored doc q c k h s.fit uncounted (s.gone a)))

  -- a look's reply is followed by an emptying
  emptied_told : (k begun : ℕ) (b : Back) (waiting : Call) (h : List Entry) (request : Request) → CountedFor doc b.who k b.call.number h waiting → release_begun doc.settings.rules.release (Emptying begun) ≡ Some begun → waiting.kind ≡ Look begun
      → AllFit doc (send doc k 3 b.who (Emptying begun) request (after_reply k b waiting h)) → Told doc q c k h → Told doc q c k (send doc k 3 b.who (Emptying begun) request (after_reply k b waiting h))
  emptied_told k begun b waiting h request is of look fit s = by_own b.who (Told doc q c k g) own foreign
    where
      x : Entry
      x = entry k 3 b.who (Delivers waiting b.reply true)

      g : List Entry
      g = send doc k 3 b.who (Emptying begun) request (x ∷ h)

      own : b.who ≡ q → Told doc q c k g
      own same = told_sent doc q c k 3 b.who (Emptying begun) request begun (x ∷ h) of (λ d. refl) none (until_more k x h refl s.until) fit
        where
          pending : Pending doc q c h → ⊥
          pending w = other_kind waiting (ap gives_up look) (some_is waiting c (sym (call_own b.who h (Some waiting) same is.waits) ∙ w.waits))

          none : Asked q c (x ∷ h) → ⊥
          none a = unasked doc q c k h (up_own b.who h same is.up) pending s (asked_old q c x h refl a)

      foreign : is_same b.who q ≡ false → Told doc q c k g
      foreign other =
          told_same doc q c k h g
          (adds_send doc q c k 3 b.who (Emptying begun) request h (x ∷ h) other (adds_quiet q c k x h h refl tt refl (ap (λ b. b && (waiting.number == c.number)) other) (adds_none q c k h)))
          fit ((same_foreign q (entry k 3 b.who (Sends (next_call b.who k (Emptying begun) request (x ∷ h)) (request_arrival doc b.who.process k (x ∷ h)))) (x ∷ h) tt other).call ∙ (same_foreign q x h tt other).call) s

  told_keeps : Keeps doc (λ k step h. Told doc q c k h)
  told_keeps = record {
    on = λ k step h s. s;
    next = λ k s. record { fit = s.fit; until = λ x at. omega (arith, s.until x at); gone = s.gone; heard = s.heard };
    event = λ k w h scripted s. told_quiet doc q c k _ h refl tt refl refl refl ((fit_keeps doc).event k w h scripted s.fit) s;
    starts = λ k step p h s. told_quiet doc q c k _ h refl (p, refl) refl refl refl ((fit_keeps doc).starts k step p h s.fit) s;
    crashes = λ k p i h up s. told_quiet doc q c k _ h refl tt refl refl refl ((fit_keeps doc).crashes k p i h up s.fit) s;
    stalls = λ k id beats i h scripted up s. told_quiet doc q c k _ h refl tt refl refl refl ((fit_keeps doc).stalls k id beats i h scripted up s.fit) s;
    stops = λ k id i h scripted up free s. told_quiet doc q c k _ h refl tt refl refl refl ((fit_keeps doc).stops k id i h scripted up free s.fit) s;
    releases = λ k id i before request scripted up awake is stop was s. released k id i before request up was s ((fit_keeps doc).releases k id i before request scripted up awake is stop was.fit s.fit);
    answers = λ k x h at s. told_quiet doc q c k _ h refl tt refl refl refl ((fit_keeps doc).answers k x h at s.fit) s;
    ignores = λ k b h coming is s. ignored_told k b h is ((fit_keeps doc).ignores k b h coming is s.fit) s;
    counts = λ k b waiting h coming is of s. (let d = counted_is doc b.who k b.call.number h waiting is in
        closing_told k 3 b.who (Delivers waiting b.reply true) waiting h tt refl (λ other. ap (λ t. t && (waiting.number == c.number)) other) d.up d.waits of ((fit_keeps doc).counts k b waiting h coming is of s.fit) s);
    follows = λ k b waiting h request coming is role of follows was s.
        replied k b waiting h request (counted_is doc b.who k b.call.number h waiting is) ((fit_keeps doc).follows k b waiting h request coming is role of follows was.fit s.fit) s;
    leads = λ k b waiting h version coming is role of follows was s. told_quiet doc q c k _ (after_reply k b waiting h) refl tt refl refl refl ((fit_keeps doc).leads k b waiting h version coming is role of follows was.fit s.fit) s;
    asks = λ k b waiting h request coming is other asked was s.
        replied k b waiting h request (counted_is doc b.who k b.call.number h waiting is) ((fit_keeps doc).asks k b waiting h request coming is other asked was.fit s.fit) s;
    turns = record {
      restarts = λ k p h s. told_quiet doc q c k _ h refl (p, refl) refl refl refl ((fit_keeps doc).turns.restarts k p h s.fit) s;
      expires = λ k p i call h up waits late of s.
          closing_told k 4 (identity p i) (Expires call) call h tt refl (λ other. refl) up waits (λ role. of) ((fit_keeps doc).turns.expires k p i call h up waits late of s.fit) s;
      ends = λ k p i at h role up is before stop s. told_quiet doc q c k _ h refl tt refl refl refl ((fit_keeps doc).turns.ends k p i at h role up is before stop s.fit) s;
      polls = λ k p i h role up awake waits s.
          plain_told k 4 (identity p i) Plain _ h refl (own_call (identity p i) h up waits) ((fit_keeps doc).turns.polls k p i h role up awake waits s.fit) s;
      attempts = λ k p i h role up awake waits s.
          plain_told k 4 (identity p i) _ _ h (attempt_keeps doc (identity p i) k h) (own_call (identity p i) h up waits) ((fit_keeps doc).turns.attempts k p i h role up awake waits s.fit) s;
      seeks = λ k p i call h kubelet up awake expired late s.
          plain_told k 4 (identity p i) Plain _ h refl (no_kubelet (identity p i) h kubelet) ((fit_keeps doc).turns.seeks k p i call h kubelet up awake expired late s.fit) s;
      posts = λ k p i h kubelet up awake none s.
          plain_told k 4 (identity p i) Plain _ h refl (no_kubelet (identity p i) h kubelet) ((fit_keeps doc).turns.posts k p i h kubelet up awake none s.fit) s;
      ticks = λ k r h acting s. ticked k r h s;
    };
  }
    where
      own_call : (p : Identity) (h : List Entry) → alive p.process h ≡ Some p.incarnation → call_in p h ≡ None → p ≡ q → (alive q.process h ≡ Some q.incarnation) × (call_in q h ≡ None)
      own_call p h up waits same = (up_own p h same up, call_own p h None same waits)

      no_kubelet : (p : Identity) (h : List Entry) → is_controller doc p.process ≡ false → p ≡ q → (alive q.process h ≡ Some q.incarnation) × (call_in q h ≡ None)
      no_kubelet p h kubelet same = absurd (true_is (sym (subst (λ p. is_controller doc p.process ≡ true) (sym same) role) ∙ kubelet))

      replied : (k : ℕ) (b : Back) (waiting : Call) (h : List Entry) (request : Request) → CountedFor doc b.who k b.call.number h waiting → AllFit doc (send doc k 3 b.who Plain request (after_reply k b waiting h))
          → Told doc q c k (after_reply k b waiting h) → Told doc q c k (send doc k 3 b.who Plain request (after_reply k b waiting h))
      replied k b waiting h request is fit s =
          plain_told k 3 b.who Plain request (after_reply k b waiting h) refl (own_call b.who (after_reply k b waiting h) is.up (replied_call k b waiting h)) fit s

      -- a stop's single update waits for nothing
      released : (k : ℕ) (id : ProcId) (i : ℕ) (before : List Entry) (request : Request) → alive id.0 before ≡ Some i → Told doc q c k (script_entry k 1 (Happens (what.Stop id) None) ∷ before)
          → Told doc q c k (stopped_at k id i before) → AllFit doc (send doc k 1 (identity id.0 i) Release request (stopped_at k id i before)) → Told doc q c k (send doc k 1 (identity id.0 i) Release request (stopped_at k id i before))
      released k id i before request up was s fit = by_own p (Told doc q c k (send doc k 1 p Release request g)) own foreign
        where
          p : Identity
          p = identity id.0 i

          g : List Entry
          g = stopped_at k id i before

          over : Over p (send doc k 1 p Release request g)
          over = (was.fit.counted id.0 i up, gone_now p (life id.0 before))

          own : p ≡ q → Told doc q c k (send doc k 1 p Release request g)
          own same =
              told_over doc q c k (send doc k 1 p Release request g) fit (until_send doc q c k 1 p Release request g s.until)
              (subst (λ r. Over r (send doc k 1 p Release request g)) same over)

          foreign : is_same p q ≡ false → Told doc q c k (send doc k 1 p Release request g)
          foreign other =
              told_same doc q c k g (send doc k 1 p Release request g) (adds_send doc q c k 1 p Release request g g other (adds_none q c k g)) fit
              (same_foreign q (entry k 1 p (Sends (next_call p k Release request g) (request_arrival doc p.process k g))) g tt other).call s

      ticked : (k : ℕ) (r : Identity) (h : List Entry) → Told doc q c k h → Told doc q c k (tick doc k r h)
      ticked k r h s = walk_tick doc k r (Told doc q c k) (λ t g made s. told_quiet doc q c k (entry k 4 r (Ticks t)) g refl tt refl refl refl (quiet_fit k r t g s.fit) s) h s
        where
          quiet_fit : (k : ℕ) (r : Identity) (t : Tick) (g : List Entry) → AllFit doc g → AllFit doc (entry k 4 r (Ticks t) ∷ g)
          quiet_fit k r t g s =
              let x = entry k 4 r (Ticks t) in
              record { counted = counted_more x g tt s.counted; each = λ p. same_fits doc p g (x ∷ g) (same_step p x g tt refl refl refl) (s.each p) }

  told_release : KeepsRelease doc (λ k step h. Told doc q c k h)
  told_release = record {
    halts = λ k id i h scripted up other runs s. told_quiet doc q c k _ h refl tt refl refl refl ((fit_release doc).halts k id i h scripted up other runs s.fit) s;
    begins = λ k id i before scripted up awake other fresh led s. (let h = script_entry k 1 (Happens (what.Stop id) None) ∷ before in
        begin_told k 1 (identity id.0 i) false h (halted_at k id i before)
        (adds_quiet q c k (entry k 1 (identity id.0 i) ReleaseStops) h h refl tt refl refl (adds_none q c k h)) (s.fit.counted id.0 i up) (λ other. refl) up fresh
        ((fit_release doc).begins k id i before scripted up awake other fresh led s.fit) s);
    empties = λ k begun b waiting h request coming is role of look asked s.
        emptied_told k begun b waiting h request (counted_is doc b.who k b.call.number h waiting is) (emptying_of_look doc.settings.rules.release begun (ap (release_begun doc.settings.rules.release) (sym look) ∙ of)) look
        ((fit_release doc).empties k begun b waiting h request coming is role of look asked s.fit) s;
    closes = λ k begun b waiting h coming is role of s.
        closed k b waiting h (counted_is doc b.who k b.call.number h waiting is) ((fit_release doc).closes k begun b waiting h coming is role of s.fit) s;
    turns = record {
      closes = λ k p i begun call h up waits late is s.
          end_told k 4 (identity p i) h h (s.fit.counted p i up) (λ other. (adds_none q c k h, refl)) s.until ((fit_release doc).turns.closes k p i begun call h up waits late is s.fit) s;
      begins = λ k p i at h role up awake is before other fresh s.
          late k (identity p i) (not (acts_by doc.settings.rules.in_release true)) h up fresh ((fit_release doc).turns.begins k p i at h role up awake is before other fresh s.fit) s;
    };
  }
    where
      closed : (k : ℕ) (b : Back) (waiting : Call) (h : List Entry) → CountedFor doc b.who k b.call.number h waiting → AllFit doc (end_release doc k 3 b.who (after_reply k b waiting h)) → Told doc q c k h
          → Told doc q c k (end_release doc k 3 b.who (after_reply k b waiting h))
      closed k b waiting h is fit s =
          end_told k 3 b.who h (after_reply k b waiting h) (s.fit.counted b.who.process b.who.incarnation is.up) others
          (until_more k (entry k 3 b.who (Delivers waiting b.reply true)) h refl s.until) fit s
        where
          x : Entry
          x = entry k 3 b.who (Delivers waiting b.reply true)

          others : is_same b.who q ≡ false → Adds q c k h (x ∷ h) × (call_in q (x ∷ h) ≡ call_in q h)
          others other = (adds_quiet q c k x h h refl tt refl (ap (λ t. t && (waiting.number == c.number)) other) (adds_none q c k h), (same_foreign q x h tt other).call)

      late : (k : ℕ) (p : Identity) (b : Bool) (h : List Entry) → alive p.process h ≡ Some p.incarnation → is_releasing p h ≡ false → AllFit doc (begin_release doc k 4 p true (and_end k 4 p b h)) → Told doc q c k h
          → Told doc q c k (begin_release doc k 4 p true (and_end k 4 p b h))
      late k p b h up fresh fit s =
          begin_told k 4 p true h (and_end k 4 p b h) (adds_and_end q c k 4 p b h h (adds_none q c k h)) (started b) (λ other. (same_and_end doc k 4 p q other b h).call) up fresh fit s
        where
          started : (b : Bool) → p.incarnation ≤ starts p.process (and_end k 4 p b h)
          started true = s.fit.counted p.process p.incarnation up
          started false = s.fit.counted p.process p.incarnation up

  -- ---- histories

  put_unasked : (xs : List (Key × Object)) (h : List Entry) → (Asked q c h → ⊥) × Until 0 h → (Asked q c (put_all doc xs h) → ⊥) × Until 0 (put_all doc xs h)
  put_unasked [] h s = s
  put_unasked (x ∷ xs) h s =
      let e = script_entry 0 0 (First x.0 (stamped (whole_second (store_wall doc 0)) x.1)) in
      put_unasked xs (e ∷ h) (λ a. s.0 (asked_old q c e h refl a), until_more 0 e h refl s.1)

  first_told : Told doc q c 0 (history doc 0)
  first_told = let none = put_unasked doc.objects [] (λ a. a.at, λ x at. absurd at) in told_none doc q c 0 (history doc 0) (first_fit doc) none.1 none.0

  pub turn_told : (p k : ℕ) → Told doc q c k (at_turn doc p k)
  turn_told p k = walk_at_turn doc (λ k step h. Told doc q c k h) told_keeps told_release first_told p k
