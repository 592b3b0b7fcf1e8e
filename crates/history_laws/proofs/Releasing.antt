-- Releases and calls: while a release runs its call waits, and whoever is up and releases nothing has an ordinary call.
use Rattle.std.proofs.Common.{◌≡◌, ◌⊎◌, ◌<◌, ◌≤◌, ℕ, ◌==◌, ◌&&◌, not, Bool, true, false, cond, List, [], ◌∷◌, Option, Some, None, refl, sym, ap, ◌∙◌, subst, inl, inr, ⊎_elim, arith}
use Rattle.std.proofs.lemmas.Bool.{eq-eqb}
use Rattle.kube_base.specs.declared.numbers.ProcId.{ProcId}
use Rattle.kube_base.specs.declared.numbers.Version.{Version}
use Rattle.kube_objects.specs.declared.call.Request.{Request}
use Rattle.kube_objects.specs.declared.call.Request.TheVariants.{Get, Update}
use Rattle.kube_objects.specs.declared.deed.Actor.{Actor}
use Rattle.kube_objects.specs.declared.key.Key.{Key}
use Rattle.kube_objects.specs.declared.object.Object.{Object}
use Rattle.kube_objects.specs.declared.rules.ReleaseRule.{ReleaseRule}
use Rattle.kube_objects.specs.declared.rules.ReleaseRule.TheVariants as rules
use Rattle.kube_objects.specs.declared.script.What.TheVariants as what
use Rattle.kube_objects.specs.CallSlots.{release_of}
use Rattle.kube_objects.specs.Clocks.{local, wall, store_wall, whole_second}
use Rattle.kube_objects.specs.Document.{Doc, is_controller}
use Rattle.kube_objects.specs.Elector.{moment, Shown, attempt, attempt_from, acts_by, acts_on, is_valid, renewed, lead_says, leads, observed_at, shown, release_from}
use Rattle.kube_objects.specs.Entry.{Entry, Identity, Call, CallKind, Plain, Fast, Release, Look, Emptying, Tick, actor_of, entry, script_entry}
use Rattle.kube_objects.specs.Entry.{Fact, First, Event as Happens, Crashes, ReleaseBegins, ReleaseEnds, StepsDown, ReleaseStops}
use Rattle.kube_objects.specs.Entry.{Sends, Delivers, Expires, Leads, Ticks}
use Rattle.kube_objects.specs.Identities.{identity, is_same, is_by, is_own}
use Rattle.kube_objects.specs.Newest.{newest, when, join, has, or_else}
use Rattle.kube_objects.specs.Process.{gone, life, alive, starts, releasing_says, is_releasing, ending_says, is_ending, open_as, call_says, last_call, call_in, release_begun}
use Rattle.kube_objects.specs.Releases.{and_end, end_release, first_call, send_first, begin_release}
use Rattle.kube_objects.specs.Stamps.{stamped}
use Rattle.kube_objects.specs.Stored.{election}
use Rattle.kube_objects.specs.Wire.{Back, next_call, request_arrival, send}
use Rattle.history.specs.History.{put_all, history, at_turn}
use Rattle.history_laws.specs.Calls.{ReleasesWait, OthersAreOrdinary}
use Rattle.history_laws.proofs.Counting.{CountedFor, counted_is}
use Rattle.history_laws.proofs.Expired.{silent}
use Rattle.history_laws.proofs.Lives.{Counted, Over, counted_more, lived_before, starts_more}
use Rattle.history_laws.proofs.Plainly.{upper, some_is, none_is, true_is, same_is, same_self}
use Rattle.history_laws.proofs.Ticks.{walk_tick}
use Rattle.history_laws.proofs.Walk.{StartIsNext, IsStop, stopped_at, halted_at, after_reply, Keeps, KeepsRelease, walk_history, walk_at_turn}

-- ---- what an entry leaves of an identity's releases and calls

-- an entry of another says nothing on a release
releasing_silent : (q : Identity) (who : Actor) (d : Fact) → is_by q who ≡ false → releasing_says q who d ≡ None
releasing_silent q who (ReleaseBegins at_deadline) other = ap (λ b. when b true) other
releasing_silent q who ReleaseEnds other = ap (λ b. when b false) other
releasing_silent q who Crashes other = ap (λ b. when b false) other
releasing_silent q who _ other = refl

-- nor on its lead
lead_silent : (q : Identity) (who : Actor) (d : Fact) → is_by q who ≡ false → lead_says q who d ≡ None
lead_silent q who (Leads version) other = ap (λ b. when b version) other
lead_silent q who _ other = refl

-- entries that say nothing on an identity's releases, calls and lead
pub record Same (q : Identity) (h g : List Entry) : Type 0 where
  pub runs : is_releasing q g ≡ is_releasing q h
  pub call : call_in q g ≡ call_in q h
  pub lead : leads q g ≡ leads q h
  pub lived : alive q.process g ≡ Some q.incarnation → (alive q.process h ≡ Some q.incarnation) ⊎ (starts q.process h < q.incarnation)
  pub starts : starts q.process h ≤ starts q.process g

pub same_step : (q : Identity) (x : Entry) (h : List Entry) → StartIsNext x.actor x.fact h → releasing_says q x.actor x.fact ≡ None → call_says q x.actor x.fact ≡ None → lead_says q x.actor x.fact ≡ None
    → Same q h (x ∷ h)
same_step q x h next runs call lead = record {
  runs = ap (λ o. or_else false (upper o (newest (λ e T. releasing_says q e.actor e.fact) h))) runs;
  call = ap (λ o. join (upper o (last_call q h))) call;
  lead = ap (λ o. has (upper o (newest (λ e T. lead_says q e.actor e.fact) h))) lead;
  lived = lived_before q x h next;
  starts = starts_more q.process x h;
}

pub same_foreign : (q : Identity) (x : Entry) (h : List Entry) → StartIsNext x.actor x.fact h → is_by q x.actor ≡ false → Same q h (x ∷ h)
same_foreign q x h next other = same_step q x h next (releasing_silent q x.actor x.fact other) (silent q x.actor x.fact other) (lead_silent q x.actor x.fact other)

pub same_trans : (q : Identity) (f g h : List Entry) → Same q f g → Same q g h → Same q f h
same_trans q f g h a b = record {
  runs = b.runs ∙ a.runs;
  call = b.call ∙ a.call;
  lead = b.lead ∙ a.lead;
  lived = λ up. ⊎_elim (λ was. a.lived was) (λ later. inr (omega (arith, later, a.starts))) (b.lived up);
  starts = omega (arith, a.starts, b.starts);
}

pub same_all : (q : Identity) (h : List Entry) → Same q h h
same_all q h = record { runs = refl; call = refl; lead = refl; lived = λ up. inl up; starts = omega arith }

-- a release of another
module _ (doc : Doc) (k step : ℕ) (q p : Identity) (other : is_same q p ≡ false) where
  pub same_and_end : (b : Bool) (h : List Entry) → Same p h (and_end k step q b h)
  same_and_end true h = same_foreign p (entry k step q StepsDown) h tt other
  same_and_end false h = same_all p h

  pub same_end : (h : List Entry) → Same p h (end_release doc k step q h)
  same_end h =
      let g = and_end k step q (acts_on doc q h) h in
      same_trans p h g (entry k step q ReleaseEnds ∷ g) (same_and_end (acts_on doc q h) h) (same_foreign p (entry k step q ReleaseEnds) g tt other)

  pub same_send : (kind : CallKind) (request : Request) (h : List Entry) → Same p h (send doc k step q kind request h)
  same_send kind request h = same_foreign p (entry k step q (Sends (next_call q k kind request h) (request_arrival doc q.process k h))) h tt other

  same_first : (o : Option (CallKind × Request)) (h : List Entry) → Same p h (send_first doc k step q o h)
  same_first None h = same_end h
  same_first (Some call) h = same_send call.0 call.1 h

  pub same_begin : (at_deadline : Bool) (h : List Entry) → Same p h (begin_release doc k step q at_deadline h)
  same_begin at_deadline h =
      let x = entry k step q (ReleaseBegins at_deadline) in
      let o = first_call doc.settings.rules.release k (release_from q (wall doc q.process k) (shown q h)) in
      same_trans p h (x ∷ h) (send_first doc k step q o (x ∷ h)) (same_foreign p x h tt other) (same_first o (x ∷ h))

-- ---- the invariant

pub record Fits (doc : Doc) (q : Identity) (h : List Entry) : Type 0 where
  -- while a release runs its call waits
  pub waits : is_releasing q h ≡ true → (begun : ℕ) × (release_of doc (call_in q h) ≡ Some begun)
  pub role : is_releasing q h ≡ true → is_controller doc q.process ≡ true
  pub other : is_releasing q h ≡ true → IsStop doc → ⊥
  -- and who is up and releases nothing has an ordinary call
  pub ordinary : alive q.process h ≡ Some q.incarnation → is_releasing q h ≡ false → release_of doc (call_in q h) ≡ None
  pub leader : leads q h ≡ true → is_controller doc q.process ≡ true
  -- before it starts it has none
  pub unborn : starts q.process h < q.incarnation → (is_releasing q h ≡ false) × (call_in q h ≡ None)

pub record AllFit (doc : Doc) (h : List Entry) : Type 0 where
  pub counted : Counted h
  pub each : (q : Identity) → Fits doc q h

pub same_fits : (doc : Doc) (q : Identity) (h g : List Entry) → Same q h g → Fits doc q h → Fits doc q g
same_fits doc q h g same s = record {
  waits = λ is. (let w = s.waits (sym same.runs ∙ is) in (w.0, ap (release_of doc) same.call ∙ w.1));
  role = λ is. s.role (sym same.runs ∙ is);
  other = λ is. s.other (sym same.runs ∙ is);
  ordinary = λ up is. ap (release_of doc) same.call
      ∙ ⊎_elim (λ was. s.ordinary was (sym same.runs ∙ is)) (λ later. ap (release_of doc) (s.unborn later).1) (same.lived up);
  leader = λ led. s.leader (sym same.lead ∙ led);
  unborn = λ later. (let u = s.unborn (omega (arith, later, same.starts)) in (same.runs ∙ u.0, same.call ∙ u.1));
}

-- an entry that says nothing on anybody's
fit_quiet : (doc : Doc) (x : Entry) (h : List Entry) → StartIsNext x.actor x.fact h → ((q : Identity) → releasing_says q x.actor x.fact ≡ None) → ((q : Identity) → call_says q x.actor x.fact ≡ None)
    → ((q : Identity) → lead_says q x.actor x.fact ≡ None) → AllFit doc h → AllFit doc (x ∷ h)
fit_quiet doc x h next runs call lead s = record {
  counted = counted_more x h next s.counted;
  each = λ q. same_fits doc q h (x ∷ h) (same_step q x h next (runs q) (call q) (lead q)) (s.each q);
}

-- what an identity adds, of whom the others' stay
fit_own : (doc : Doc) (q : Identity) (h g : List Entry) → Counted g → ((p : Identity) → is_same q p ≡ false → Same p h g) → Fits doc q g → AllFit doc h → AllFit doc g
fit_own doc q h g counted others own s = record { counted = counted; each = λ p. by_test p (is_same q p) refl }
  where
    by_test : (p : Identity) (b : Bool) → is_same q p ≡ b → Fits doc p g
    by_test p true is = subst (λ p. Fits doc p g) (same_is q p is) own
    by_test p false is = same_fits doc p h g (others p is) (s.each p)

-- whoever waits with a release's call and is up releases
pub releases_now : (doc : Doc) (q : Identity) (h : List Entry) (call : Call) (begun : ℕ) → Fits doc q h → alive q.process h ≡ Some q.incarnation → call_in q h ≡ Some call
    → release_begun doc.settings.rules.release call.kind ≡ Some begun → is_releasing q h ≡ true
releases_now doc q h call begun s up waits of = by_test (is_releasing q h) refl
  where
    by_test : (b : Bool) → is_releasing q h ≡ b → b ≡ true
    by_test true is = refl
    by_test false is = absurd (none_is begun (sym (s.ordinary up is) ∙ ap (release_of doc) waits ∙ of))

-- and whoever has no such call releases nothing
pub releases_not : (doc : Doc) (q : Identity) (h : List Entry) → Fits doc q h → release_of doc (call_in q h) ≡ None → is_releasing q h ≡ true → ⊥
releases_not doc q h s none is = let w = s.waits is in none_is w.0 (sym none ∙ w.1)

-- ---- kinds of calls

-- the first call of a release is of it, and waits
pub record IsFirst (rule : ReleaseRule) (k : ℕ) (kind : CallKind) : Type 0 where
  pub of : release_begun rule kind ≡ Some k
  pub opens : (c : Call) → open_as kind c ≡ Some c

pub first_is : (rule : ReleaseRule) (k : ℕ) (own : Option Request) (call : CallKind × Request) → first_call rule k own ≡ Some call → IsFirst rule k call.0
first_is rules.Stop k own call is = absurd (none_is call is)
first_is rules.Own k None call is = absurd (none_is call is)
first_is rules.Own k (Some request) call is = subst (λ (c : CallKind × Request). IsFirst rules.Own k c.0) (some_is (Emptying k, request) call is) (record { of = refl; opens = λ c. refl })
first_is rules.Checked k own call is = subst (λ (c : CallKind × Request). IsFirst rules.Checked k c.0) (some_is (Look k, Get election) call is) (record { of = refl; opens = λ c. refl })
first_is rules.Reread k own call is = subst (λ (c : CallKind × Request). IsFirst rules.Reread k c.0) (some_is (Look k, Get election) call is) (record { of = refl; opens = λ c. refl })

-- an emptying is of its look's release
pub emptying_of_look : (rule : ReleaseRule) (begun : ℕ) → release_begun rule (Look begun) ≡ Some begun → release_begun rule (Emptying begun) ≡ Some begun
emptying_of_look rules.Stop begun of = absurd (none_is begun of)
emptying_of_look rules.Own begun of = refl
emptying_of_look rules.Checked begun of = refl
emptying_of_look rules.Reread begun of = refl

pub plain_of_none : (rule : ReleaseRule) → release_begun rule Plain ≡ None
plain_of_none rules.Stop = refl
plain_of_none rules.Own = refl
plain_of_none rules.Checked = refl
plain_of_none rules.Reread = refl

fast_of_none : (rule : ReleaseRule) → release_begun rule Fast ≡ None
fast_of_none rules.Stop = refl
fast_of_none rules.Own = refl
fast_of_none rules.Checked = refl
fast_of_none rules.Reread = refl

-- a kind of an attempt's first call
pub record IsAttempt (rule : ReleaseRule) (kind : CallKind) : Type 0 where
  pub of : release_begun rule kind ≡ None
  pub opens : (c : Call) → open_as kind c ≡ Some c

pub attempt_is : (doc : Doc) (q : Identity) (k : ℕ) (h : List Entry) → IsAttempt doc.settings.rules.release (attempt doc q k h).0
attempt_is doc q k h = by_test (doc.settings.fast_renew && leads q h)
  where
    rule : ReleaseRule
    rule = doc.settings.rules.release

    plain : IsAttempt rule Plain
    plain = record { of = plain_of_none rule; opens = λ c. refl }

    by_own : (b : Bool) (x : Shown) → IsAttempt rule (cond {A = CallKind × Request} b (Fast, Update election x.0 (renewed q (moment doc q k) x.1)) (Plain, Get election)).0
    by_own true x = record { of = fast_of_none rule; opens = λ c. refl }
    by_own false x = plain

    by_shown : (o : Option Shown) → IsAttempt rule (attempt_from q (moment doc q k) (observed_at doc q h) o).0
    by_shown None = plain
    by_shown (Some x) = by_own (is_own q x.1.holder && is_valid (local doc q.process k) (observed_at doc q h) x.1) x

    by_test : (b : Bool) → IsAttempt rule (cond {A = CallKind × Request} b (attempt_from q (moment doc q k) (observed_at doc q h) (shown q h)) (Plain, Get election)).0
    by_test true = by_shown (shown q h)
    by_test false = plain

-- ---- own entries

-- a process is gone with an entry that says so
pub gone_now : (q : Identity) (o : Option (Option ℕ)) → join (upper (gone (when (q.process == q.process) q.incarnation)) o) ≡ Some q.incarnation → ⊥
gone_now q o up = none_is q.incarnation (ap (λ b. join (upper (gone (when b q.incarnation)) o)) (sym (eq-eqb q.process q.process refl)) ∙ up)

module _ (doc : Doc) (k step : ℕ) (q : Identity) where
  -- its end
  counted_and_end : (b : Bool) (h : List Entry) → Counted h → Counted (and_end k step q b h)
  counted_and_end true h counted = counted_more (entry k step q StepsDown) h tt counted
  counted_and_end false h counted = counted

  counted_end : (h : List Entry) → Counted h → Counted (end_release doc k step q h)
  counted_end h counted = counted_more (entry k step q ReleaseEnds) (and_end k step q (acts_on doc q h) h) tt (counted_and_end (acts_on doc q h) h counted)

  counted_send : (kind : CallKind) (request : Request) (h : List Entry) → Counted h → Counted (send doc k step q kind request h)
  counted_send kind request h counted = counted_more (entry k step q (Sends (next_call q k kind request h) (request_arrival doc q.process k h))) h tt counted

  pub starts_and_end : (b : Bool) (h : List Entry) → starts q.process (and_end k step q b h) ≡ starts q.process h
  starts_and_end true h = refl
  starts_and_end false h = refl

  -- nothing is left of a process that is gone and that no release runs of
  over_fits : (g : List Entry) → is_releasing q g ≡ false → (alive q.process g ≡ Some q.incarnation → ⊥) → q.incarnation ≤ starts q.process g → (leads q g ≡ true → is_controller doc q.process ≡ true) → Fits doc q g
  over_fits g idle down started leader = record {
    waits = λ is. absurd (true_is (sym is ∙ idle));
    role = λ is. absurd (true_is (sym is ∙ idle));
    other = λ is. absurd (true_is (sym is ∙ idle));
    ordinary = λ up is. absurd (down up);
    leader = leader;
    unborn = λ later. absurd (omega (arith, later, started));
  }

  pub ended_idle : (h : List Entry) → is_releasing q (end_release doc k step q h) ≡ false
  ended_idle h = ap (λ b. or_else false (upper (when b false) (newest (λ e T. releasing_says q e.actor e.fact) (and_end k step q (acts_on doc q h) h)))) (same_self q)

  pub ended_over : (h : List Entry) → q.incarnation ≤ starts q.process h → Over q (end_release doc k step q h)
  ended_over h started =
      (omega (arith, started, starts_and_end (acts_on doc q h) h), gone_now q (life q.process (and_end k step q (acts_on doc q h) h)))

  leads_and_end : (b : Bool) (h : List Entry) → leads q (and_end k step q b h) ≡ leads q h
  leads_and_end true h = refl
  leads_and_end false h = refl

  ended_fits : (h : List Entry) → q.incarnation ≤ starts q.process h → (leads q h ≡ true → is_controller doc q.process ≡ true) → Fits doc q (end_release doc k step q h)
  ended_fits h started leader =
      let o = ended_over h started in
      over_fits (end_release doc k step q h) (ended_idle h) o.1 o.0 (λ led. leader (sym (leads_and_end (acts_on doc q h) h) ∙ led))

  fit_end : (h : List Entry) → alive q.process h ≡ Some q.incarnation → AllFit doc h → AllFit doc (end_release doc k step q h)
  fit_end h up s =
      fit_own doc q h (end_release doc k step q h) (counted_end h s.counted) (λ p other. same_end doc k step q p other h)
      (ended_fits h (s.counted q.process q.incarnation up) (s.each q).leader) s

  -- a call of it is sent
  pub sent_call : (kind : CallKind) (request : Request) (h : List Entry) → call_in q (send doc k step q kind request h) ≡ open_as kind (next_call q k kind request h)
  sent_call kind request h =
      ap (λ b. join (upper (when b (open_as kind (next_call q k kind request h))) (last_call q h))) (same_self q) ∙ opened (open_as kind (next_call q k kind request h))
    where
      opened : (o : Option Call) → join (upper (Some o) (last_call q h)) ≡ o
      opened o = refl

  running_fits : (h : List Entry) (kind : CallKind) (request : Request) (begun : ℕ) → is_controller doc q.process ≡ true → (IsStop doc → ⊥) → q.incarnation ≤ starts q.process h → is_releasing q h ≡ true
      → release_begun doc.settings.rules.release kind ≡ Some begun → ((c : Call) → open_as kind c ≡ Some c) → Fits doc q (send doc k step q kind request h)
  running_fits h kind request begun role other started runs of opens = record {
    waits = λ is. (begun, ap (release_of doc) (sent_call kind request h ∙ opens (next_call q k kind request h)) ∙ of);
    role = λ is. role;
    other = λ is. other;
    ordinary = λ up is. absurd (true_is (sym runs ∙ is));
    leader = λ led. role;
    unborn = λ later. absurd (omega (arith, later, started));
  }

  -- its begin
  pub begun_runs : (at_deadline : Bool) (h : List Entry) → is_releasing q (entry k step q (ReleaseBegins at_deadline) ∷ h) ≡ true
  begun_runs at_deadline h = ap (λ b. or_else false (upper (when b true) (newest (λ e T. releasing_says q e.actor e.fact) h))) (same_self q)

  -- by whether it has a call
  pub begin_cases : (P : List Entry → Type 0) (at_deadline : Bool) (h : List Entry) → P (end_release doc k step q (entry k step q (ReleaseBegins at_deadline) ∷ h))
      → ((kind : CallKind) (request : Request) → IsFirst doc.settings.rules.release k kind → P (send doc k step q kind request (entry k step q (ReleaseBegins at_deadline) ∷ h)))
      → P (begin_release doc k step q at_deadline h)
  begin_cases P at_deadline h ends sends = by_call (first_call doc.settings.rules.release k (release_from q (wall doc q.process k) (shown q h))) refl
    where
      by_call : (o : Option (CallKind × Request)) → first_call doc.settings.rules.release k (release_from q (wall doc q.process k) (shown q h)) ≡ o
          → P (send_first doc k step q o (entry k step q (ReleaseBegins at_deadline) ∷ h))
      by_call None is = ends
      by_call (Some call) is = sends call.0 call.1 (first_is doc.settings.rules.release k (release_from q (wall doc q.process k) (shown q h)) call is)

  fit_begin : (at_deadline : Bool) (h : List Entry) → is_controller doc q.process ≡ true → (IsStop doc → ⊥) → alive q.process h ≡ Some q.incarnation → AllFit doc h → AllFit doc (begin_release doc k step q at_deadline h)
  fit_begin at_deadline h role other up s =
      let x = entry k step q (ReleaseBegins at_deadline) in
      let started : q.incarnation ≤ starts q.process h = s.counted q.process q.incarnation up in
      let counted : Counted (x ∷ h) = counted_more x h tt s.counted in
      fit_own doc q h (begin_release doc k step q at_deadline h)
      (begin_cases Counted at_deadline h (counted_end (x ∷ h) counted) (λ kind request first. counted_send kind request (x ∷ h) counted))
      (λ p other. same_begin doc k step q p other at_deadline h)
      (begin_cases (Fits doc q) at_deadline h (ended_fits (x ∷ h) started (λ led. role))
      (λ kind request first. running_fits (x ∷ h) kind request k role other started (begun_runs at_deadline h) first.of first.opens)) s

  -- an ordinary call is sent where no release runs, or one that doesn't wait
  fit_send : (kind : CallKind) (request : Request) (h : List Entry) → alive q.process h ≡ Some q.incarnation → (is_releasing q h ≡ true → ⊥)
      → release_of doc (open_as kind (next_call q k kind request h)) ≡ None → AllFit doc h → AllFit doc (send doc k step q kind request h)
  fit_send kind request h up idle none s =
      fit_own doc q h (send doc k step q kind request h) (counted_send kind request h s.counted) (λ p other. same_send doc k step q p other kind request h)
      (record {
        waits = λ is. absurd (idle is);
        role = λ is. absurd (idle is);
        other = λ is. absurd (idle is);
        ordinary = λ up is. ap (release_of doc) (sent_call kind request h) ∙ none;
        leader = (s.each q).leader;
        unborn = λ later. absurd (omega (arith, later, s.counted q.process q.incarnation up));
      }) s

  -- its call is closed, and no release runs
  fit_close : (d : Fact) (h : List Entry) → StartIsNext (actor_of q) d h → releasing_says q (actor_of q) d ≡ None → lead_says q (actor_of q) d ≡ None → starts q.process (entry k step q d ∷ h) ≡ starts q.process h
      → call_in q (entry k step q d ∷ h) ≡ None → alive q.process h ≡ Some q.incarnation → (is_releasing q h ≡ true → ⊥) → AllFit doc h → AllFit doc (entry k step q d ∷ h)
  fit_close d h next runs lead same closed up idle s =
      let x = entry k step q d in
      let runs_same : is_releasing q (x ∷ h) ≡ is_releasing q h = ap (λ o. or_else false (upper o (newest (λ e T. releasing_says q e.actor e.fact) h))) runs in
      let lead_same : leads q (x ∷ h) ≡ leads q h = ap (λ o. has (upper o (newest (λ e T. lead_says q e.actor e.fact) h))) lead in
      fit_own doc q h (x ∷ h) (counted_more x h next s.counted) (λ p other. same_foreign p x h next other)
      (record {
        waits = λ is. absurd (idle (sym runs_same ∙ is));
        role = λ is. absurd (idle (sym runs_same ∙ is));
        other = λ is. absurd (idle (sym runs_same ∙ is));
        ordinary = λ up is. ap (release_of doc) closed;
        leader = λ led. (s.each q).leader (sym lead_same ∙ led);
        unborn = λ later. absurd (omega (arith, later, same, s.counted q.process q.incarnation up));
      }) s

  fit_crash : (h : List Entry) → alive q.process h ≡ Some q.incarnation → AllFit doc h → AllFit doc (entry k step q Crashes ∷ h)
  fit_crash h up s =
      let x = entry k step q Crashes in
      fit_own doc q h (x ∷ h) (counted_more x h tt s.counted) (λ p other. same_foreign p x h tt other)
      (over_fits (x ∷ h) (ap (λ b. or_else false (upper (when b false) (newest (λ e T. releasing_says q e.actor e.fact) h))) (same_self q))
      (gone_now q (life q.process h)) (s.counted q.process q.incarnation up) (s.each q).leader) s

-- a counted reply closes the call, and says nothing on releases
pub replied_call : (k : ℕ) (b : Back) (waiting : Call) (h : List Entry) → call_in b.who (after_reply k b waiting h) ≡ None
replied_call k b waiting h = ap (λ t. join (upper (when t None) (last_call b.who h))) (same_self b.who)

expired_call : (k : ℕ) (q : Identity) (call : Call) (h : List Entry) → call_in q (entry k 4 q (Expires call) ∷ h) ≡ None
expired_call k q call h = ap (λ b. join (upper (when b None) (last_call q h))) (same_self q)

-- ---- the walk

pub fit_tick : (doc : Doc) (k : ℕ) (q : Identity) (t : Tick) (h : List Entry) → AllFit doc h → AllFit doc (entry k 4 q (Ticks t) ∷ h)
fit_tick doc k q t h s = fit_quiet doc (entry k 4 q (Ticks t)) h tt (λ q. refl) (λ q. refl) (λ q. refl) s

-- whoever has no call releases nothing
pub idle_without : (doc : Doc) (q : Identity) (h : List Entry) → call_in q h ≡ None → AllFit doc h → is_releasing q h ≡ true → ⊥
idle_without doc q h none s = releases_not doc q h (s.each q) (ap (release_of doc) none)

-- nor whoever waits with an ordinary one
pub idle_ordinary : (doc : Doc) (q : Identity) (h : List Entry) (waiting : Call) → call_in q h ≡ Some waiting → (is_controller doc q.process ≡ true → release_begun doc.settings.rules.release waiting.kind ≡ None)
    → AllFit doc h → is_releasing q h ≡ true → ⊥
idle_ordinary doc q h waiting waits of s is = releases_not doc q h (s.each q) (ap (release_of doc) waits ∙ of ((s.each q).role is)) is

pub fit_keeps : (doc : Doc) → Keeps doc (λ k step h. AllFit doc h)
fit_keeps doc = record {
  on = λ k step h s. s;
  next = λ k s. s;
  event = λ k w h scripted s. fit_quiet doc _ h tt (λ q. refl) (λ q. refl) (λ q. refl) s;
  starts = λ k step p h s. fit_quiet doc _ h (p, refl) (λ q. refl) (λ q. refl) (λ q. refl) s;
  crashes = λ k p i h up s. fit_crash doc k 1 (identity p i) h up s;
  stalls = λ k id beats i h scripted up s. fit_quiet doc _ h tt (λ q. refl) (λ q. refl) (λ q. refl) s;
  stops = λ k id i h scripted up free s. fit_quiet doc _ h tt (λ q. refl) (λ q. refl) (λ q. refl) s;
  releases = λ k id i before request scripted up awake is stop was s. released k id i before request up stop was s;
  answers = λ k x h at s. fit_quiet doc _ h tt (λ q. refl) (λ q. refl) (λ q. refl) s;
  ignores = λ k b h coming is s. fit_quiet doc _ h tt (λ q. refl) (λ q. refl) (λ q. refl) s;
  counts = λ k b waiting h coming is of s. (let c = counted_is doc b.who k b.call.number h waiting is in
      fit_close doc k 3 b.who (Delivers waiting b.reply true) h tt refl refl refl (replied_call k b waiting h) c.up (idle_ordinary doc b.who h waiting c.waits of s) s);
  follows = λ k b waiting h request coming is role of follows was s. (let c = counted_is doc b.who k b.call.number h waiting is in replied k b waiting h request c.up s);
  leads = λ k b waiting h version coming is role of follows was s. led k b waiting h version role s;
  asks = λ k b waiting h request coming is role asked was s. (let c = counted_is doc b.who k b.call.number h waiting is in replied k b waiting h request c.up s);
  turns = record {
    restarts = λ k p h s. fit_quiet doc _ h (p, refl) (λ q. refl) (λ q. refl) (λ q. refl) s;
    expires = λ k p i call h up waits late of s.
        fit_close doc k 4 (identity p i) (Expires call) h tt refl refl refl (expired_call k (identity p i) call h) up (idle_ordinary doc (identity p i) h call waits (λ role. of) s) s;
    ends = λ k p i at h role up is before stop s. fit_quiet doc _ h tt (λ q. refl) (λ q. refl) (λ q. refl) s;
    polls = λ k p i h role up awake waits s. plain k 4 (identity p i) (Get election) h up waits s;
    attempts = λ k p i h role up awake waits s.
        (let a = attempt_is doc (identity p i) k h in
        fit_send doc k 4 (identity p i) (attempt doc (identity p i) k h).0 (attempt doc (identity p i) k h).1 h up (idle_without doc (identity p i) h waits s)
        (ap (release_of doc) (a.opens _) ∙ a.of) s);
    seeks = λ k p i call h role up awake expired late s. fit_send doc k 4 (identity p i) Plain _ h up (λ is. true_is (sym ((s.each (identity p i)).role is) ∙ role)) (plain_of_none doc.settings.rules.release) s;
    posts = λ k p i h role up awake none s. fit_send doc k 4 (identity p i) Plain _ h up (λ is. true_is (sym ((s.each (identity p i)).role is) ∙ role)) (plain_of_none doc.settings.rules.release) s;
    ticks = λ k q h acting s. walk_tick doc k q (AllFit doc) (λ t g made s. fit_tick doc k q t g s) h s;
  };
}
  where
    plain : (k step : ℕ) (q : Identity) (request : Request) (h : List Entry) → alive q.process h ≡ Some q.incarnation → call_in q h ≡ None → AllFit doc h → AllFit doc (send doc k step q Plain request h)
    plain k step q request h up none s = fit_send doc k step q Plain request h up (idle_without doc q h none s) (plain_of_none doc.settings.rules.release) s

    replied : (k : ℕ) (b : Back) (waiting : Call) (h : List Entry) (request : Request) → alive b.who.process h ≡ Some b.who.incarnation → AllFit doc (after_reply k b waiting h)
        → AllFit doc (send doc k 3 b.who Plain request (after_reply k b waiting h))
    replied k b waiting h request up s = plain k 3 b.who request (after_reply k b waiting h) up (replied_call k b waiting h) s

    led : (k : ℕ) (b : Back) (waiting : Call) (h : List Entry) (version : Version) → is_controller doc b.who.process ≡ true → AllFit doc (after_reply k b waiting h) → AllFit doc (entry k 3 b.who (Leads version) ∷ after_reply k b waiting h)
    led k b waiting h version role s =
        let q = b.who in
        let g = after_reply k b waiting h in
        let x = entry k 3 q (Leads version) in
        let f = s.each q in
        fit_own doc q g (x ∷ g) (counted_more x g tt s.counted) (λ p other. same_foreign p x g tt other)
        (record { waits = f.waits; role = f.role; other = f.other; ordinary = f.ordinary; leader = λ led. role; unborn = f.unborn }) s

    -- a stop's single update doesn't wait
    released : (k : ℕ) (id : ProcId) (i : ℕ) (before : List Entry) (request : Request) → alive id.0 before ≡ Some i → IsStop doc → AllFit doc (script_entry k 1 (Happens (what.Stop id) None) ∷ before) → AllFit doc (stopped_at k id i before)
        → AllFit doc (send doc k 1 (identity id.0 i) Release request (stopped_at k id i before))
    released k id i before request up stop was s =
        let q = identity id.0 i in
        let g = stopped_at k id i before in
        let started : i ≤ starts id.0 before = was.counted id.0 i up in
        fit_own doc q g (send doc k 1 q Release request g) (counted_send doc k 1 q Release request g s.counted) (λ p other. same_send doc k 1 q p other Release request g)
        (over_fits doc k 1 q (send doc k 1 q Release request g) (idle (is_releasing q g) refl) (gone_now q (life id.0 before)) started (s.each q).leader) s
      where
        idle : (b : Bool) → is_releasing (identity id.0 i) (stopped_at k id i before) ≡ b → b ≡ false
        idle true is = absurd ((s.each (identity id.0 i)).other is stop)
        idle false is = refl

pub fit_release : (doc : Doc) → KeepsRelease doc (λ k step h. AllFit doc h)
fit_release doc = record {
  halts = λ k id i h scripted up other runs s. fit_quiet doc _ h tt (λ q. refl) (λ q. refl) (λ q. refl) s;
  begins = λ k id i before scripted up awake other fresh led s.
      fit_begin doc k 1 (identity id.0 i) false (halted_at k id i before) ((s.each (identity id.0 i)).leader led) other up
      (fit_quiet doc (entry k 1 (identity id.0 i) ReleaseStops) (script_entry k 1 (Happens (what.Stop id) None) ∷ before) tt (λ q. refl) (λ q. refl) (λ q. refl) s);
  empties = λ k begun b waiting h request coming is role of look asked s. emptied k begun b waiting h request (counted_is doc b.who k b.call.number h waiting is) role of look s;
  closes = λ k begun b waiting h coming is role of s. closed k b waiting h (counted_is doc b.who k b.call.number h waiting is) s;
  turns = record {
    closes = λ k p i begun call h up waits late is s. fit_end doc k 4 (identity p i) h up s;
    begins = λ k p i at h role up awake is before other fresh s. late k (identity p i) (not (acts_by doc.settings.rules.in_release true)) h role other up s;
  };
}
  where
    emptied : (k begun : ℕ) (b : Back) (waiting : Call) (h : List Entry) (request : Request) → CountedFor doc b.who k b.call.number h waiting → is_controller doc b.who.process ≡ true
        → release_begun doc.settings.rules.release waiting.kind ≡ Some begun → waiting.kind ≡ Look begun → AllFit doc h → AllFit doc (send doc k 3 b.who (Emptying begun) request (after_reply k b waiting h))
    emptied k begun b waiting h request is role of look s =
        let q = b.who in
        let g = after_reply k b waiting h in
        let counted : Counted g = counted_more (entry k 3 q (Delivers waiting b.reply true)) h tt s.counted in
        let runs : is_releasing q h ≡ true = releases_now doc q h waiting begun (s.each q) is.up is.waits of in
        fit_own doc q h (send doc k 3 q (Emptying begun) request g)
        (counted_send doc k 3 q (Emptying begun) request g counted)
        (λ p other. same_trans p h g (send doc k 3 q (Emptying begun) request g)
        (same_foreign p (entry k 3 q (Delivers waiting b.reply true)) h tt other) (same_send doc k 3 q p other (Emptying begun) request g))
        (running_fits doc k 3 q g (Emptying begun) request begun role ((s.each q).other runs) (s.counted q.process q.incarnation is.up) runs
        (emptying_of_look doc.settings.rules.release begun (ap (release_begun doc.settings.rules.release) (sym look) ∙ of)) (λ c. refl)) s

    closed : (k : ℕ) (b : Back) (waiting : Call) (h : List Entry) → CountedFor doc b.who k b.call.number h waiting → AllFit doc h → AllFit doc (end_release doc k 3 b.who (after_reply k b waiting h))
    closed k b waiting h is s =
        let q = b.who in
        let g = after_reply k b waiting h in
        fit_own doc q h (end_release doc k 3 q g) (counted_end doc k 3 q g (counted_more (entry k 3 q (Delivers waiting b.reply true)) h tt s.counted))
        (λ p other. same_trans p h g (end_release doc k 3 q g) (same_foreign p (entry k 3 q (Delivers waiting b.reply true)) h tt other) (same_end doc k 3 q p other g))
        (ended_fits doc k 3 q g (s.counted q.process q.incarnation is.up) (s.each q).leader) s

    late : (k : ℕ) (q : Identity) (b : Bool) (h : List Entry) → is_controller doc q.process ≡ true → (IsStop doc → ⊥) → alive q.process h ≡ Some q.incarnation → AllFit doc h
        → AllFit doc (begin_release doc k 4 q true (and_end k 4 q b h))
    late k q true h role other up s =
        fit_begin doc k 4 q true (and_end k 4 q true h) role other up (fit_quiet doc (entry k 4 q StepsDown) h tt (λ q. refl) (λ q. refl) (λ q. refl) s)
    late k q false h role other up s = fit_begin doc k 4 q true h role other up s

-- ---- histories

put_fit : (doc : Doc) (xs : List (Key × Object)) (h : List Entry) → AllFit doc h → AllFit doc (put_all doc xs h)
put_fit doc [] h s = s
put_fit doc (x ∷ xs) h s =
    let e = script_entry 0 0 (First x.0 (stamped (whole_second (store_wall doc 0)) x.1)) in
    put_fit doc xs (e ∷ h) (fit_quiet doc e h tt (λ q. refl) (λ q. refl) (λ q. refl) s)

none_fit : (doc : Doc) → AllFit doc []
none_fit doc = record {
  counted = λ p i up. absurd (none_is i up);
  each = λ q. record {
    waits = λ is. absurd (true_is (sym is));
    role = λ is. absurd (true_is (sym is));
    other = λ is. absurd (true_is (sym is));
    ordinary = λ up is. refl;
    leader = λ led. absurd (true_is (sym led));
    unborn = λ later. (refl, refl);
  };
}

pub first_fit : (doc : Doc) → AllFit doc (history doc 0)
first_fit doc = put_fit doc doc.objects [] (none_fit doc)

pub history_fits : (doc : Doc) (k : ℕ) → AllFit doc (history doc k)
history_fits doc k = walk_history doc (λ k step h. AllFit doc h) (fit_keeps doc) (fit_release doc) (first_fit doc) k

pub turn_fits : (doc : Doc) (p k : ℕ) → AllFit doc (at_turn doc p k)
turn_fits doc p k = walk_at_turn doc (λ k step h. AllFit doc h) (fit_keeps doc) (fit_release doc) (first_fit doc) p k

-- ---- the laws

pub releases_wait : ReleasesWait
releases_wait doc q k runs = ((history_fits doc k).each q).waits runs

pub others_are_ordinary : OthersAreOrdinary
others_are_ordinary doc q k up idle = ((history_fits doc k).each q).ordinary up idle

-- ---- a release that acts runs

ending_says_running : (q : Identity) (who : Actor) (d : Fact) (x y : Option Bool) → (or_else false x ≡ true → or_else false y ≡ true) → or_else false (upper (ending_says q who d) x) ≡ true → or_else false (upper (releasing_says q who d) y) ≡ true
ending_says_running q who (ReleaseBegins at_deadline) x y more is = by_test (is_by q who) is
  where
    by_test : (b : Bool) → or_else false (upper (when b at_deadline) x) ≡ true → or_else false (upper (when b true) y) ≡ true
    by_test true is = refl
    by_test false is = more is
ending_says_running q who ReleaseStops x y more is = by_test (is_by q who) is
  where
    by_test : (b : Bool) → or_else false (upper (when b false) x) ≡ true → or_else false y ≡ true
    by_test true is = absurd (true_is (sym is))
    by_test false is = more is
ending_says_running q who ReleaseEnds x y more is = by_test (is_by q who) is
  where
    by_test : (b : Bool) → or_else false (upper (when b false) x) ≡ true → or_else false (upper (when b false) y) ≡ true
    by_test true is = is
    by_test false is = more is
ending_says_running q who Crashes x y more is = by_test (is_by q who) is
  where
    by_test : (b : Bool) → or_else false (upper (when b false) x) ≡ true → or_else false (upper (when b false) y) ≡ true
    by_test true is = is
    by_test false is = more is
ending_says_running q who _ x y more is = more is

pub ending_runs : (q : Identity) (h : List Entry) → is_ending q h ≡ true → is_releasing q h ≡ true
ending_runs q [] is = is
ending_runs q (e ∷ h) is =
    ending_says_running q e.actor e.fact (newest (λ e T. ending_says q e.actor e.fact) h) (newest (λ e T. releasing_says q e.actor e.fact) h) (ending_runs q h) is
