-- What a release adds keeps the invariant.
use Rattle.std.proofs.Common.{◌≡◌, ◌⊎◌, ◌<◌, ◌≤◌, ℕ, ◌+◌, ◌-◌, ◌&&◌, ◌||◌, not, nat_lt, Bool, true, false, List, ◌∷◌, Option, Some, None, IfSome, refl, sym, ap, ◌∙◌, subst, inl, inr, ⊎_elim, arith}
use Rattle.std.proofs.lemmas.Bool.{ltb-true}
use Rattle.kube_base.specs.declared.numbers.Version.{Version}
use Rattle.kube_objects.specs.declared.call.Reply.{Reply}
use Rattle.kube_objects.specs.declared.call.Reply.TheVariants.{Found}
use Rattle.kube_objects.specs.declared.call.Request.{Request}
use Rattle.kube_objects.specs.declared.call.Request.TheVariants.{Get, Update}
use Rattle.kube_objects.specs.declared.lease.Lease.{Lease}
use Rattle.kube_objects.specs.declared.rules.ReleaseRule.{ReleaseRule}
use Rattle.kube_objects.specs.declared.rules.ReleaseRule.TheVariants as rules
use Rattle.kube_objects.specs.declared.script.What.TheVariants as what
use Rattle.kube_objects.specs.Clocks.{local, wall}
use Rattle.kube_objects.specs.Document.{Doc, end_beat, is_controller, call_timeout, renew_deadline}
use Rattle.kube_objects.specs.Elector.{told, shown, leads, deadline, acts_by, acts_on, release_from, given_up}
use Rattle.kube_objects.specs.Entry.{Entry, Identity, Call, CallKind, Look, Emptying, Event as Happens, Delivers, ReleaseBegins, ReleaseEnds, ReleaseStops, StepsDown, entry, script_entry}
use Rattle.kube_objects.specs.Identities.{identity}
use Rattle.kube_objects.specs.Newest.{newest, when, has, or_else}
use Rattle.kube_objects.specs.Pauses.{is_paused}
use Rattle.kube_objects.specs.Process.{alive, releasing_says, is_releasing, is_release_over, begun_by, release_begun, is_late}
use Rattle.kube_objects.specs.Releases.{and_end, end_release, first_call, send_first, begin_release, is_mine, may_empty, after_look}
use Rattle.kube_objects.specs.Stored.{Held, election, stored}
use Rattle.kube_objects.specs.Wire.{next_call, send, Back}
use Rattle.history.specs.Sound.{IsSound}
use Rattle.history_laws.proofs.Plainly.{upper, if_some, same_self, some_is, none_is, false_is, true_is, and_right}
use Rattle.history_laws.proofs.Counting.{CountedFor, counted_is, when_test, when_value}
use Rattle.history_laws.proofs.Walk.{Coming, after_reply, IsStop, KeepsRelease}
use Rattle.lease_laws.proofs.Invariant.{view, gave, freed, is_look, Wide, Yields, Safe, Base, Wrote, Saw, CoveredBy, Covered, MayAsk, BackRight, HeldRight, Succeeded, Led, Turned, lag, Freeing, CallRight, Looking, Free, Inv}
use Rattle.lease_laws.proofs.Grown.{led_more}
use Rattle.lease_laws.proofs.EachKind.{keep_begins, keep_halt_begins, keep_halts, keep_release_ends, keep_sends}
use Rattle.lease_laws.proofs.Quiet.{keep_quiet, quiet_step_down}
use Rattle.lease_laws.proofs.Follows.{on_top, own_base}
use Rattle.lease_laws.proofs.Late.{Bears, late_over, reread_calls, one_call}
use Rattle.lease_laws.proofs.Steps.{InvWithin, sound_of, asks, asks_get, released_right, saw_later, Replied, replied, counted_right, awake_now}

-- ---- what is known of a success

-- who succeeded is covered since
pub covered_of : (doc : Doc) (high k : ℕ) (h : List Entry) → Inv doc high k h → (q : Identity) → is_controller doc q.process ≡ true → (s : ℕ) → Succeeded h q s k → Covered doc high (view h) q s
covered_of doc high k h inv q role s r =
    let right : BackRight doc high k (view h) r.e.beat r.back = subst (λ o. IfSome o (BackRight doc high k (view h) r.e.beat)) r.is (inv.core.entries r.e r.stands).1 in
    let theirs : Covered doc high (view h) r.back.who r.back.call.sent = (right.answer (subst (λ (p : Identity). is_controller doc p.process ≡ true) (sym r.who) role)).covered r.success in
    subst (λ n. Covered doc high (view h) q n) r.sent (subst (λ p. Covered doc high (view h) p r.back.call.sent) r.who theirs)

-- ---- rules

not_stop : (rule : ReleaseRule) (kind : CallKind) (e : ℕ) → release_begun rule kind ≡ Some e → rule ≡ rules.Stop → ⊥
not_stop rules.Stop kind e of is = none_is e of
not_stop rules.Own kind e of is = cc
not_stop rules.Checked kind e of is = cc
not_stop rules.Reread kind e of is = cc

begun_is : (rule : ReleaseRule) (kind : CallKind) (e : ℕ) → release_begun rule kind ≡ Some e → begun_by kind ≡ Some e
begun_is rules.Stop kind e of = absurd (none_is e of)
begun_is rules.Own kind e of = of
begun_is rules.Checked kind e of = of
begun_is rules.Reread kind e of = of

lag_look : (rule : ReleaseRule) (begun timeout : ℕ) → lag rule (Look begun) timeout ≡ 0
lag_look rules.Stop begun timeout = refl
lag_look rules.Own begun timeout = refl
lag_look rules.Checked begun timeout = refl
lag_look rules.Reread begun timeout = refl

lag_emptying : (rule : ReleaseRule) → (rule ≡ rules.Own → ⊥) → (begun timeout : ℕ) → lag rule (Emptying begun) timeout ≡ timeout
lag_emptying rules.Stop other begun timeout = refl
lag_emptying rules.Own other begun timeout = absurd (other refl)
lag_emptying rules.Checked other begun timeout = refl
lag_emptying rules.Reread other begun timeout = refl

-- ---- its end

module _ (doc : Doc) (high k step : ℕ) (q : Identity) where
  pub ends_keep : (h : List Entry) → Inv doc high k h → alive q.process h ≡ Some q.incarnation → Inv doc high k (end_release doc k step q h)
  ends_keep h s up = by_acting (acts_on doc q h)
    where
      by_acting : (b : Bool) → Inv doc high k (entry k step q ReleaseEnds ∷ and_end k step q b h)
      by_acting true = keep_release_ends doc high k (entry k step q StepsDown ∷ h) (keep_quiet doc high k h (entry k step q StepsDown) (quiet_step_down k step q) s) step q up
      by_acting false = keep_release_ends doc high k h s step q up

-- ---- its begin

-- what is known of a release as it begins, in the history with its begin
record Beginning (doc : Doc) (high k : ℕ) (q : Identity) (g : List Entry) : Type 0 where
  inv : Inv doc high k g
  role : is_controller doc q.process ≡ true
  up : alive q.process g ≡ Some q.incarnation
  awake : is_paused doc q.process k ≡ false
  other : IsStop doc → ⊥
  runs : is_releasing q g ≡ true
  unasked : gave q g ≡ 0
  at : ℕ
  led : Led doc k g q at
  turns : Turned doc q.process k at

module _ (doc : Doc) (high k step : ℕ) (q : Identity) (g : List Entry) (b : Beginning doc high k q g) where
  not_free : Free doc q g → ⊥
  not_free (inl stop) = b.other stop
  not_free (inr free) = true_is (sym b.runs ∙ free)

  -- its first call
  freeing_now : (kind : CallKind) (request : Request) → begun_by kind ≡ Some k → CallRight doc k g q (next_call q k kind request g)
  freeing_now kind request begins = λ e of. now e (some_is k e (sym begins ∙ begun_is doc.settings.rules.release kind e of))
    where
      now : (e : ℕ) → k ≡ e → Freeing doc k g q e (next_call q k kind request g)
      now e is = record {
        at = b.at;
        led = b.led;
        turns = subst (λ e. Turned doc q.process e b.at) is b.turns;
        begun = omega (arith, is);
        upto = omega arith;
        timely = omega (arith, ap (local doc q.process) is);
      }

  looks_first : (doc.settings.rules.release ≡ rules.Own → ⊥) → Inv doc high k (send doc k step q (Look k) (Get election) g)
  looks_first no_own = keep_sends doc high k g b.inv step q (Look k) (Get election) (record {
    may = asks_get doc high (view g) q k (Look k) b.role;
    awake = b.awake;
    counted = (b.inv.lives q b.up).counted;
    kinds = λ other. refl;
    right = λ role. freeing_now (Look k) (Get election) refl;
    quietly = λ up free. refl;
    looks = λ up. record { releasing = λ e of. b.runs; get = λ look. refl; unasked = λ look. b.unasked; looks = λ look own. no_own own };
  })

  empties_first : (request : Request) → release_from q (wall doc q.process k) (shown q g) ≡ Some request → Inv doc high k (send doc k step q (Emptying k) request g)
  empties_first request is = keep_sends doc high k g b.inv step q (Emptying k) request (record {
    may = released_right doc high k g b.inv q b.role (Emptying k) refl (shown q g) (b.inv.core.shown q b.role) request is;
    awake = b.awake;
    counted = (b.inv.lives q b.up).counted;
    kinds = λ other. refl;
    right = λ role. freeing_now (Emptying k) request refl;
    quietly = λ up free. absurd (not_free free);
    looks = λ up. record { releasing = λ e of. b.runs; get = λ look. absurd (false_is look); unasked = λ look. absurd (false_is look); looks = λ look own. absurd (false_is look) };
  })

  first_keeps : Inv doc high k (send_first doc k step q (first_call doc.settings.rules.release k (release_from q (wall doc q.process k) (shown q g))) g)
  first_keeps = by_rule doc.settings.rules.release refl
    where
      by_own : (o : Option Request) → release_from q (wall doc q.process k) (shown q g) ≡ o → Inv doc high k (send_first doc k step q (first_call rules.Own k o) g)
      by_own None is = ends_keep doc high k step q g b.inv b.up
      by_own (Some request) is = empties_first request is

      by_rule : (rule : ReleaseRule) → doc.settings.rules.release ≡ rule → Inv doc high k (send_first doc k step q (first_call rule k (release_from q (wall doc q.process k) (shown q g))) g)
      by_rule rules.Stop is = absurd (b.other is)
      by_rule rules.Own is = by_own (release_from q (wall doc q.process k) (shown q g)) refl
      by_rule rules.Checked is = looks_first (λ own. no_checked (sym is ∙ own))
        where
          no_checked : rules.Checked ≡ rules.Own → ⊥
          no_checked h = cc
      by_rule rules.Reread is = looks_first (λ own. no_reread (sym is ∙ own))
        where
          no_reread : rules.Reread ≡ rules.Own → ⊥
          no_reread h = cc

begun_runs : (k step : ℕ) (q : Identity) (b : Bool) (h : List Entry) → is_releasing q (entry k step q (ReleaseBegins b) ∷ h) ≡ true
begun_runs k step q b h = ap (λ c. or_else false (upper (when c true) (newest (λ e T. releasing_says q e.actor e.fact) h))) (same_self q)

-- a leader's deadline, and that no turn came after it
record Deadline (doc : Doc) (k : ℕ) (q : Identity) (h : List Entry) : Type 0 where
  at : ℕ
  led : Led doc k h q at
  turns : Turned doc q.process k at

module _ (doc : Doc) (high k : ℕ) (q : Identity) (role : is_controller doc q.process ≡ true) (awake : is_paused doc q.process k ≡ false) (other : IsStop doc → ⊥) where
  deadline_of : (h : List Entry) → Inv doc high k h → alive q.process h ≡ Some q.incarnation → is_releasing q h ≡ false → has (deadline doc q h) ≡ true → Deadline doc k q h
  deadline_of h s up fresh there = by_deadline (deadline doc q h) there (s.core.led q role) ((s.lives q up).turned role other fresh)
    where
      by_deadline : (o : Option ℕ) → has o ≡ true → IfSome o (Led doc k h q) → IfSome o (Turned doc q.process k) → Deadline doc k q h
      by_deadline None there led turns = absurd (false_is there)
      by_deadline (Some d) there led turns = record { at = d; led = led; turns = turns }

  -- at its deadline
  begins_late : (h : List Entry) → Inv doc high k h → alive q.process h ≡ Some q.incarnation → is_releasing q h ≡ false → has (deadline doc q h) ≡ true → Inv doc high k (begin_release doc k 4 q true h)
  begins_late h s up fresh there =
      let x = entry k 4 q (ReleaseBegins true) in
      let new = keep_begins doc high k h s 4 q up other fresh in
      let d = deadline_of h s up fresh there in
      first_keeps doc high k 4 q (x ∷ h) (record {
        inv = new;
        role = role;
        up = up;
        awake = awake;
        other = other;
        runs = begun_runs k 4 q true h;
        unasked = ((s.lives q up).unstopped (inr fresh)).1;
        at = d.at;
        led = led_more doc k h x q d.at d.led;
        turns = d.turns;
      })

  begins_keep : (b : Bool) (h : List Entry) → Inv doc high k h → alive q.process h ≡ Some q.incarnation → is_releasing q h ≡ false → has (deadline doc q h) ≡ true → Inv doc high k (begin_release doc k 4 q true (and_end k 4 q b h))
  begins_keep true h s up fresh there = begins_late (entry k 4 q StepsDown ∷ h) (keep_quiet doc high k h (entry k 4 q StepsDown) (quiet_step_down k 4 q) s) up fresh there
  begins_keep false h s up fresh there = begins_late h s up fresh there

  -- at a stop
  begins_stopped : (h : List Entry) → Inv doc high k h → alive q.process h ≡ Some q.incarnation → is_releasing q h ≡ false → leads q h ≡ true → Inv doc high k (begin_release doc k 1 q false (entry k 1 q ReleaseStops ∷ h))
  begins_stopped h s up fresh led =
      let y = entry k 1 q ReleaseStops in
      let x = entry k 1 q (ReleaseBegins false) in
      let d = deadline_of h s up fresh (s.core.leading q led) in
      first_keeps doc high k 1 q (x ∷ y ∷ h) (record {
        inv = keep_halt_begins doc high k h s 1 q up other;
        role = role;
        up = up;
        awake = awake;
        other = other;
        runs = begun_runs k 1 q false (y ∷ h);
        unasked = ((s.lives q up).unstopped (inr fresh)).1;
        at = d.at;
        led = led_more doc k (y ∷ h) x q d.at (led_more doc k h y q d.at d.led);
        turns = d.turns;
      })

-- ---- an emptying that follows on a look

module _ (doc : Doc) (high k : ℕ) (bears : Bears doc high) (sound : IsSound doc) (end : k ≤ end_beat doc) (h : List Entry) (s : Inv doc high k h) (q : Identity) (role : is_controller doc q.process ≡ true) where
  -- what a look finds that isn't compared is one's own, or free: its time isn't over yet
  reread_base : (is : doc.settings.rules.release ≡ rules.Reread) (e : ℕ) (c : Call) → Freeing doc k h q e c → e ≤ k → gave q h ≡ 0 → local doc q.process k ≤ local doc q.process e + call_timeout doc q.process
      → local doc q.process k ≤ local doc q.process e + renew_deadline doc q.process → (version : Version) (found lease : Lease) → Saw (view h) version found k → Base doc high (view h) q k (Update election version lease)
  reread_base is e c f since unasked by_call by_time version found lease saw =
      (saw.0, on_top (stored election h) version Mine (Wrote found k) (Safe doc high q k) safe (mine (stored election h) s.core.held (covered_of doc high k h s q role f.led.sent f.led.answered)) saw.1)
    where
      Mine : Held → Type 0
      Mine y = HeldRight doc k (view h) y × (((y.by ≡ Some q) × (f.led.sent < y.beat)) ⊎ Wide doc high q (y.beat - (f.led.sent + 1)))

      mine : (t : Option Held) → IfSome t (HeldRight doc k (view h)) → (0 < freed q h) ⊎ CoveredBy doc high q f.led.sent t → IfSome t Mine
      mine t right (inl gone) = absurd (omega (arith, s.core.given q gone, unasked))
      mine None right (inr by) = tt
      mine (Some y) right (inr by) = (right, by)

      over : (y : Held) → HeldRight doc k (view h) y → Wide doc high q (y.beat - (f.led.sent + 1)) → ⊥
      over y right wide =
          let n = reread_calls doc is in
          late_over doc high (bears is) sound.1 q role n.0 n.1 f.led.sent e f.at k y.beat end since right.beat f.led.within f.led.awake f.turns (omega (arith, by_call, one_call n.0 (call_timeout doc q.process))) by_time wide

      yields : (y : Held) → Mine y → Yields doc high q k y
      yields y m p by = ⊎_elim (λ own. inl (inl (some_is p q (sym by ∙ own.0)))) (λ wide. absurd (over y m.0 wide)) m.1

      safe : (y : Held) → Mine y → Wrote found k y → Safe doc high q k y
      safe y m seen = (seen.1, λ p by. yields y m p by)

  -- what follows on a look
  emptied_base : (e : ℕ) (c : Call) → Freeing doc k h q e c → Looking doc q h c → is_look c.kind ≡ true → (doc.settings.rules.release ≡ rules.Stop → ⊥) → e ≤ k → local doc q.process k ≤ local doc q.process e + call_timeout doc q.process
      → local doc q.process k ≤ local doc q.process e + renew_deadline doc q.process → (version : Version) (found lease : Lease) → Saw (view h) version found k → may_empty doc.settings.rules.release q found ≡ true → Base doc high (view h) q k (Update election version lease)
  emptied_base e c f l look no_stop since by_call by_time version found lease saw may = by_rule doc.settings.rules.release refl may
    where
      by_rule : (rule : ReleaseRule) → doc.settings.rules.release ≡ rule → may_empty rule q found ≡ true → Base doc high (view h) q k (Update election version lease)
      by_rule rules.Stop is may = absurd (no_stop is)
      by_rule rules.Own is may = absurd (l.looks look is)
      by_rule rules.Checked is own = own_base doc high k h s q version found lease k (omega arith) saw own
      by_rule rules.Reread is may = reread_base is e c f since (l.unasked look) by_call by_time version found lease saw

  emptying_right : (mine : Bool) (e : ℕ) (c : Call) (reply : Reply) (request : Request) → Freeing doc k h q e c → Looking doc q h c → is_look c.kind ≡ true → (doc.settings.rules.release ≡ rules.Stop → ⊥) → e ≤ k
      → local doc q.process k ≤ local doc q.process e + call_timeout doc q.process → local doc q.process k ≤ local doc q.process e + renew_deadline doc q.process → IfSome (told (Get election) reply) (λ x. Saw (view h) x.0 x.1 k)
      → after_look doc.settings.rules.release q (wall doc q.process k) mine reply ≡ Some request → MayAsk doc high (view h) q k (Emptying e) request
  emptying_right mine e c (Found version found) request f l look no_stop since by_call by_time saw is =
      let r = Update election version (given_up (wall doc q.process k) found) in
      let test = mine && may_empty doc.settings.rules.release q found in
      subst (MayAsk doc high (view h) q k (Emptying e)) (when_value test r request is)
      (asks doc high (view h) q k (Emptying e) r role refl (inr (refl, refl))
      (emptied_base e c f l look no_stop since by_call by_time version found (given_up (wall doc q.process k) found) saw (and_right mine (may_empty doc.settings.rules.release q found) (when_test test r request is))))
  emptying_right mine e c reply request f l look no_stop since by_call by_time saw is = absurd (none_is request is)

-- a call that isn't late is in time for its release
pub in_time : (doc : Doc) (q : Identity) (k : ℕ) (c : Call) (e : ℕ) → release_begun doc.settings.rules.release c.kind ≡ Some e → is_late doc q k c ≡ false → local doc q.process k ≤ local doc q.process e + renew_deadline doc q.process
in_time doc q k c e of late = by_test (nat_lt (local doc q.process k) (local doc q.process e + renew_deadline doc q.process)) refl
    (subst (λ o. (is_release_over doc q k o || nat_lt (local doc q.process c.sent + call_timeout doc q.process) (local doc q.process k)) ≡ false) of late)
  where
    by_test : (b : Bool) → nat_lt (local doc q.process k) (local doc q.process e + renew_deadline doc q.process) ≡ b → (not b || nat_lt (local doc q.process c.sent + call_timeout doc q.process) (local doc q.process k)) ≡ false
        → local doc q.process k ≤ local doc q.process e + renew_deadline doc q.process
    by_test true is not_late = omega (arith, ltb-true _ _ is)
    by_test false is not_late = absurd (true_is not_late)

module _ (doc : Doc) (high k e : ℕ) (bears : Bears doc high) (sound : IsSound doc) (end : k ≤ end_beat doc) (h : List Entry) (s : Inv doc high k h) (b : Back) (waiting : Call) (role : is_controller doc b.who.process ≡ true)
    (coming : Coming k h b) (c : CountedFor doc b.who k b.call.number h waiting) (of : release_begun doc.settings.rules.release waiting.kind ≡ Some e)
  where
    q : Identity
    q = b.who

    r : Replied doc high k h b.who waiting b.reply
    r = replied doc high k h s b waiting coming c

    after : Inv doc high k (after_reply k b waiting h)
    after = counted_right doc high k h s b waiting c.up r

    f : Freeing doc k h b.who e waiting
    f = subst (λ o. IfSome o (CallRight doc k h b.who)) c.waits (s.core.calls b.who role) e of

    l : Looking doc b.who h waiting
    l = subst (λ o. IfSome o (Looking doc b.who h)) c.waits (s.lives b.who c.up).looking

    since : e ≤ k
    since = let a = r.answer role in omega (arith, f.begun, a.1, a.2.sent)

    module _ (looks : waiting.kind ≡ Look e) where
      look : is_look waiting.kind ≡ true
      look = ap is_look looks

      sent_at_once : local doc b.who.process waiting.sent ≤ local doc b.who.process e
      sent_at_once =
          let at : local doc b.who.process waiting.sent ≤ local doc b.who.process e + lag doc.settings.rules.release (Look e) (call_timeout doc b.who.process) = subst (λ kind. local doc b.who.process waiting.sent ≤ local doc b.who.process e + lag doc.settings.rules.release kind (call_timeout doc b.who.process)) looks f.timely in
          omega (arith, at, lag_look doc.settings.rules.release e (call_timeout doc b.who.process))

      by_call : local doc b.who.process k ≤ local doc b.who.process e + call_timeout doc b.who.process
      by_call = omega (arith, r.timely, sent_at_once)

      saw : IfSome (told (Get election) b.reply) (λ x. Saw (view h) x.0 x.1 k)
      saw =
          let a = r.answer role in
          subst (λ request. IfSome (told request b.reply) (λ x. Saw (view h) x.0 x.1 k)) (l.get look)
          (if_some (told waiting.request b.reply) (λ x. Saw (view h) x.0 x.1 (a.0 + 1)) (λ x. Saw (view h) x.0 x.1 k) (λ x saw. saw_later (view h) x.0 x.1 (a.0 + 1) k (omega (arith, a.1)) saw) a.2.told)

      pub empties_keep : (mine : Bool) (request : Request) → after_look doc.settings.rules.release b.who (wall doc b.who.process k) mine b.reply ≡ Some request → Inv doc high k (send doc k 3 b.who (Emptying e) request (after_reply k b waiting h))
      empties_keep mine request is = keep_sends doc high k (after_reply k b waiting h) after 3 b.who (Emptying e) request (record {
        may = emptying_right doc high k bears sound end h s b.who role mine e waiting b.reply request f l look no_stop since by_call (in_time doc b.who k waiting e of c.timely) saw is;
        awake = awake_now doc high k h s b coming;
        counted = (after.lives b.who c.up).counted;
        kinds = λ other. refl;
        right = λ role n begins. emptying_call n (some_is e n (begun_is doc.settings.rules.release (Emptying e) n begins));
        quietly = λ up free. absurd (not_free free);
        looks = λ up. record { releasing = λ n begins. l.releasing e of; get = λ look. absurd (false_is look); unasked = λ look. absurd (false_is look); looks = λ look own. absurd (false_is look) };
      })
        where
          no_stop : doc.settings.rules.release ≡ rules.Stop → ⊥
          no_stop is = not_stop doc.settings.rules.release waiting.kind e of is

          not_free : Free doc b.who (after_reply k b waiting h) → ⊥
          not_free (inl stop) = no_stop stop
          not_free (inr free) = true_is (sym (l.releasing e of) ∙ free)

          emptying_call : (n : ℕ) → e ≡ n → Freeing doc k (after_reply k b waiting h) b.who n (next_call b.who k (Emptying e) request (after_reply k b waiting h))
          emptying_call n same = record {
            at = f.at;
            led = led_more doc k h (entry k 3 b.who (Delivers waiting b.reply true)) b.who f.at f.led;
            turns = subst (λ e. Turned doc b.who.process e f.at) same f.turns;
            begun = omega (arith, since, same);
            upto = omega arith;
            timely = omega (arith, by_call, lag_emptying doc.settings.rules.release (l.looks look) e (call_timeout doc b.who.process), ap (local doc b.who.process) same);
          }

-- ---- all of it

pub release_keep : (doc : Doc) (high : ℕ) → Bears doc high → IsSound doc → KeepsRelease doc (λ k step h. InvWithin doc high k h)
release_keep doc high bears sound = record {
  halts = λ k id i h scripted up other runs s end. keep_halts doc high k h (s end) 1 (identity id.0 i) up other runs;
  begins = λ k id i before scripted up awake other fresh led s end.
      begins_stopped doc high k (identity id.0 i) (sound_of doc k (what.Stop id) sound scripted) awake other (script_entry k 1 (Happens (what.Stop id) None) ∷ before) (s end) up fresh led;
  empties = λ k begun b waiting h request coming is role of look asked s end.
      empties_keep doc high k begun bears sound end h (s end) b waiting role coming (counted_is doc b.who k b.call.number h waiting is) of look (is_mine b.who (after_reply k b waiting h)) request asked;
  closes = λ k begun b waiting h coming is role of s end.
      let c = counted_is doc b.who k b.call.number h waiting is in
      ends_keep doc high k 3 b.who (after_reply k b waiting h) (counted_right doc high k h (s end) b waiting c.up (replied doc high k h (s end) b waiting coming c)) c.up;
  turns = record {
    closes = λ k p i begun call h up waits late of s end. ends_keep doc high k 4 (identity p i) h (s end) up;
    begins = λ k p i at h role up awake is before other fresh s end.
        begins_keep doc high k (identity p i) role awake other (not (acts_by doc.settings.rules.in_release true)) h (s end) up fresh (ap has is);
  };
}
