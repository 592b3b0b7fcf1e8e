-- From three beats on after the write that gives up its Lease a leader acts no more.
use Rattle.std.proofs.Common.{◌≡◌, ◌<◌, ◌≤◌, ℕ, suc, ◌+◌, ◌&&◌, ◌||◌, not, nat_lt, Bool, true, false, List, Option, Some, None, IfSome, refl, sym, ap, ◌∙◌, subst, ⊎_elim, arith}
use Rattle.std.specs.Prelude.{if◌then◌else◌}
use Rattle.std.proofs.lemmas.Bool.{ltb-true, ltb-false, lt-ltb, eq-eqb, cases_eq, cases_lt}
use Rattle.kube_objects.specs.declared.rules.ReleaseActing.{ReleaseActing}
use Rattle.kube_objects.specs.declared.rules.ReleaseActing.TheVariants as acting
use Rattle.kube_objects.specs.declared.rules.ReleaseRule.{ReleaseRule}
use Rattle.kube_objects.specs.declared.rules.ReleaseRule.TheVariants as rules
use Rattle.kube_objects.specs.Clocks.{local}
use Rattle.kube_objects.specs.Document.{Doc, processes, is_controller, call_timeout, renew_deadline}
use Rattle.kube_objects.specs.Elector.{deadline, is_before, in_term, acts_by, acts_on, leads_on, acts}
use Rattle.kube_objects.specs.Entry.{Entry, Identity, Call}
use Rattle.kube_objects.specs.Identities.{identity}
use Rattle.kube_objects.specs.InFlight.{is_due}
use Rattle.kube_objects.specs.Pauses.{is_paused, resume}
use Rattle.kube_objects.specs.Process.{alive, starts, is_present, is_releasing, is_ending, call_in, is_release_over, release_begun, is_late}
use Rattle.kube_objects.specs.Turns.{expired, expire_call, expire_as, end_term, end_as}
use Rattle.kube_objects.specs.Wire.{Back, back_of}
use Rattle.kube_objects.proofs.Clocks.{local_up}
use Rattle.kube_objects.proofs.Pauses.{resume_later}
use Rattle.history.specs.History.{three_steps, history, at_turn}
use Rattle.history.specs.Premise.{are_prompt}
use Rattle.history.specs.Safe.{IsActing}
use Rattle.history.specs.Sound.{IsSound}
use Rattle.history.specs.Steps.{if_up, restart_if, expire, finish, attempts, elector_turn}
use Rattle.history_laws.specs.Tails.{In, IsTail}
use Rattle.history_laws.proofs.Counting.{present_is}
use Rattle.history_laws.proofs.Lives.{Over, over_more}
use Rattle.history_laws.proofs.Plainly.{some_is, none_is, false_is, and_left, and_right, not_true}
use Rattle.history_laws.proofs.Releasing.{ended_over}
use Rattle.history_laws.proofs.Tailed.{tail_all, tail_trans, in_tail, turns_add, before_turn, later_tail}
use Rattle.history_laws.proofs.Walk.{Anyone, KeepsTurn, KeepsReleaseTurn, all_turns, all_release_turns, keeps_end_as, walk_to_tick, walk_attempts}
use Rattle.lease_laws.proofs.Invariant.{gives_up}
use Rattle.lease_laws.proofs.Given.{Asked, hears, Pending, Told, turn_told}
use Rattle.lease_laws.proofs.Heard.{IsHeard, comes_now}
use Rattle.lease_laws.proofs.Prompt.{resume_by, Soon, Backs, turn_backs}

-- ---- whoever acts is up

pub acting_up : (doc : Doc) (q : Identity) (k : ℕ) (h : List Entry) → acts doc q k h ≡ true → alive q.process h ≡ Some q.incarnation
acting_up doc q k h is = present_is (alive q.process h) q.incarnation (by_rule doc.settings.rules.release (and_right (not (is_paused doc q.process k)) (leads_on doc.settings.rules.release doc q k h) is))
  where
    up : Bool
    up = is_present (alive q.process h) q.incarnation

    in_its_term : in_term doc q k h ≡ true → up ≡ true
    in_its_term is = and_left up (is_before (local doc q.process k) (deadline doc q h)) is

    by_acting : (r : ReleaseActing) → acts_by r (up && is_ending q h) ≡ true → up ≡ true
    by_acting acting.Still is = absurd (false_is is)
    by_acting acting.Acts is = and_left up (is_ending q h) is

    either : (b : Bool) → acts_on doc q h ≡ b → (b || (in_term doc q k h && not (is_releasing q h))) ≡ true → up ≡ true
    either true on is = by_acting doc.settings.rules.in_release on
    either false on is = in_its_term (and_left (in_term doc q k h) (not (is_releasing q h)) is)

    by_rule : (rule : ReleaseRule) → leads_on rule doc q k h ≡ true → up ≡ true
    by_rule rules.Stop is = in_its_term is
    by_rule rules.Own is = either (acts_on doc q h) refl is
    by_rule rules.Checked is = either (acts_on doc q h) refl is
    by_rule rules.Reread is = either (acts_on doc q h) refl is

pub acting_awake : (doc : Doc) (q : Identity) (k : ℕ) (h : List Entry) → acts doc q k h ≡ true → is_paused doc q.process k ≡ false
acting_awake doc q k h is = not_true (is_paused doc q.process k) (and_left (not (is_paused doc q.process k)) (leads_on doc.settings.rules.release doc q k h) is)

-- ---- who is over stays so in a turn

over_turn : (doc : Doc) (q : Identity) → KeepsTurn doc Anyone (λ k h. Over q h)
over_turn doc q = all_turns doc Anyone (λ k h. Over q h) (λ k x h beat step next s. over_more q x h next.0 s)

over_release : (doc : Doc) (q : Identity) → KeepsReleaseTurn doc (λ k h. Over q h)
over_release doc q = all_release_turns doc (λ k h. Over q h) (λ k x h beat step next s. over_more q x h next.0 s)

module _ (doc : Doc) (q : Identity) (k : ℕ) (role : is_controller doc q.process ≡ true) (awake : is_paused doc q.process k ≡ false) where
  pub over_at_tick : (h : List Entry) → Over q h → Over q (elector_turn doc k q.process h)
  over_at_tick h s = walk_to_tick doc Anyone (λ k h. Over q h) (over_turn doc q) (over_release doc q) k q.process role awake h s

  over_finish : (h : List Entry) → Over q h → Over q (finish doc k q.process h)
  over_finish h s = by_up (alive q.process h)
    where
      by_time : (p : Identity) (b : Bool) → Over q (if b then h else end_as doc.settings.rules.release doc k p h)
      by_time p true = s
      by_time p false = keeps_end_as doc (Over q) k 4 (λ x h beat is next plain s. over_more q x h next.0 s) doc.settings.rules.release p h refl s

      by_deadline : (p : Identity) (o : Option ℕ) → Over q (end_term doc k p o h)
      by_deadline p None = s
      by_deadline p (Some at) = by_time p (nat_lt (local doc p.process k) at)

      by_up : (o : Option ℕ) → Over q (if_up q.process (λ q T. end_term doc k q (deadline doc q T) T) o h)
      by_up None = s
      by_up (Some i) = by_deadline (identity q.process i) (deadline doc (identity q.process i) h)

  over_after : (h : List Entry) → Over q h → Over q (attempts doc k q.process (finish doc k q.process h))
  over_after h s = walk_attempts doc Anyone (λ k h. Over q h) (over_turn doc q) (over_release doc q) k q.process role awake (finish doc k q.process h) (over_finish h s)

-- ---- what was late stays so

late_more : (doc : Doc) (q : Identity) (j k : ℕ) (c : Call) → j ≤ k → is_late doc q j c ≡ true → is_late doc q k c ≡ true
late_more doc q j k c le is = by_over (release_begun doc.settings.rules.release c.kind) is
  where
    up : local doc q.process j ≤ local doc q.process k
    up = local_up doc q.process j k le

    timeout : ℕ
    timeout = local doc q.process c.sent + call_timeout doc q.process

    or_right : (a : Bool) → (a || true) ≡ true
    or_right true = refl
    or_right false = refl

    by_time : (a : Bool) → nat_lt timeout (local doc q.process j) ≡ true → (a || nat_lt timeout (local doc q.process k)) ≡ true
    by_time a late = ap (λ b. a || b) (lt-ltb timeout (local doc q.process k) (omega (arith, up, ltb-true timeout (local doc q.process j) late))) ∙ or_right a

    still_over : (until : ℕ) → nat_lt (local doc q.process j) until ≡ false → nat_lt (local doc q.process k) until ≡ false
    still_over until over = by_test (nat_lt (local doc q.process k) until) refl
      where
        by_test : (b : Bool) → nat_lt (local doc q.process k) until ≡ b → b ≡ false
        by_test false is = refl
        by_test true is = absurd (omega (arith, up, ltb-true (local doc q.process k) until is, ltb-false (local doc q.process j) until over))

    by_end : (until : ℕ) (b : Bool) → nat_lt (local doc q.process j) until ≡ b → (not b || nat_lt timeout (local doc q.process j)) ≡ true → (not (nat_lt (local doc q.process k) until) || nat_lt timeout (local doc q.process k)) ≡ true
    by_end until true running is = by_time (not (nat_lt (local doc q.process k) until)) is
    by_end until false over is = ap (λ b. not b || nat_lt timeout (local doc q.process k)) (still_over until over)

    by_over : (o : Option ℕ) → (is_release_over doc q j o || nat_lt timeout (local doc q.process j)) ≡ true → (is_release_over doc q k o || nat_lt timeout (local doc q.process k)) ≡ true
    by_over None is = by_time false is
    by_over (Some begun) is = by_end (local doc q.process begun + renew_deadline doc q.process) (nat_lt (local doc q.process j) (local doc q.process begun + renew_deadline doc q.process)) refl is

-- ---- a late call ends its release

module _ (doc : Doc) (q : Identity) (k : ℕ) (role : is_controller doc q.process ≡ true) (awake : is_paused doc q.process k ≡ false) where
  pub late_ends : (c : Call) (h : List Entry) → q.incarnation ≤ starts q.process h → Pending doc q c h → is_late doc q k c ≡ true → Over q (elector_turn doc k q.process h)
  late_ends c h started w late = by_up (alive q.process h) refl
    where
      ends : Over q (expire_call doc k q (call_in q h) h)
      ends =
          subst (λ o. Over q (expire_call doc k q o h)) (sym w.waits)
          (subst (λ b. Over q (if b then expire_as doc k q c (release_begun doc.settings.rules.release c.kind) h else h)) (sym late)
          (subst (λ o. Over q (expire_as doc k q c o h)) (sym w.of) (ended_over doc k 4 q h started)))

      turned : (o : Option ℕ) → alive q.process h ≡ o → Over q (if_up q.process (λ q T. expired doc k q T) o h) → Over q (elector_turn doc k q.process h)
      turned None up s = over_at_tick doc q k role awake h s
      turned (Some i) up s =
          subst (λ o. Over q (attempts doc k q.process (finish doc k q.process (expire doc k q.process (restart_if doc k q.process o h))))) (sym up)
          (over_after doc q k role awake (expire doc k q.process h) (subst (λ o. Over q (if_up q.process (λ q T. expired doc k q T) o h)) (sym up) s))

      by_up : (o : Option ℕ) → alive q.process h ≡ o → Over q (elector_turn doc k q.process h)
      by_up None up = over_at_tick doc q k role awake h (started, λ is. none_is q.incarnation (sym up ∙ is))
      by_up (Some i) up = ⊎_elim same other (cases_eq i q.incarnation)
        where
          same : i ≡ q.incarnation → Over q (elector_turn doc k q.process h)
          same is = turned (Some i) up (subst (λ (p : Identity). Over q (expired doc k p h)) (λ j. record { process = q.process; incarnation = (sym is) j }) ends)

          other : (i ≡ q.incarnation → ⊥) → Over q (elector_turn doc k q.process h)
          other differs = over_at_tick doc q k role awake h (started, λ is. differs (some_is i q.incarnation (sym up ∙ is)))

  -- where a reply with the call's number has come
  pub heard_ends : (c : Call) (h : List Entry) → Told doc q c k h → Asked q c h → (x : Entry) → In x h → hears q c.number x.actor x.fact ≡ true → c.sent < x.beat → Over q (elector_turn doc k q.process h)
  heard_ends c h s asked x at told later = ⊎_elim (over_at_tick doc q k role awake h) late (s.heard x at told later asked)
    where
      late : is_late doc q x.beat c ≡ true → Over q (elector_turn doc k q.process h)
      late is = ⊎_elim (over_at_tick doc q k role awake h) pending (s.gone asked)
        where
          pending : Pending doc q c h → Over q (elector_turn doc k q.process h)
          pending w = late_ends c h (⊎_elim (λ lt. absurd (none_is c (sym (((s.fit.each q).unborn lt).1) ∙ w.waits))) (λ le. le) (cases_lt (starts q.process h) q.incarnation)) w (late_more doc q x.beat k c (s.until x at) is)

-- ---- three beats after the write

pub freed_over : (doc : Doc) → IsSound doc → are_prompt doc doc.events ≡ true → (q : Identity) (k : ℕ) (e : Entry) (b : Back) → In e (at_turn doc q.process k) → back_of e.actor e.fact ≡ Some b → b.who ≡ q → gives_up b.call.kind ≡ true
    → b.call.sent < e.beat → e.beat + 3 ≤ k → IsActing doc q k → ⊥
freed_over doc sound prompt q k e b at is mine gives sent later acting = over.1 (acting_up doc q k (elector_turn doc k q.process h) acting.1)
  where
    h : List Entry
    h = at_turn doc q.process k

    awake : is_paused doc q.process k ≡ false
    awake = acting_awake doc q k (elector_turn doc k q.process h) acting.1

    backs : Backs doc k h
    backs = turn_backs doc sound q.process k

    soon : Soon doc q.process e.beat b.comes
    soon = subst (λ (p : Identity). is_controller doc p.process ≡ true → Soon doc p.process e.beat b.comes) mine
        (subst (λ o. IfSome o (λ b. are_prompt doc doc.events ≡ true → is_controller doc b.who.process ≡ true → Soon doc b.who.process e.beat b.comes)) is (backs.soon e at) prompt) acting.0

    t : ℕ
    t = resume doc q.process (e.beat + soon.beats)

    come : t ≤ k
    come = resume_by doc q.process (e.beat + soon.beats) k (omega (arith, soon.most, later)) awake

    after : e.beat < t
    after = omega (arith, soon.later, resume_later doc q.process (e.beat + soon.beats))

    due : is_due t b.comes ≡ true
    due = ap (is_due t) soon.is ∙ eq-eqb t t refl

    heard : IsHeard t b.who b.call.number (three_steps doc t (history doc t))
    heard = comes_now doc t e b (backs.stood e at t after come) is due

    position : IsTail (three_steps doc t (history doc t)) h
    position = ⊎_elim now before (cases_eq t k)
      where
        g : List Entry
        g = three_steps doc t (history doc t)

        now : t ≡ k → IsTail g h
        now same = subst (λ k. IsTail g (at_turn doc q.process k)) same (turns_add doc t q.process g g (tail_all g))

        before : (t ≡ k → ⊥) → IsTail g h
        before other = tail_trans g (history doc k) h
            (tail_trans g (history doc (suc t)) (history doc k) (turns_add doc t (processes doc) g g (tail_all g)) (later_tail doc (suc t) k (omega (arith, other, come))))
            (before_turn doc q.process k)

    asked : Asked q b.call h
    asked = subst (λ (p : Identity). Asked p b.call h) mine (subst (λ o. IfSome o (λ b. Asked b.who b.call h)) is (backs.asked e at))

    over : Over q (elector_turn doc k q.process h)
    over = heard_ends doc q k acting.0 awake b.call h (turn_told doc q b.call acting.0 gives q.process k) asked heard.x (in_tail heard.x (three_steps doc t (history doc t)) h position heard.at)
        (subst (λ (p : Identity). hears p b.call.number heard.x.actor heard.x.fact ≡ true) mine heard.told) (omega (arith, sent, after, heard.beat))
