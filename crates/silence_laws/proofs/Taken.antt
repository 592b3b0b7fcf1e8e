-- Somebody else comes to lead after a leader has fallen silent: by then the leader's record was taken over, and it wasn't old at the beat of the silence.
use Rattle.std.proofs.Common.{◌≡◌, ◌<◌, ◌≤◌, ℕ, suc, ◌+◌, ◌-◌, ◌*◌, not, Bool, true, false, List, ◌∷◌, refl, sym, ap, ◌∙◌, subst, inr, ⊎_elim, arith}
use Rattle.std.proofs.Math.Nat.{mul-le-mul_right}
use Rattle.std.proofs.lemmas.Bool.{cases_lt}
use Rattle.kube_objects.specs.declared.call.Reply.TheVariants.{Done}
use Rattle.kube_objects.specs.Clocks.{local}
use Rattle.kube_objects.specs.Document.{Doc, end_beat}
use Rattle.kube_objects.specs.Entry.{Entry, Identity, actor_of}
use Rattle.kube_objects.specs.Identities.{is_same, is_other}
use Rattle.kube_objects.specs.Newest.{has}
use Rattle.kube_objects.specs.Stored.{election, at_key, write_of}
use Rattle.history.specs.History.{history}
use Rattle.history_laws.specs.Tails.{IsTail}
use Rattle.history_laws.proofs.Plainly.{same_is}
use Rattle.history_laws.proofs.Tailed.{tail_all, tail_trans, later_tail}
use Rattle.takeover_laws.specs.Waits.{blocked_for}
use Rattle.takeover_laws.proofs.Waits.{blocked_time}
use Rattle.span_laws.proofs.Spans.{goes_most}
use Rattle.gap_laws.proofs.Waits.{Waited, WaitedFor, Took}
use Rattle.call_laws.proofs.Placing.{in_own_beat}
use Rattle.calm_laws.proofs.Origins.{Origin}
use Rattle.stay_laws.proofs.Won.{Won, is_won}
use Rattle.stay_laws.proofs.Alone.{alone_since}
use Rattle.stay_laws.proofs.Given.{IsGiven}
use Rattle.stay_laws.proofs.Rivals.{plainly, won_topped, won_waited}
use Rattle.stay_laws.proofs.Sendings as sendings
use Rattle.stay_laws.proofs.Written as wrote
use Rattle.silence_laws.proofs.Renewed as renewed
use Rattle.silence_laws.specs.Silence.{LeadsUntil, Bears}
use Rattle.silence_laws.proofs.Setting.{calm_before, times_before, its_lead, its_time, some_b}
use Rattle.silence_laws.proofs.Owning.{IsQuietIn, IsOwn, IsForeign, own_since}
use Rattle.silence_laws.proofs.Waiting.{history_below}
use Rattle.silence_laws.proofs.Ways.{beat_before}

module _ (doc : Doc) (near far b e : ℕ) (q : Identity) (l : LeadsUntil doc near far b e q) (s : Bears doc near far b e q) (H : List Entry) (H_e : IsTail H (history doc (suc e))) (quiet : IsQuietIn b q.process H) where
  abbrev pub a : ℕ
  a = b - 1

  pub end_a : a ≤ end_beat doc
  end_a = omega (arith, l.within, s.end)

  abbrev pub j : ℕ
  j = (its_lead doc near far b e q l s).j

  pub j_to : j ≤ a
  j_to = its_time doc near far b e q l s

  pub j_early : j + 3 * far ≤ b
  j_early = omega (arith, (its_lead doc near far b e q l s).to, l.long)

  -- the write by which it came to lead
  abbrev pub o : Origin doc q (its_lead doc near far b e q l s).success.call (Done (its_lead doc near far b e q l s).success.version) (its_lead doc near far b e q l s).success.before j
  o = renewed.o doc near far b e q l s j j_to (its_lead doc near far b e q l s).success

  pub ways : sendings.IsWay near far o.begun.f.beat o.e.beat j
  ways = renewed.ways doc near far b e q l s j j_to (its_lead doc near far b e q l s).success

  abbrev given : IsGiven doc near far 0 q j
  given = renewed.g doc near far b e q l s j j_to (its_lead doc near far b e q l s).success

  abbrev pub first : List Entry
  first = o.e ∷ o.low

  first_a : IsTail first (history doc (suc a))
  first_a = wrote.write_high doc near far 0 a s.sound s.rules (calm_before doc near far b e q l s) (times_before doc near far b e q l s) s.one end_a q l.role l.steady s.renews j j_to given

  pub first_e : IsTail first (history doc (suc e))
  first_e = tail_trans first (history doc (suc a)) (history doc (suc e)) first_a (later_tail doc (suc a) (suc e) (omega (arith, l.within)))

  pub first_writes : has (at_key election (write_of o.e.fact)) ≡ true
  first_writes = wrote.writes doc near far 0 a s.sound s.rules (calm_before doc near far b e q l s) (times_before doc near far b e q l s) s.one end_a q l.role l.steady s.renews j j_to given

  -- it stands below what comes three ways before b, or later
  pub first_low : (x : Entry) (T : List Entry) → IsTail (x ∷ T) (history doc (suc e)) → b ≤ x.beat + 3 * far → IsTail first T
  first_low x T at late =
      tail_trans first (history doc (suc o.e.beat)) T (in_own_beat doc (suc e) o.e o.low first_e)
      (history_below doc o.e.beat e x T at sooner (omega (arith, sooner, beat_before doc e x T at)))
    where
      sooner : o.e.beat < x.beat
      sooner = omega (arith, ways.comes_least, j_early, late, s.one, s.ways, l.long)

  -- a write of somebody else above it comes at b or later
  pub foreign_late : (f : IsForeign doc near far b e q l s H H_e quiet first H) → b ≤ f.x.beat
  foreign_late f = ⊎_elim (λ lt. absurd (early lt)) (λ le. le) (cases_lt f.x.beat b)
    where
      early : f.x.beat < b → ⊥
      early lt =
          f.other (alone_since doc near far 0 a s.sound s.rules (calm_before doc near far b e q l s) (times_before doc near far b e q l s) s.one end_a q l.role l.steady s.renews j j_to given f.x f.before
          (tail_trans (f.x ∷ f.before) (history doc (suc f.x.beat)) (history doc (suc a)) (in_own_beat doc (suc e) f.x f.before (tail_trans (f.x ∷ f.before) H (history doc (suc e)) f.position H_e)) (later_tail doc (suc f.x.beat) (suc a) (omega (arith, lt)))) f.since f.writes)

  -- ---- the first write of somebody else, and the record over which it comes

  module _ (f : IsForeign doc near far b e q l s H H_e quiet first H) where
    low_h : IsTail f.before H
    low_h = tail_trans f.before (f.x ∷ f.before) H (inr (tail_all f.before)) f.position

    low_e : IsTail f.before (history doc (suc e))
    low_e = tail_trans f.before (f.x ∷ f.before) (history doc (suc e)) (inr (tail_all f.before)) (tail_trans (f.x ∷ f.before) H (history doc (suc e)) f.position H_e)

    late : b ≤ f.x.beat
    late = foreign_late f

    some : 1 ≤ o.e.beat
    some = omega (arith, ways.sent_least, s.one)

    pub own : IsOwn doc q f.before
    own = own_since doc near far b e q l s H H_e quiet o.e o.low some first_writes o.actor f.before f.since low_h f.own

    pub won : Won doc f.x f.before
    won = is_won doc s.sound s.rules e s.end f.x f.before (tail_trans (f.x ∷ f.before) H (history doc (suc e)) f.position H_e) (omega (arith, late, some_b doc near far b e q l s)) f.writes

    pub rival : won.who ≡ q → ⊥
    rival same = f.other (won.actor ∙ ap actor_of same)

    x_e : IsTail (f.x ∷ f.before) (history doc (suc e))
    x_e = tail_trans (f.x ∷ f.before) H (history doc (suc e)) f.position H_e

    -- it waited for the record's duration since it was shown it
    took : Took doc plainly (record { who = won.who; call = won.call; reply = won.reply; comes = won.comes }) f.x.beat f.before
    took = (won_topped doc s.sound s.rules e s.end f.x f.before x_e won).1

    base : (own.y.beat ≤ won.call.sent) × WaitedFor doc plainly won.who won.call.sent own.y
    base = won_waited doc s.sound s.rules e s.end f.x f.before x_e won own.y own.top

    differs : (b : Bool) → is_same q won.who ≡ b → is_same q won.who ≡ false
    differs true is = absurd (rival (sym (same_is q won.who is)))
    differs false is = is

    pub other : is_other won.who own.lease.holder ≡ true
    other = ap (is_other won.who) own.holder ∙ ap not (differs (is_same q won.who) refl)

    waited : Waited doc plainly won.who won.call.sent own.y own.lease
    waited = base.1 own.lease own.object other

    over : local doc won.who.process waited.seen + blocked_for doc won.who.process q.process ≤ local doc won.who.process won.call.sent
    over = subst (λ t. local doc won.who.process waited.seen + t ≤ local doc won.who.process won.call.sent) (blocked_time doc won.who.process q.process own.lease own.duration) waited.over

    f_upto : f.x.beat ≤ e
    f_upto = beat_before doc e f.x f.before (tail_trans (f.x ∷ f.before) H (history doc (suc e)) f.position H_e)

    -- for so long that it sent the call long after the record was written
    pub long_after : own.y.beat + s.renews.wait + 5 * far + 1 ≤ won.call.sent + near
    long_after = ⊎_elim (λ lt. absurd (too_soon lt)) (λ le. le) (cases_lt (won.call.sent + near) (own.y.beat + s.renews.wait + 5 * far + 1))
      where
        too_soon : won.call.sent + near < own.y.beat + s.renews.wait + 5 * far + 1 → ⊥
        too_soon lt =
            omega (
              arith,
              over,
              goes_most doc won.who.process 0 e s.fastest (s.clocks won.who.process won.role) waited.seen won.call.sent (omega arith) waited.before (omega (arith, took.after.0, f_upto)),
              mul-le-mul_right s.fastest beats,
              s.lasts won.who.process won.role,
            )
          where
            beats : won.call.sent - waited.seen ≤ s.renews.wait + 5 * far - near
            beats = omega (arith, lt, waited.late.0)

    pub sent_before : won.call.sent < f.x.beat
    sent_before = took.after.0
