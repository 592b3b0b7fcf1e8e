-- The gap before a lead.
use Rattle.std.proofs.Common.{◌≡◌, ◌≤◌, ℕ, ◌+◌, ◌*◌, true, List, ◌∷◌, length, Option, Some, None, IfSome, refl, sym, ap, ◌∙◌, subst, inl, inr, ⊎_elim, arith}
use Rattle.kube_base.specs.declared.numbers.Version.{Version}
use Rattle.kube_objects.specs.declared.call.Reply.TheVariants.{Done}
use Rattle.kube_objects.specs.declared.lease.Lease.{Lease}
use Rattle.kube_objects.specs.declared.object.Object.{Object}
use Rattle.kube_objects.specs.declared.object.Object.TheVariants as object
use Rattle.kube_objects.specs.Document.{Doc, end_beat, is_controller}
use Rattle.kube_objects.specs.Elector.{lead_says, succeeds}
use Rattle.kube_objects.specs.Entry.{Entry, Identity}
use Rattle.kube_objects.specs.Newest.{added, has}
use Rattle.kube_objects.specs.Own.{ReleasesByStop}
use Rattle.kube_objects.specs.Stored.{Held, Write, election, stored, at_key, write_of, writes, next_version}
use Rattle.history.specs.History.{whole_history}
use Rattle.history.specs.Premise.{greatest_below}
use Rattle.history.specs.Sound.{IsSound}
use Rattle.history_laws.specs.Tails.{IsTail}
use Rattle.history_laws.proofs.Plainly.{none_is}
use Rattle.history_laws.proofs.Tailed.{tail_trans, tail_all, tails_meet, writes_tail}
use Rattle.lease_laws.proofs.Premises.{rates_at_most}
use Rattle.span_laws.specs.Spans.{RunsAtMost, IsNeeded}
use Rattle.span_laws.proofs.Spans.{readings_last}
use Rattle.lease_laws.specs.Respects.{respected_time}
use Rattle.gap_laws.specs.Gaps.{IsDelayed, IsWriteOf, IsTakenFrom, GapsLast}
use Rattle.gap_laws.proofs.Waits.{Slow, Late, Waited, WaitedFor, Topped, Took, Success, LedFrom, Waits}
use Rattle.gap_laws.proofs.Histories.{whole_known}

-- ---- a version is one write's

written : (o : Option Write) (x : Option Object) → at_key election o ≡ Some x → has o ≡ true
written None x is = absurd (none_is x is)
written (Some w) x is = refl

one_more : (e : Entry) (S : List Entry) → has (write_of e.fact) ≡ true → writes (e ∷ S) ≡ writes S + 1
one_more e S is = ap (λ b. added b (writes S)) is

below : (e : Entry) (S h : List Entry) → IsTail (e ∷ S) h → IsTail S h
below e S h at = tail_trans S (e ∷ S) h (inr (tail_all S)) at

-- a write that stands below another has a lower version
lower : (e f : Entry) (S T : List Entry) → writes (f ∷ T) ≡ writes T + 1 → IsTail (f ∷ T) S → next_version S ≡ next_version T → ⊥
lower e f S T one at same = let e : writes S + 1 ≡ writes T + 1 = ap (λ (v : Version). v.0) same in absurd (omega (arith, e, one, writes_tail (f ∷ T) S at))

one_write : (e f : Entry) (S T h : List Entry) → IsTail (e ∷ S) h → IsTail (f ∷ T) h → writes (e ∷ S) ≡ writes S + 1 → writes (f ∷ T) ≡ writes T + 1 → next_version S ≡ next_version T → S ≡ T
one_write e f S T h a b one two same = ⊎_elim left right (tails_meet (e ∷ S) (f ∷ T) h a b)
  where
    rest : e ∷ S ≡ f ∷ T → S ≡ T
    rest is = cc

    left : IsTail (e ∷ S) (f ∷ T) → S ≡ T
    left (inl is) = rest is
    left (inr at) = absurd (lower f e T S one at (sym same))

    right : IsTail (f ∷ T) (e ∷ S) → S ≡ T
    right (inl is) = rest (sym is)
    right (inr at) = absurd (lower e f S T two at same)

-- ---- the gap

done_is : (a b : Version) → Done a ≡ Done b → a ≡ b
done_is a b is = cc

-- three messages after the time of the record
module _ (doc : Doc) (sound : IsSound doc) (own : ReleasesByStop doc) (q : Identity) (role : is_controller doc q.process ≡ true) (e : Entry) (earlier before : List Entry) (version : Version) (stands : IsTail (e ∷ earlier) (whole_history doc))
    (lead : lead_says q e.actor e.fact ≡ Some version) (write : IsWriteOf version earlier before) (y : Held) (lease : Lease) (over : IsTakenFrom q before y lease)
    (fast needed : ℕ) (runs : RunsAtMost doc q.process y.beat e.beat fast) (is : IsNeeded fast (respected_time doc q.process lease) needed) where
  gap_by : (least : ℕ) → IsDelayed doc q.process y.beat least → (y.beat + needed + 3 ≤ e.beat) × (y.beat + needed + 3 * least ≤ e.beat)
  gap_by least delayed = (omega (arith, waited.late.0, counted, comes.0, success.comes.0), omega (arith, waited.late.1 refl (omega arith), counted, comes.1 refl since, success.comes.1 refl (omega (arith, since, comes.0))))
    where
      w : Slow
      w = record { who = q.process; from = y.beat; least = least }

      known : Waits doc w (end_beat doc) (whole_history doc)
      known = whole_known doc sound own (greatest_below doc (length doc.controllers)) (rates_at_most doc) w delayed

      led : LedFrom w q e.beat earlier version
      led = subst (λ o. IfSome o (LedFrom w q e.beat earlier)) lead (known.leads e earlier stands q)

      success : Success w q e.beat earlier
      success = led.0

      answered : Topped doc success.e success.before × Took doc w success.b success.e.beat success.before
      answered = subst (λ o. IfSome o (λ b. is_controller doc b.who.process ≡ true → succeeds b.call.request b.reply ≡ true → Topped doc success.e success.before × Took doc w b success.e.beat success.before)) success.is
          (known.answers success.e success.before (tail_trans (success.e ∷ success.before) earlier (whole_history doc) success.stands (below e earlier (whole_history doc) stands)))
          (subst (λ (q : Identity). is_controller doc q.process ≡ true) (sym success.who) role) success.so

      same : success.before ≡ before
      same = one_write success.e write.x success.before before earlier success.stands write.stands (one_more success.e success.before (written (write_of success.e.fact) (Some answered.0.x.object) answered.0.write))
          (one_more write.x before (written (write_of write.x.fact) (Some (object.Lease write.lease)) write.writes))
          (done_is (next_version success.before) version (sym answered.1.version ∙ led.1) ∙ sym write.given)

      base : (y.beat ≤ success.b.call.sent) × WaitedFor doc w q success.b.call.sent y
      base = subst (λ q. (y.beat ≤ success.b.call.sent) × WaitedFor doc w q success.b.call.sent y) success.who
          (subst (λ o. IfSome o (λ y. (y.beat ≤ success.b.call.sent) × WaitedFor doc w success.b.who success.b.call.sent y)) (ap (stored election) same ∙ over.stored) answered.1.base)

      waited : Waited doc w q success.b.call.sent y lease
      waited = base.1 lease over.object over.other

      since : y.beat ≤ success.b.call.sent
      since = base.0

      comes : Late w q.process success.b.call.sent success.e.beat
      comes = subst (λ (q : Identity). Late w q.process success.b.call.sent success.e.beat) success.who (answered.1.after.1 success.plain)

      counted : waited.seen + needed ≤ success.b.call.sent
      counted = readings_last doc q.process y.beat e.beat fast (respected_time doc q.process lease) needed runs is waited.seen success.b.call.sent
          (omega (arith, waited.late.0)) waited.before (omega (arith, comes.0, success.comes.0)) waited.over

pub gaps_last : GapsLast
gaps_last doc sound own q role e earlier before version stands lead write y lease over fast needed runs is = (
  (gap_by doc sound own q role e earlier before version stands lead write y lease over fast needed runs is 0 (λ x h at from late. (omega arith, omega arith))).0,
  λ least delayed. (gap_by doc sound own q role e earlier before version stands lead write y lease over fast needed runs is least delayed).1,
)
