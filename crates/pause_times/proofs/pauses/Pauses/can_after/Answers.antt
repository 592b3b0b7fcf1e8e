use Rattle.std.proofs.Common.{◌≡◌, ℕ, ◌<◌, Some, None, sym, ap, ◌∙◌, arith}
use Rattle.kube_objects.specs.Pauses.{pause_end}
use Rattle.skew_clock.specs.Clocking.{reading}
use Rattle.pause_times.specs.Owned.{beat_of}
use Rattle.pause_times.proofs.Due.{can-late, can-first, ends-inside, ends-after}
use Rattle.pause_times.proofs.pauses.Pauses.can_after.Goals as goal

pub returns-in_default-clause-value : goal.returns-in_default-clause-value
returns-in_default-clause-value c doc p s clocked = sym (can-late doc p c.args.at.0 c.args.clock.now clocked (λ k lt. c.in_default.ensures.none k (omega (arith, lt))))

pub returns-then-first-end-clause-value : goal.returns-then-first-end-clause-value
returns-then-first-end-clause-value c doc p s clocked =
    sym (can-late doc p c.args.at.0 c.args.clock.now clocked (λ k lt. c.in-Some.ensures.first.before k (omega (arith, lt, c.if-first-end.true, c.end-end.ensures))))

pub returns-in-Some-end_at-clause-value : goal.returns-in-Some-end_at-clause-value
returns-in-Some-end_at-clause-value c doc p s clocked =
    let inside : c.in-Some.first.0 < c.args.clock.now.end = omega (arith, c.if-first-end.false, c.end-end.ensures) in
    let over : Some c.in-Some-end_at.over.0 ≡ pause_end doc p c.in-Some.first.0 = ap beat_of (sym c.in-Some-end_at.is) ∙ c.end_at.ensures doc p s in
    c.local.ensures.value
    ∙ ends-inside doc p c.in-Some-end_at.over.0 c.args.clock.now clocked (omega (arith, c.if-over-end.true, c.end-end.ensures))
    ∙ sym (can-first doc p c.args.at.0 c.in-Some.first.0 c.args.clock.now (Some c.in-Some-end_at.over.0) clocked c.in-Some.ensures.first inside over)

some_is : {a b : ℕ} → Some a ≡ Some b → a ≡ b
some_is is = cc

pub returns-in-Some-2-clause-value : goal.returns-in-Some-2-clause-value
returns-in-Some-2-clause-value c doc p s clocked =
    let inside : c.in-Some.first.0 < c.args.clock.now.end = omega (arith, c.if-first-end.false, c.end-end.ensures) in
    let same : c.in-Some-end_at.over.0 ≡ c.in-Some-2.field-0.0 = some_is (ap beat_of (sym c.in-Some-end_at.is ∙ c.in-Some-2.is)) in
    let over : Some c.in-Some-2.field-0.0 ≡ pause_end doc p c.in-Some.first.0 = ap beat_of (sym c.in-Some-2.is) ∙ c.end_at.ensures doc p s in
    c.local-in-Some-2.ensures.value ∙ ap (reading c.args.clock.now) c.end-end.ensures
    ∙ ends-after doc p c.in-Some-2.field-0.0 c.args.clock.now clocked (omega (arith, same, c.if-over-end.false, c.end-end.ensures))
    ∙ sym (can-first doc p c.args.at.0 c.in-Some.first.0 c.args.clock.now (Some c.in-Some-2.field-0.0) clocked c.in-Some.ensures.first inside over)

pub returns-in-None-clause-value : goal.returns-in-None-clause-value
returns-in-None-clause-value c doc p s clocked =
    let inside : c.in-Some.first.0 < c.args.clock.now.end = omega (arith, c.if-first-end.false, c.end-end.ensures) in
    sym (can-first doc p c.args.at.0 c.in-Some.first.0 c.args.clock.now None clocked c.in-Some.ensures.first inside (ap beat_of (sym c.in-None.is) ∙ c.end_at.ensures doc p s))
