use Rattle.std.proofs.Common.{◌≡◌, ◌<◌, ◌≤◌, Some, sym, ◌∙◌, subst, arith}
use Rattle.kube_objects.specs.Document.{end_beat}
use Rattle.kube_objects.specs.Pauses.{resume}
use Rattle.history_laws.proofs.Plainly.{not_true}
use Rattle.agenda_laws.specs.Times.{is_early, sooner}
use Rattle.world_core.specs.Waits.{beat_of}
use Rattle.world_agenda.specs.Woken.{resumed}
use Rattle.world_agenda.proofs.Going.{due-past, goes-on, goes-past, kept}
use Rattle.world_agenda.proofs.agenda.sooner_turn.Goals as goal

pub returns-then-is_there : goal.returns-then-is_there
returns-then-is_there c doc k h stands end =
    let next = beat_of c.args.next in
    let due = c.in-Some.due.0 in
    subst (λ o. next ≡ sooner next (resumed doc c.args.who.0 (beat_of o))) (sym c.in-Some.is)
    (kept doc c.args.who.0 due next (not_true (is_early due next) (sym c.is_there.ensures ∙ c.if-is_there.true)))

pub returns-then-end-due : goal.returns-then-end-due
returns-then-end-due c doc k h stands end =
    let next = beat_of c.args.next in
    let due = c.in-Some.due.0 in
    let past : end_beat doc < due = omega (arith, c.if-end-due.true, c.end-end.ensures, c.clock.ensures.end c.requires.ready, end) in
    subst (λ o. next ≡ sooner next (resumed doc c.args.who.0 (beat_of o))) (sym c.in-Some.is) (due-past doc c.args.who.0 due next past)

pub returns-then-end-goes_on : goal.returns-then-end-goes_on
returns-then-end-goes_on c doc k h stands end =
    let next = beat_of c.args.next in
    let due = c.in-Some.due.0 in
    let past : end_beat doc < resume doc c.args.who.0 due =
    omega (arith, c.if-end-goes_on.true, c.end-end.ensures, c.clock.ensures.end c.requires.ready, end, c.resume-goes_on.ensures doc k h stands end) in
    subst (λ o. next ≡ sooner next (resumed doc c.args.who.0 (beat_of o))) (sym c.in-Some.is) (goes-past doc c.args.who.0 due next past)

pub returns : goal.returns
returns c doc k h stands end =
    let next = beat_of c.args.next in
    let due = c.in-Some.due.0 in
    let within : c.resume-goes_on.result.0 ≤ end_beat doc = omega (arith, c.if-end-goes_on.false, c.end-end.ensures, c.clock.ensures.end c.requires.ready, end) in
    c.sooner_beat.ensures
    ∙ subst (λ o. sooner next (Some c.resume-goes_on.result.0) ≡ sooner next (resumed doc c.args.who.0 (beat_of o))) (sym c.in-Some.is)
    (goes-on doc c.args.who.0 due c.resume-goes_on.result.0 next (c.resume-goes_on.ensures doc k h stands end) within)
