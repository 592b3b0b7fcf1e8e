use Rattle.std.proofs.Common.{◌<◌, ◌≤◌, Some, None, sym, subst, arith}
use Rattle.kube_objects.specs.Document.{end_beat}
use Rattle.kube_objects.specs.Pauses.{resume}
use Rattle.world_core.specs.Waits.{beat_of}
use Rattle.world_agenda.specs.Woken.{IsStalledFrom}
use Rattle.world_agenda.proofs.Going.{stalls-late, stalls-none, stalls-not, stalls-past, stalls-there}
use Rattle.world_agenda.proofs.agenda.stalled_from.Goals as goal

pub returns-in_default : goal.returns-in_default
returns-in_default c doc k h stands end = subst (λ o. IsStalledFrom doc c.args.who.0 (beat_of o) None) (sym c.in_default.is) (stalls-none doc c.args.who.0)

pub returns-then-end-due : goal.returns-then-end-due
returns-then-end-due c doc k h stands end =
    let due = c.in-Some.due.0 in
    subst (λ o. IsStalledFrom doc c.args.who.0 (beat_of o) None) (sym c.in-Some.is)
    (stalls-late doc c.args.who.0 due (omega (arith, c.if-end-due.true, c.end-end.ensures, c.clock.ensures.end c.requires.ready, end)))

pub returns-then-end-resumes : goal.returns-then-end-resumes
returns-then-end-resumes c doc k h stands end =
    let due = c.in-Some.due.0 in
    let past : end_beat doc < resume doc c.args.who.0 due =
    omega (arith, c.if-end-resumes.true, c.end-end.ensures, c.clock.ensures.end c.requires.ready, end, c.resume-resumes.ensures doc k h stands end) in
    subst (λ o. IsStalledFrom doc c.args.who.0 (beat_of o) None) (sym c.in-Some.is) (stalls-past doc c.args.who.0 due past)

pub returns-then-awake-resumes : goal.returns-then-awake-resumes
returns-then-awake-resumes c doc k h stands end =
    let due = c.in-Some.due.0 in
    let r = c.resume-resumes.result.0 in
    let within : r ≤ end_beat doc = omega (arith, c.if-end-resumes.false, c.end-end.ensures, c.clock.ensures.end c.requires.ready, end) in
    subst (λ o. IsStalledFrom doc c.args.who.0 (beat_of o) None) (sym c.in-Some.is)
    (stalls-not doc c.args.who.0 due r c.awake.result.0 (c.resume-resumes.ensures doc k h stands end) within (c.awake.ensures doc k h stands end) c.if-awake-resumes.true)

pub returns : goal.returns
returns c doc k h stands end =
    let due = c.in-Some.due.0 in
    let r = c.resume-resumes.result.0 in
    let within : r ≤ end_beat doc = omega (arith, c.if-end-resumes.false, c.end-end.ensures, c.clock.ensures.end c.requires.ready, end) in
    subst (λ o. IsStalledFrom doc c.args.who.0 (beat_of o) (beat_of (Some c.resume-resumes.result))) (sym c.in-Some.is) (stalls-there doc c.args.who.0 due r (c.resume-resumes.ensures doc k h stands end) within)
