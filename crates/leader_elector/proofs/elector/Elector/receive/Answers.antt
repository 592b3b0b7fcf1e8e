use Rattle.std.proofs.Common.{◌≡◌, ◌∙◌, Option, Some, None, sym, ap, subst}
use Rattle.kube_objects.specs.declared.call.Request.{Request}
use Rattle.kube_objects.specs.Elector.{follow_on, newly, observed_at, told}
use Rattle.kube_objects.specs.Entry.{CallKind}
use Rattle.kube_objects.specs.Newest.{or_else}
use Rattle.kube_objects.specs.Turns.{with_reply}
use Rattle.kube_objects.proofs.OwnCalls.{counted-call}
use Rattle.leader_elector.specs.Moves.{last_of}
use Rattle.leader_elector.specs.Attempts.{attempts_of}
use Rattle.leader_elector.specs.Plain.{attempts_after, timer_after}
use Rattle.leader_elector.specs.Stands.{IsTimingOf, Wait, follow_of, kind_of, observed_of, shown_of, waiting_in, waiting_of}
use Rattle.leader_elector.proofs.Replies.{with_reply-stands, observed_at-with_reply}
use Rattle.leader_elector.proofs.elector.Elector.receive.Goals as goal

abbrev request_of : Request → Option Wait → Request
request_of r None = r
request_of r (Some w) = w.request

abbrev kind_in : CallKind → Option Wait → CallKind
kind_in kind None = kind
kind_in kind (Some w) = w.kind

pub returns-clause-counts : goal.returns-clause-counts
returns-clause-counts c doc q h k call s led waits_are now wall is =
    let self = c.args.self.now in
    let reply = c.args.reply.now in
    let w = c.in-Some.waiting in
    let g = with_reply k q call reply h in
    let call_is = counted-call doc q k c.args.number h call is in
    let waits : waiting_of (Some w) ≡ waiting_in doc q (Some call) = sym (ap waiting_of c.in-Some.is) ∙ s.waiting ∙ ap (waiting_in doc q) call_is in
    let request : w.request ≡ call.request = ap (request_of w.request) waits in
    let kind : kind_of w.fast ≡ call.kind = ap (kind_in call.kind) waits in
    let told_is : c.record_of.result ≡ told call.request reply = c.record_of.ensures ∙ ap (λ r. told r reply) request in
    let noted = c.note.new.self in
    let noted_is = c.note.ensures.changed in
    let shown_is : shown_of noted.seen ≡ last_of (told call.request reply) (shown_of self.seen) = c.note.ensures.shown ∙ ap (λ t. last_of t (shown_of self.seen)) told_is in
    let observed_is : observed_of noted.seen ≡ observed_at doc q g =
    c.note.ensures.observed
    ∙ (λ i. or_else (s.observed i) (newly (told_is i) (s.shown i) (now i)))
    ∙ sym (observed_at-with_reply doc k q call reply h) in
    let timing_is : noted.timing ≡ self.timing = ap (λ x. x.timing) noted_is in
    let follow_is : follow_of c.follow-follow.result ≡ follow_on doc q k call.kind call.request reply g =
    c.follow-follow.ensures.history doc q g k (ap (λ x. x.me.0) noted_is ∙ s.process) (ap (λ x. x.incarnation) noted_is ∙ s.incarnation) (subst (λ t. IsTimingOf doc q.process t) (sym timing_is) s.timing) now wall observed_is
    ∙ (λ i. follow_on doc q k (kind i) (request i) reply g) in
    let follow = ap (λ f. timer_after noted.timing c.args.waits.now c.args.led c.args.now.0 f (attempts_of noted.attempts) noted.timer.0) follow_is in
    let tried = ap (λ f. attempts_after noted.timing c.args.waits.now c.args.led c.args.now.0 f (attempts_of noted.attempts)) follow_is in (
      follow_is,
      with_reply-stands doc k q call reply h self noted c.set_timer.new.self c.finish.new.self c.args.waits.now c.args.led c.args.now.0 s (c.finish.ensures.delivered doc q h k 3 call reply s.slot)
          call_is led waits_are now noted_is shown_is observed_is c.set_timer.ensures.changed (c.set_timer.ensures.timer ∙ follow) (c.set_timer.ensures.attempts ∙ tried),
    )
