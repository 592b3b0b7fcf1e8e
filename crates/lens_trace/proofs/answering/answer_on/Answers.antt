use Rattle.std.proofs.Common.{◌≡◌, IfOk, sym, subst}
use Rattle.run_edge.specs.Outcome.{reply_of}
use Rattle.lens_trace.proofs.ReplyLaws.{reply-endless, reply-headless, reply-behind}
use Rattle.lens_trace.proofs.answering.answer_on.Goals as goal

pub returns-in_default : goal.returns-in_default
returns-in_default g c =
    subst (λ r. IfOk c.refuse.result (λ a. reply_of a ≡ r)) (sym (reply-endless (g.T.Telling.told c.args.telling.now) c.args.text.now c.in_default.ensures)) c.refuse.ensures

pub returns-in_default-read_header : goal.returns-in_default-read_header
returns-in_default-read_header g c =
    subst (λ r. IfOk c.refuse-in_default-read_header.result (λ a. reply_of a ≡ r))
    (sym (reply-headless (g.T.Telling.told c.args.telling.now) c.args.text.now c.in-Some.head.now c.in-Some.rest.now c.in-Some.ensures (sym c.in_default-read_header.ensures.header)))
    c.refuse-in_default-read_header.ensures

pub returns : goal.returns
returns g c =
    subst (λ r. IfOk c.answer_behind.result (λ a. reply_of a ≡ r))
    (sym (reply-behind (g.T.Telling.told c.args.telling.now) c.args.text.now c.in-Some.head.now c.in-Some.rest.now c.in-Some-read_header.header c.in_ok-judged.judged c.in-Some.ensures
    (sym c.in-Some-read_header.ensures.header) c.in_ok-judged.ensures))
    c.answer_behind.ensures
