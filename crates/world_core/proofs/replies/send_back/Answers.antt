use Rattle.std.proofs.Common.{◌≡◌, ℕ, ◌+◌, ◌<◌, ◌≤◌, Bool, true, false, length, IfSome, sym, ap, ◌∙◌, subst, arith}
use Rattle.kube_objects.specs.Document.{Doc}
use Rattle.kube_objects.specs.Pauses.{held_up}
use Rattle.kube_objects.specs.Wire.{arrival, loses_replies, reply_arrival, reply_delay}
use Rattle.kube_objects.proofs.Pauses.{resume_later}
use Rattle.wire_calls.specs.Messages.{sent_as_told}
use Rattle.world_core.proofs.replies.send_back.Goals as goal

-- a reply that isn't lost comes later
later : (doc : Doc) (p : ℕ) (lost : Bool) (k delay : ℕ) → 1 ≤ delay → IfSome (held_up doc p (arrival lost k delay)) (λ j. k < j)
later doc p true k delay some = tt
later doc p false k delay some = omega (arith, some, resume_later doc p (k + delay))

pub returns-clause-ok : goal.returns-clause-ok
returns-clause-ok c doc count k step arriving coming h q call wrote s at who number each within =
    let p = q.process in
    let here = arrival (loses_replies p h) k (reply_delay p h) in
    let same : p ≡ c.args.to.now.who.0 = ap (λ x. x.process) who in
    let travels : c.reply_travel-travels.result ≡ sent_as_told here =
    c.reply_travel-travels.ensures count k arriving coming h s
    ∙ ap (λ n. sent_as_told (arrival (loses_replies c.args.to.now.who.0 h) n (reply_delay c.args.to.now.who.0 h))) at
    ∙ ap (λ n. sent_as_told (arrival (loses_replies n h) k (reply_delay n h))) (sym same) in
    let held : c.held_up.result ≡ sent_as_told (reply_arrival doc p k h) =
    c.held_up.ensures doc h here each (subst (λ n. n < length c.args.processes.now) same within) travels ∙ ap (λ n. sent_as_told (held_up doc n here)) (sym same) in
    c.in_ok-reply.ensures.ok count k step arriving coming h q call (reply_arrival doc p k h) wrote s who number held (later doc p (loses_replies p h) k (reply_delay p h) (s.delays p).1.0)
