use Rattle.std.proofs.Common.{◌≡◌, ◌∙◌, ◌+◌, ◌||◌, true, false, cond, Some, sym, ap}
use Rattle.kube_objects.specs.Clocks.{local}
use Rattle.kube_objects.specs.Kubelet.{is_post, next_request, round_period, round_timer, send_next}
use Rattle.kube_objects.specs.Turns.{with_reply}
use Rattle.kube_objects.proofs.OwnCalls.{counted-call}
use Rattle.kubelet_node.specs.Moves.{followed}
use Rattle.kubelet_node.specs.Requests.{awaited_in}
use Rattle.kubelet_node.specs.Stands.{waiting_in, waiting_of}
use Rattle.kubelet_node.proofs.Rounds.{asked-stands, call-with_reply, awaited-waiting, counted-accepts, runs-with_reply}
use Rattle.kubelet_node.proofs.kubelet.Kubelet.on_reply.Goals as goal

pub returns-then-not-accepts-clause-counts : goal.returns-then-not-accepts-clause-counts
returns-then-not-accepts-clause-counts c doc q h k call s now wall room is =
    let accepts : c.accepts.result ≡ true = c.accepts.ensures.call doc q h k s.call.slot now s.call.timeout ∙ counted-accepts doc q k c.args.number h call is in
    let refused : c.accepts.result ≡ false = c.if-not-accepts.true in
    absurd (cc)

pub returns-clause-counts : goal.returns-clause-counts
returns-clause-counts c doc q h k call s now wall room is =
    let self = c.args.self.now in
    let reply = c.args.reply in
    let g = with_reply k q call reply h in
    let waits = counted-call doc q k c.args.number h call is in
    let awaited : c.in-Some.waiting.awaited ≡ awaited_in call.request =
    awaited-waiting doc q c.in-Some.waiting call (sym (ap waiting_of c.in-Some.is) ∙ s.call.waiting ∙ ap (waiting_in doc q) waits) in
    let some : next_request doc q k call.request reply ≡ Some c.in-Some-next.request =
    sym (c.next.ensures.history doc q k call.request s.call.node s.call.lease wall awaited) ∙ c.in-Some-next.is in
    let free = c.finish.ensures.delivered doc q h k 3 call reply s.call.slot in
    let asked = c.ask.ensures.history doc q g (followed doc k q call reply h) k 3 (call-with_reply doc k q call reply h self c.finish.new.self s.call free) now room (ap (λ o. send_next doc k q o g) some) in
    let no_post : is_post c.ask.result.request ≡ false = ap is_post c.ask.ensures.asks.request ∙ c.in-Some-next.ensures.kind.2 in
    let timer = ap (λ x. x.timer.0) c.ask.ensures.changed ∙ s.timer ∙ sym (ap (λ b. cond b (local doc q.process k + round_period doc) (round_timer doc q g)) no_post) in
    let runs = runs-with_reply doc k q call reply h c.in-Some-next.request s.runs waits some in
    asked-stands doc k 3 q g (followed doc k q call reply h) c.ask.new.self c.ask.result asked timer (λ i. no_post i || runs i)
