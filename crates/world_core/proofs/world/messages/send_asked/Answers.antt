use Rattle.std.proofs.Common.{◌≤◌, ◌+◌, ◌<◌, ℕ, List, Bool, true, false, IfSome, refl, sym, subst, arith}
use Rattle.kube_objects.specs.Document.{Doc}
use Rattle.kube_objects.specs.Entry.{Entry}
use Rattle.kube_objects.specs.Identities.{identity}
use Rattle.kube_objects.specs.Stalls.{at_store}
use Rattle.kube_objects.specs.Wire.{arrival, request_arrival, request_delay, loses_requests}
use Rattle.kube_objects.proofs.Stalls.{awake_later}
use Rattle.world_core.specs.Worlds.{SendsAsked}
use Rattle.world_core.proofs.world.messages.send_asked.Goals as goal

arrives-later : (doc : Doc) (p k : ℕ) (h : List Entry) → 1 ≤ request_delay p h → IfSome (request_arrival doc p k h) (λ j. k < j)
arrives-later doc p k h least = by_loss (loses_requests p h)
  where
    by_loss : (lost : Bool) → IfSome (at_store doc (arrival lost k (request_delay p h))) (λ j. k < j)
    by_loss true = tt
    by_loss false = omega (arith, least, awake_later doc (k + request_delay p h))

pub returns-in_ok-send-clause-sends : goal.returns-in_ok-send-clause-sends
returns-in_ok-send-clause-sends c =
    let q = identity c.args.who.0 c.args.incarnation in
    let now = c.args.now.0 in
    subst (λ a. SendsAsked now q a c.args.stalls.now c.args.wire.now c.send.new.self) (sym c.in-Some.is)
    (λ doc processes step arriving coming h call stalls stands number request.
    let travels = c.at_store-travels.ensures doc (arrival (loses_requests c.args.who.0 h) now (request_delay c.args.who.0 h)) stalls (c.request_travel.ensures processes now arriving coming h stands) in
    c.in_ok-send.ensures.ok processes now step arriving coming h q call (request_arrival doc q.process now h) stands refl number request travels (arrives-later doc q.process now h (stands.delays q.process).0.0))
