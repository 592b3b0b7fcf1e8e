use Rattle.std.proofs.Common.{refl, ◌∙◌, ◌∷◌, ℕ, ◌<◌, IfSome, sym, ap, subst}
use Rattle.kube_objects.specs.declared.call.Request.{Request}
use Rattle.kube_objects.specs.Entry.{Identity, Sends, entry}
use Rattle.wire_calls.specs.declared.message.Sent.{Sent}
use Rattle.wire_calls.specs.WireStands.{WireStands}
use Rattle.wire_calls.proofs.Sends.{lost-from, beat-from, wire-lost-request, wire-request}
use Rattle.wire_calls.proofs.wire.Wire.send.Goals as goal

as_message : Identity → ℕ → Request → Sent
as_message q number request = record { who = record { 0 = q.process }; incarnation = q.incarnation; number = number; request = request }

pub returns-in-Lost-clause-ok : goal.returns-in-Lost-clause-ok
returns-in-Lost-clause-ok c processes k step arriving coming h q call arrives s by number request told later =
    subst (λ o. WireStands processes k arriving coming (entry k step q (Sends call o) ∷ h) c.args.self.now) (sym (lost-from arrives (sym c.in-Lost.is ∙ told)))
    (wire-lost-request processes k step arriving coming h q call c.args.self.now s)

pub returns-in_ok-push-in-InFlight-clause-ok : goal.returns-in_ok-push-in-InFlight-clause-ok
unfolding as_message
returns-in_ok-push-in-InFlight-clause-ok c processes k step arriving coming h q call arrives s by number request told later =
    let here = beat-from arrives c.in-InFlight.arrives (sym c.in-InFlight.is ∙ told) in
    let after : k < c.in-InFlight.arrives.0 = subst (λ o. IfSome o (λ j. k < j)) here later in
    let message = ap (λ q. as_message q c.args.ask.number c.args.ask.request) (sym by) ∙ ap (λ n. as_message q n c.args.ask.request) (sym number) ∙ ap (λ r. as_message q call.number r) (sym request) in
    wire-request processes k step c.in-InFlight.arrives.0 arriving coming h q call c.args.self.now _ _ _ here s refl refl after message (c.in_ok-push-in-InFlight.ensures.ok s.live_requests) (c.in_ok-push-in-InFlight.ensures.live s.live_requests)
