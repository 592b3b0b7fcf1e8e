use Rattle.std.proofs.Common.{◌∙◌, sym, refl}
use Rattle.kube_objects.specs.Process.{call_in}
use Rattle.kubelet_node.proofs.Rounds.{expired-late, expired-none}
use Rattle.kubelet_node.proofs.kubelet.Kubelet.expire.Goals as goal

pub returns-then-not-expired-clause-history : goal.returns-then-not-expired-clause-history
returns-then-not-expired-clause-history c doc q h k s now =
    expired-none doc k q h c.args.self.now s (sym (c.if-not-expired.ensures.call doc q h k s.call.slot now s.call.timeout))

pub returns-clause-history : goal.returns-clause-history
returns-clause-history c doc q h k s now =
    expired-late doc k q h (call_in q h) c.args.self.now c.finish.new.self c.is_post-posted.result s refl
    (sym (c.expired.ensures.call doc q h k s.call.slot now s.call.timeout) ∙ c.if-not-expired.false)
    (λ call. c.finish.ensures.expired doc q h k 4 call s.call.slot) c.is_post-posted.ensures
