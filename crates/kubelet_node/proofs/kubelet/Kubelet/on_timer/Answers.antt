use Rattle.std.proofs.Common.{◌∙◌, ◌+◌, ◌<◌, ◌^◌, sym, subst}
use Rattle.kube_objects.specs.Process.{begun, call_in}
use Rattle.kube_objects.specs.Turns.{expired}
use Rattle.kube_objects.proofs.OwnCalls.{begun-expiry}
use Rattle.kubelet_node.proofs.Rounds.{status-expiry}
use Rattle.kubelet_node.proofs.kubelet.Kubelet.on_timer.Goals as goal

pub returns-clause-turns : goal.returns-clause-turns
returns-clause-turns c doc q h k s now wall status room =
    let e = expired doc k q h in
    let room_now : begun q e + 1 < 2 ^ 64 = subst (λ n. n + 1 < 2 ^ 64) (sym (begun-expiry doc k q h (call_in q h))) room in
    c.round.ensures.history doc q e k (c.expire-lost.ensures.history doc q h k s now) now wall (status ∙ sym (status-expiry doc k q h (call_in q h))) room_now
