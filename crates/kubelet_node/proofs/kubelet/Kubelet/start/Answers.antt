use Rattle.std.proofs.Common.{◌∙◌, sym, ap, refl}
use Rattle.kube_objects.specs.Entry.{Starts}
use Rattle.kube_objects.specs.Newest.{has}
use Rattle.kube_objects.proofs.CallFrames.{call_in-unbegun}
use Rattle.kubelet_node.specs.Stands.{waiting_in}
use Rattle.kubelet_node.proofs.Own.{round-unbegun, settled-own, timer-started}
use Rattle.kubelet_node.proofs.kubelet.Kubelet.start.Goals as goal

pub returns-clause-stands : goal.returns-clause-stands
returns-clause-stands c doc q h k step node incarnation lease timeout now none =
    let slot = c.new.ensures.stands doc q h none in
    let idle = call_in-unbegun q h none in
    record {
      call = record {
        node = node;
        incarnation = incarnation;
        lease = lease;
        timeout = timeout;
        slot = record { begun = slot.begun; waiting = slot.waiting; ordinary = slot.ordinary };
        waiting = sym (ap (waiting_in doc q) idle);
      };
      timer = now ∙ sym (timer-started doc q h k step);
      runs = round-unbegun q h none ∙ sym (ap has idle);
      settled = settled-own q h k step Starts (λ n. refl);
    }
