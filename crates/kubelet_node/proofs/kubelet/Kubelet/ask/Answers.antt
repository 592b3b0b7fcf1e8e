use Rattle.std.proofs.Common.{◌∙◌, ◌+◌, Some, refl, sym, ap}
use Rattle.kube_objects.specs.Entry.{Plain}
use Rattle.kube_objects.proofs.OwnCalls.{call_in-sent}
use Rattle.kubelet_node.specs.Stands.{waiting_in}
use Rattle.kubelet_node.proofs.kubelet.Kubelet.ask.Goals as goal

pub returns-clause-history : goal.returns-clause-history
returns-clause-history c doc q h next k step s now room is =
    record {
      sent = is;
      number = c.begin-number.ensures.number doc q h s.slot room;
      stands = λ arrives. record {
        node = s.node;
        incarnation = s.incarnation;
        lease = s.lease;
        timeout = s.timeout;
        slot = c.begin-number.ensures.stands doc q h k step Plain c.args.request arrives s.slot room now refl;
        waiting = (λ i. Some (record { awaited = c.of.ensures i; late = now i + s.timeout i + 1 })) ∙ sym (ap (waiting_in doc q) (call_in-sent q h k step c.args.request arrives Plain refl));
      };
    }
