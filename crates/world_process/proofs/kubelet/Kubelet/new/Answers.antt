use Rattle.std.proofs.Common.{false, refl, sym, ap, ◌∙◌}
use Rattle.kube_objects.specs.Document.{field, of_millis}
use Rattle.world_process.proofs.kubelet.Kubelet.new.Goals as goal

pub returns-clause-stands : goal.returns-clause-stands
returns-clause-stands c doc p made sort =
    let process = made.process in
    record {
      sort = sort;
      me = made.me;
      incarnation = refl;
      node = ap (λ y. field (λ x. x.name) 0 y) (sym process);
      lease = ap (λ y. y.node_lease_duration_seconds) (sym made.settings);
      timeout = c.picoseconds.ensures.value ∙ ap (λ y. of_millis (field (λ x. x.timeout_millis) 0 y)) (sym process);
      clock = c.in_ok-clock.ensures.clock doc p made;
      pauses = c.in_ok-clock.ensures.pauses doc p made;
      up_first = ap (λ y. field (λ x. x.up) false y) (sym process);
      rounds = refl;
      waking = c.new.ensures c.in_ok-clock.clock;
    }

pub returns-clause-timed : goal.returns-clause-timed
returns-clause-timed c = c.new.ensures c.in_ok-clock.clock
