use Rattle.std.proofs.Common.{sym, ◌∙◌, subst}
use Rattle.world_process.specs.Controllers.{ControllerStands}
use Rattle.world_process.specs.Kubelets.{KubeletStands}
use Rattle.world_process.specs.declared.process.Process.TheVariants.{Controller, Kubelet}
use Rattle.world_process.specs.Processes.{IsTimed, ProcessStands}
use Rattle.world_process.proofs.Wakes.{beat-same}
use Rattle.world_process.proofs.process.Process.keep_turn_beat.Goals as goal

pub returns-in-Controller-clause-stands : goal.returns-in-Controller-clause-stands
returns-in-Controller-clause-stands c doc p h s =
    let own : ControllerStands doc p h c.in-Controller.controller = subst (ProcessStands doc p h) c.in-Controller.is s in
    record {
      sort = own.sort;
      me = own.me;
      incarnation = own.incarnation;
      timing = own.timing;
      waits = own.waits;
      clock = own.clock;
      up_first = own.up_first;
      role = own.role;
      term = own.term;
      pauses = own.pauses;
      waking = c.keep.ensures.kept own.waking;
    }

pub returns-in-Controller-clause-kept : goal.returns-in-Controller-clause-kept
returns-in-Controller-clause-kept c timed =
    let own : IsTimed (Controller c.in-Controller.controller) = subst IsTimed c.in-Controller.is timed in
    record {
      timed = c.keep.ensures.kept own;
      first = λ doc p h at s is.
          let stood : ControllerStands doc p h c.in-Controller.controller =
          record { sort = s.sort; me = s.me; incarnation = s.incarnation; timing = s.timing; waits = s.waits; clock = s.clock; up_first = s.up_first; role = s.role; term = s.term; pauses = s.pauses; waking = own } in
          beat-same c.in-Controller.controller.clock c.keep.new.self.until c.wake-wake.result at (c.wake-wake.ensures doc p h (subst (ProcessStands doc p h) (sym c.in-Controller.is) stood) ∙ sym is) (c.keep.ensures.found own);
    }

pub returns-in-Kubelet-clause-stands : goal.returns-in-Kubelet-clause-stands
returns-in-Kubelet-clause-stands c doc p h s =
    let own : KubeletStands doc p h c.in-Kubelet.kubelet = subst (ProcessStands doc p h) c.in-Kubelet.is s in
    record {
      sort = own.sort;
      me = own.me;
      incarnation = own.incarnation;
      node = own.node;
      lease = own.lease;
      timeout = own.timeout;
      clock = own.clock;
      up_first = own.up_first;
      rounds = own.rounds;
      pauses = own.pauses;
      waking = c.keep-in-Kubelet.ensures.kept own.waking;
    }

pub returns-in-Kubelet-clause-kept : goal.returns-in-Kubelet-clause-kept
returns-in-Kubelet-clause-kept c timed =
    let own : IsTimed (Kubelet c.in-Kubelet.kubelet) = subst IsTimed c.in-Kubelet.is timed in
    record {
      timed = c.keep-in-Kubelet.ensures.kept own;
      first = λ doc p h at s is.
          let stood : KubeletStands doc p h c.in-Kubelet.kubelet =
          record { sort = s.sort; me = s.me; incarnation = s.incarnation; node = s.node; lease = s.lease; timeout = s.timeout; clock = s.clock; up_first = s.up_first; rounds = s.rounds; pauses = s.pauses; waking = own } in
          beat-same c.in-Kubelet.kubelet.clock c.keep-in-Kubelet.new.self.until c.wake-wake.result at (c.wake-wake.ensures doc p h (subst (ProcessStands doc p h) (sym c.in-Kubelet.is) stood) ∙ sym is) (c.keep-in-Kubelet.ensures.found own);
    }
