use Rattle.std.proofs.Common.{sym, ap}
use Rattle.kube_objects.specs.CallSlots.{waiting_as, release_of}
use Rattle.kube_objects.proofs.CallFrames.{call_in-unbegun}
use Rattle.kube_objects.proofs.call_slot.CallSlot.new.Goals as goal

pub returns-clause-stands : goal.returns-clause-stands
returns-clause-stands c doc q h none =
    record {
      begun = sym none;
      waiting = ap (waiting_as doc q) (sym (call_in-unbegun q h none));
      ordinary = ap (release_of doc) (call_in-unbegun q h none);
    }
