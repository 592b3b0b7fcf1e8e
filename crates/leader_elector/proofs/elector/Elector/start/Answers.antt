use Rattle.std.proofs.Common.{◌∙◌, ◌∷◌, sym, ap, subst}
use Rattle.kube_objects.specs.Entry.{Starts, entry}
use Rattle.kube_objects.specs.Newest.{has}
use Rattle.leader_elector.specs.Stands.{AttemptsStand, waiting_in}
use Rattle.leader_elector.proofs.Failing.{attempts-started}
use Rattle.leader_elector.proofs.Own.{timer-started}
use Rattle.leader_elector.proofs.elector.Elector.start.Goals as goal

pub returns-clause-history : goal.returns-clause-history
returns-clause-history c doc q h k step me incarnation timing now new =
    let slot = c.new.ensures.stands doc q h new.begun in
    record {
      process = me;
      incarnation = incarnation;
      timing = timing;
      slot = record { begun = slot.begun; waiting = slot.waiting; ordinary = slot.ordinary };
      waiting = sym (ap (waiting_in doc q) new.call);
      shown = sym new.shown;
      observed = sym new.observed;
      timer = now ∙ sym (timer-started doc q h k step);
      attempts = subst (AttemptsStand doc q (entry k step q Starts ∷ h)) (sym c.new-2.ensures) (attempts-started doc q h k step new);
      tries = λ waits. absurd (cc (ap has new.call, waits));
    }
