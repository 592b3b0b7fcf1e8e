use Rattle.std.proofs.Common.{◌≤◌, false, [], length, refl, sym, ap, ◌∙◌, subst}
use Rattle.kube_objects.specs.Document.{field, of_millis}
use Rattle.kube_objects.specs.Identities.{identity}
use Rattle.history_laws.proofs.Plainly.{none_is}
use Rattle.world_process.specs.OwnTerm.{OwnsTerm}
use Rattle.world_process.proofs.controller.Controller.new.Goals as goal

pub returns-clause-stands : goal.returns-clause-stands
returns-clause-stands c doc p made sort waits =
    let process = made.process in
    record {
      sort = sort;
      me = made.me;
      incarnation = refl;
      timing = record {
        lease = ap (λ y. field (λ x. x.lease_seconds) 0 y) (sym process);
        renew = c.picoseconds.ensures.value ∙ ap (λ y. of_millis (field (λ x. x.renew_millis) 0 y)) (sym process);
        retry = c.picoseconds-2.ensures.value ∙ ap (λ y. of_millis (field (λ x. x.retry_millis) 0 y)) (sym process);
        timeout = c.picoseconds-3.ensures.value ∙ ap (λ y. of_millis (field (λ x. x.timeout_millis) 0 y)) (sym process);
        fast = ap (λ y. y.fast_renew) (sym made.settings);
        retries = ap (λ y. y.rules.retries) (sym made.settings);
        respect = ap (λ y. y.rules.respect) (sym made.settings);
        release = ap (λ y. y.rules.release) (sym made.settings);
        in_release = ap (λ y. y.rules.in_release) (sym made.settings);
      };
      waits = record { are = c.in_ok-copy.ensures ∙ waits; some = subst (λ ws. 1 ≤ length ws) (sym c.in_ok-copy.ensures) c.requires.waits.some };
      clock = c.in_ok-clock.ensures.clock doc p made;
      pauses = c.in_ok-clock.ensures.pauses doc p made;
      up_first = ap (λ y. field (λ x. x.up) false y) (sym process);
      role = (refl, refl);
      term = subst (OwnsTerm doc p []) (sym c.in_ok-new.ensures.ok)
          (record { settings = (c.new-term.ensures doc (identity p 0) [] refl refl (c.tick_settings.ensures.stands doc made.settings)).parts.settings; each = λ i up. absurd (none_is i up) });
      waking = c.new-2.ensures c.in_ok-clock.clock;
    }

pub returns-clause-timed : goal.returns-clause-timed
returns-clause-timed c = c.new-2.ensures c.in_ok-clock.clock
