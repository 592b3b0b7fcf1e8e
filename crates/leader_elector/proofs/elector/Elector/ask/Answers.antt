use Rattle.std.proofs.Common.{◌∙◌, ◌+◌, ◌∷◌, Some, sym, ap, subst}
use Rattle.kube_objects.proofs.OwnCalls.{call_in-sent}
use Rattle.kube_objects.specs.Entry.{Sends, entry}
use Rattle.kube_objects.specs.Wire.{next_call}
use Rattle.leader_elector.specs.Attempts.{attempts_of}
use Rattle.leader_elector.specs.Stands.{AttemptsStand, kind_of, waiting_in}
use Rattle.leader_elector.proofs.Failing.{attempts-sent, trying-sent}
use Rattle.leader_elector.proofs.Own.{waits-kind}
use Rattle.leader_elector.proofs.elector.Elector.ask.Goals as goal

pub returns-clause-history : goal.returns-clause-history
returns-clause-history c doc q h next k step s now room is =
    record {
      kind = kind_of c.args.fast;
      sent = is;
      number = c.begin-number.ensures.number doc q h s.slot room;
      stands = λ arrives. record {
        process = s.process;
        incarnation = s.incarnation;
        timing = s.timing;
        slot = c.begin-number.ensures.stands doc q h k step (kind_of c.args.fast) c.args.request arrives s.slot room now (waits-kind c.args.fast);
        waiting = (λ i. Some (record { request = c.args.request; kind = kind_of c.args.fast; late = now i + s.timing.timeout i + 1 })) ∙ sym (ap (waiting_in doc q) (call_in-sent q h k step c.args.request arrives (kind_of c.args.fast) (waits-kind c.args.fast)));
        shown = s.shown;
        observed = s.observed;
        timer = s.timer;
        attempts =
            subst (AttemptsStand doc q (entry k step q (Sends (next_call q k (kind_of c.args.fast) c.args.request h) arrives) ∷ h)) (sym c.begin.ensures) (attempts-sent doc q h k step (next_call q k (kind_of c.args.fast) c.args.request h) arrives (attempts_of c.args.self.now.attempts) c.args.now.0 now s.attempts);
        tries = λ waits. trying-sent doc q h k step (next_call q k (kind_of c.args.fast) c.args.request h) arrives;
      };
    }
