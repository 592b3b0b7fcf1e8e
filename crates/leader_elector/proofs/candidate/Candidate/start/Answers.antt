use Rattle.std.proofs.Common.{refl}
use Rattle.kube_objects.specs.Entry.{Starts}
use Rattle.leader_elector.proofs.Own.{settled-own}
use Rattle.leader_elector.proofs.candidate.Candidate.start.Goals as goal

pub returns-clause-stands : goal.returns-clause-stands
returns-clause-stands c doc q h k step me incarnation timing now new =
    record {
      elector = c.start.ensures.history doc q h k step me incarnation timing now new;
      settled = settled-own q h k step Starts (λ n. refl);
      leads = new.leads;
      unreleased = new.unreleased;
    }
