use Rattle.std.proofs.Common.{subst, sym, refl}
use Rattle.kube_objects.specs.Clocks.{local}
use Rattle.kube_objects.specs.Process.{call_in}
use Rattle.leader_elector.specs.Moves.{IsLeast, candidate_turn}
use Rattle.leader_elector.proofs.Wakes.{turn-least}
use Rattle.leader_elector.proofs.candidate.Candidate.wake.Goals as goal

pub returns-clause-least : goal.returns-clause-least
returns-clause-least c doc q h k s =
    subst (λ n. IsLeast n (local doc q.process k) h (candidate_turn doc k q h)) (sym (c.wake.ensures.history doc q h s.elector)) (turn-least doc k q h (call_in q h) s.elector.slot.ordinary s.settled refl)
