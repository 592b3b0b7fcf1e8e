use Rattle.std.proofs.Common.{◌≡◌, ◌∙◌, ◌+◌, ◌<◌, ◌^◌, sym, subst, false}
use Rattle.kube_objects.specs.Elector.{leads}
use Rattle.kube_objects.specs.Process.{begun, call_in}
use Rattle.kube_objects.specs.Turns.{expired}
use Rattle.kube_objects.proofs.OwnCalls.{begun-expiry}
use Rattle.leader_elector.proofs.Expiry.{leads-expiry, unreleased-expiry}
use Rattle.leader_elector.proofs.Tries.{turns-tried}
use Rattle.leader_elector.proofs.candidate.Candidate.turn.Goals as goal

pub returns-clause-turns : goal.returns-clause-turns
returns-clause-turns c doc q h k s waits now wall room =
    let e = expired doc k q h in
    let led : leads q e ≡ false = leads-expiry doc k q h (call_in q h) ∙ s.leads in
    let room_now : begun q e + 1 < 2 ^ 64 = subst (λ n. n + 1 < 2 ^ 64) (sym (begun-expiry doc k q h (call_in q h))) room in
    turns-tried doc k q e c.attempt.new.self c.expire-expired.result c.attempt.result led (unreleased-expiry doc k q h (call_in q h) s.unreleased) (c.expire-expired.ensures.settled doc q h k s.elector s.settled now)
    (c.attempt.ensures.history doc q e k (c.expire-expired.ensures.stands doc q h k s.elector s.leads waits now) led (c.expire-expired.ensures.fast doc q h k s.elector s.settled now) now wall room_now)
