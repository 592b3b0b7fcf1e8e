use Rattle.std.proofs.Common.{◌≡◌, ◌<◌, ◌≤◌, sym, ap, ◌∙◌, subst}
use Rattle.kube_objects.specs.Clocks.{local}
use Rattle.world_process.specs.Plain.{IsFew}
use Rattle.world_process.proofs.Readings.{reading-local}
use Rattle.world_process.proofs.Restarts.{restarted-waits, restart-is, restarted-starts, starts-few}
use Rattle.world_process.proofs.controller.Controller.restart.Goals as goal

pub returns-then-local-at-clause-stands : goal.returns-then-local-at-clause-stands
returns-then-local-at-clause-stands c doc n k p h s at plain few =
    let now : c.local.result.0 ≡ local doc p k = c.local.ensures.value ∙ reading-local doc p c.args.beat.0 c.args.self.now.clock s.clock ∙ ap (local doc p) at in
    restarted-waits doc k p h c.args.self.now c.in-Some.at s (sym c.restart_of.ensures ∙ c.in-Some.is) (subst (λ n. n < c.in-Some.at.0) now c.if-local-at.true)

pub returns-clause-stands : goal.returns-clause-stands
returns-clause-stands c doc n k p h s at plain few =
    let now : c.local.result.0 ≡ local doc p k = c.local.ensures.value ∙ reading-local doc p c.args.beat.0 c.args.self.now.clock s.clock ∙ ap (local doc p) at in
    let due = restart-is doc k p h c.args.self.now c.in-Some.at s (sym c.restart_of.ensures ∙ c.in-Some.is) (subst (λ n. c.in-Some.at.0 ≤ n) now c.if-local-at.false) in
    restarted-starts doc k p h c.start.new.self due (c.start.ensures.stands doc n k 4 p h s at plain (starts-few k 4 p h (subst IsFew due few)))
