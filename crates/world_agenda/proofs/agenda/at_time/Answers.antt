use Rattle.std.proofs.Common.{◌≤◌, Some, sym, subst, arith}
use Rattle.world_agenda.specs.Woken.{IsTimeBeat}
use Rattle.world_agenda.proofs.Waking.{time-reached}
use Rattle.world_agenda.proofs.agenda.at_time.Goals as goal

pub returns : goal.returns
returns c =
    let at = c.in_ok-at.at in
    let beat = c.in_ok-beat.beat in
    let most : c.shown.result ≤ at = omega (arith, c.shown.ensures) in
    subst (λ x. IsTimeBeat c.args.clock.now x (Some beat)) (sym c.in_ok-at.was)
    (time-reached c.args.clock.now at c.shown.result beat c.in_ok-beat.ensures.first most (omega (arith, c.if-from-at.false, c.from.ensures, c.wall.ensures.value)))
