use Rattle.std.proofs.Common.{◌≡◌, ◌==◌, false, arith}
use Rattle.std.proofs.lemmas.Bool.Decides.{nat_tests}
use Rattle.world_agenda.proofs.Going.{goes-here}
use Rattle.world_agenda.proofs.agenda.goes_at_once.Goals as goal

pub returns-else-at-eq0 : goal.returns-else-at-eq0
returns-else-at-eq0 c doc k h stands end =
    let later : (c.args.at.0 == 0) ≡ false = grind (arith, nat_tests, c.if-at-eq0.false) in
    goes-here doc c.args.who.0 c.args.at.0 c.held_until.result.0 c.args.wakes.now (omega (arith, c.requires.within, end)) c.if-wakes.true later (c.held_until.ensures doc k h stands end)
