use Rattle.std.proofs.Common.{sym, subst}
use Rattle.world_process.specs.OwnTerm.{IsTermOf}
use Rattle.world_process.proofs.Times.{time-least}
use Rattle.world_process.proofs.controller.Controller.least_due.Goals as goal

pub returns : goal.returns
returns c doc q h w s is =
    let t = subst (IsTermOf doc q h) (sym c.deref.ensures) (s.term.each q.incarnation is.up) in
    time-least doc q h t.begun w c.least_due.result (c.least_due.ensures.there doc q h t.term) (c.least_due.ensures.least doc q h t.term) (c.least_due.ensures.none doc q h t.term)
