use Rattle.std.proofs.Common.{sym, subst}
use Rattle.world_process.specs.OwnTerm.{IsTermOf}
use Rattle.world_process.proofs.Times.{reading-is}
use Rattle.world_process.proofs.controller.Controller.term_wake.Goals as goal

pub returns : goal.returns
returns c doc q h s is =
    let t = subst (IsTermOf doc q h) (sym c.deref.ensures) (s.term.each q.incarnation is.up) in
    reading-is doc q h t.begun c.wake.result (c.wake.ensures.none doc q h t.term) (c.wake.ensures.some doc q h t.term) (c.wake.ensures.reading doc q h t.term)
