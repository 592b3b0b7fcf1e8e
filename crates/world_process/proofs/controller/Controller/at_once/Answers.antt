use Rattle.std.proofs.Common.{sym, subst}
use Rattle.world_process.specs.OwnTerm.{IsTermOf}
use Rattle.world_process.proofs.Times.{at-once-is}
use Rattle.world_process.proofs.controller.Controller.at_once.Goals as goal

pub returns : goal.returns
returns c doc q h s store watch is =
    let t = subst (IsTermOf doc q h) (sym c.deref.ensures) (s.term.each q.incarnation is.up) in
    at-once-is doc q h t.begun c.at_once.result (c.at_once.ensures.quiet doc q h t.term store watch) (c.at_once.ensures.busy doc q h t.term store watch)
