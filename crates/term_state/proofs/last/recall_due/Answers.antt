use Rattle.std.proofs.Common.{subst}
use Rattle.term_state.specs.Lasts.{AreDue}
use Rattle.term_state.proofs.Lasting.{due_of_last}
use Rattle.term_state.proofs.last.recall_due.Goals as goal

pub returns-in-Some : goal.returns-in-Some
returns-in-Some c q h version node right sees =
    due_of_last q h version node c.args.pod.now c.in-Some.last c.in-Some.found (subst (AreDue q h) c.in-Some.is right) sees (c.is_of.ensures.node c.if-is_of.true) (c.is_of.ensures.given c.if-is_of.true)
