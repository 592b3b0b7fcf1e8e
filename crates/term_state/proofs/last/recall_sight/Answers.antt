use Rattle.std.proofs.Common.{subst}
use Rattle.term_state.specs.Lasts.{AreBorne}
use Rattle.term_state.proofs.Lasting.{borne_of_last}
use Rattle.term_state.proofs.last.recall_sight.Goals as goal

pub returns-in-Some-clause-borne : goal.returns-in-Some-clause-borne
returns-in-Some-clause-borne c q h version node right sees =
    borne_of_last q h version node c.args.pod.now c.in-Some.last c.in-Some.found (subst (AreBorne q h) c.in-Some.is right) sees (c.is_of.ensures.node c.if-is_of.true) (c.is_of.ensures.given c.if-is_of.true)
