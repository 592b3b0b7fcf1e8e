use Rattle.beat_laws.proofs.Unticked as unticked
use Rattle.beat_laws.proofs.turns_are_unticked.Goals as goal

pub returns-clause-electing : goal.returns-clause-electing
returns-clause-electing c doc k p turning h = unticked.elector_unticked doc k p turning h

pub returns-clause-own : goal.returns-clause-own
returns-clause-own c doc k p h = unticked.turn_unticked doc k p h

pub returns-clause-below : goal.returns-clause-below
returns-clause-below c doc k n h = unticked.turns_unticked doc k n h

pub returns-clause-always : goal.returns-clause-always
returns-clause-always c doc p k = unticked.at_turn_unticked doc p k
