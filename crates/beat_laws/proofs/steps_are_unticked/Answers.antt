use Rattle.beat_laws.proofs.Unticked as unticked
use Rattle.beat_laws.proofs.steps_are_unticked.Goals as goal

pub returns-clause-first : goal.returns-clause-first
returns-clause-first c doc k h = unticked.one_unticked doc k h

pub returns-clause-second : goal.returns-clause-second
returns-clause-second c doc k h = unticked.two_unticked doc k h

pub returns-clause-third : goal.returns-clause-third
returns-clause-third c doc k h = unticked.three_unticked doc k h

pub returns-clause-all : goal.returns-clause-all
returns-clause-all c doc k h = unticked.steps_unticked doc k h
