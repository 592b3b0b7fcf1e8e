use Rattle.beat_laws.proofs.Unticked as unticked
use Rattle.beat_laws.proofs.beats_are_unticked.Goals as goal

pub returns-clause-first : goal.returns-clause-first
returns-clause-first c doc = unticked.first_unticked doc

pub returns-clause-next : goal.returns-clause-next
returns-clause-next c doc k h = unticked.beat_unticked doc k h

pub returns-clause-later : goal.returns-clause-later
returns-clause-later c k m h = unticked.unticked_later k m h

pub returns-clause-always : goal.returns-clause-always
returns-clause-always c doc k = unticked.history_unticked doc k
