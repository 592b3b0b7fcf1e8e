use Rattle.evict_queue.proofs.KeyOrder.{none_below}
use Rattle.evict_queue.proofs.timed.Timed.first.Goals as goal

pub returns-clause-first : goal.returns-clause-first
returns-clause-first g c = none_below c.args.self.now.set c.in_ok-entry.entry.now c.in_ok-entry.ensures.least
