use Rattle.evict_queue.proofs.KeyOrder.{member, none_below, time_of_first}
use Rattle.evict_queue.proofs.timed.Timed.least.Goals as goal

pub returns-in-Some-clause-there : goal.returns-in-Some-clause-there
returns-in-Some-clause-there c = (c.in-Some.entry.now.1, member c.args.self.now.set c.in-Some.entry.now c.in-Some.ensures.member)

pub returns-in-Some-clause-first : goal.returns-in-Some-clause-first
returns-in-Some-clause-first c = λ d k there. time_of_first c.in-Some.entry.now.0 d c.in-Some.entry.now.1 k (none_below c.args.self.now.set c.in-Some.entry.now c.in-Some.ensures.least d k there)
