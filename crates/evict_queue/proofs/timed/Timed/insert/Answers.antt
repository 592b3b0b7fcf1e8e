use Rattle.key_map.proofs.Pairs.{added}
use Rattle.evict_queue.proofs.timed.Timed.insert.Goals as goal

pub returns-clause-ok : goal.returns-clause-ok
returns-clause-ok c = λ d k. added c.args.self.now.set c.insert.new.self (c.args.due, c.args.key) c.in_ok-insert.ensures.updates (d, k)
