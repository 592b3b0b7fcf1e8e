use Rattle.key_map.proofs.Pairs.{taken}
use Rattle.evict_queue.proofs.timed.Timed.remove.Goals as goal

pub returns : goal.returns
returns c = λ d k. taken c.args.self.now.set c.remove.new.self (c.args.due, c.args.key) c.remove.ensures.updates (d, k)
