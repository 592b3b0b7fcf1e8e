use Rattle.evict_queue.proofs.QueueLaws.{settled_never}
use Rattle.evict_queue.proofs.queue.EvictQueue.cancel.Goals as goal

pub invariant_of-self : goal.invariant_of-self
invariant_of-self c =
    let self = c.args.self.now in
    record { in_step = settled_never self.dues c.settle.new.dues self.timed c.settle.new.timed c.args.pod.now self.in_step c.settle.ensures.dues c.settle.ensures.timed }
