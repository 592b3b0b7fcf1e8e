use Rattle.std.proofs.Common.{◌≡◌, ℕ, ◌≤◌, true, false, Option, Some, None, IfSome, IfNone}
use Rattle.kube_objects.specs.declared.key.Key.{Key}
use Rattle.kube_objects.specs.declared.pod.Due.TheVariants.{Never, At}
use Rattle.evict_queue.specs.Ahead.{InStep}
use Rattle.evict_queue.specs.Held.{due_of, has_entry}
use Rattle.evict_queue.specs.declared.dues.Dues.{Dues}
use Rattle.evict_queue.specs.declared.timed.Timed.{Timed}
use Rattle.evict_queue.proofs.QueueLaws.{has_time, never_due}
use Rattle.evict_queue.proofs.queue.EvictQueue.least.Goals as goal

-- by what the ordered map answers
least_of : (dues : Dues) (timed : Timed) → InStep dues timed → (r : Option ℕ)
    → IfSome r (λ least. (time : ℕ) (key : Key) → has_entry timed time key ≡ true → least ≤ time)
    → IfSome r (λ least. (other : ℕ) (key : Key) → due_of dues key ≡ At other → least ≤ other)
least_of dues timed s None h = h
least_of dues timed s (Some least) h = λ other key is. h other key (has_time dues timed s other key is)

none_of : (dues : Dues) (timed : Timed) → InStep dues timed → (r : Option ℕ)
    → IfNone r ((time : ℕ) (key : Key) → has_entry timed time key ≡ false)
    → IfNone r ((key : Key) → due_of dues key ≡ Never)
none_of dues timed s None h = never_due dues timed s h
none_of dues timed s (Some least) h = h

pub returns-clause-least : goal.returns-clause-least
returns-clause-least c = least_of c.args.self.now.dues c.args.self.now.timed c.args.self.now.in_step c.least.result c.least.ensures.first

pub returns-clause-none : goal.returns-clause-none
returns-clause-none c = none_of c.args.self.now.dues c.args.self.now.timed c.args.self.now.in_step c.least.result c.least.ensures.none
