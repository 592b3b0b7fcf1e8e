use Rattle.std.proofs.Common.{◌≡◌, ℕ, ◌≤◌, sym, ◌∙◌, subst, arith}
use Rattle.kube_objects.specs.declared.pod.Due.TheVariants.{At}
use Rattle.evict_queue.specs.Order.{IsNotAfter}
use Rattle.evict_queue.proofs.KeyOrder.{time_of_first}
use Rattle.evict_queue.proofs.QueueLaws.{due_there, has_time, nothing_due}
use Rattle.evict_queue.proofs.queue.EvictQueue.next_due.Goals as goal

pub returns-in-None-clause-none : goal.returns-in-None-clause-none
returns-in-None-clause-none g c = λ time key is. absurd (nothing_due c.args.self.now.dues c.args.self.now.timed c.args.self.now.in_step c.in-None.ensures.none time key is)

pub returns-in-None-clause-counted : goal.returns-in-None-clause-counted
returns-in-None-clause-counted g c = λ time key is. absurd (nothing_due c.args.self.now.dues c.args.self.now.timed c.args.self.now.in_step c.in-None.ensures.none time key is)

pub returns-then-now-time-clause-none : goal.returns-then-now-time-clause-none
returns-then-now-time-clause-none g c = λ time key is.
    let least : c.in-Some.time ≤ time = time_of_first c.in-Some.time time c.in-Some.pod key (c.in-Some.ensures.first time key (has_time c.args.self.now.dues c.args.self.now.timed c.args.self.now.in_step time key is)) in
    omega (arith, c.if-now-time.true)

inner : (a b : ℕ) → At a ≡ At b → a ≡ b
inner a b e = cc

pub returns-else-now-time-clause-first : goal.returns-else-now-time-clause-first
returns-else-now-time-clause-first g c = λ time other key is then.
    let s = c.args.self.now.in_step in
    let mine = due_there c.args.self.now.dues c.args.self.now.timed s c.in-Some.time c.in-Some.pod c.in-Some.ensures.there in
    subst (λ t. IsNotAfter (t, c.in-Some.pod) (other, key)) (inner c.in-Some.time time (sym mine ∙ is))
    (c.in-Some.ensures.first other key (has_time c.args.self.now.dues c.args.self.now.timed s other key then))
