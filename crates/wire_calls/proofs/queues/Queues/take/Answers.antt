use Rattle.std.proofs.Common.{◌≡◌, [], ◌∙◌, Some, None, sym, ap, rules}
use Rattle.std.specs.VecDeque.{deque_items}
use Rattle.wire_calls.specs.InFlight.{rest_of}
use Rattle.wire_calls.proofs.Beats.{updates-get, emptied-get, change-pending, change-live, items_by, nil-from-length}
use Rattle.wire_calls.proofs.queues.Queues.take.Goals as goal
use borrow.Author.Tests.{eqb-true}

pub returns-then-is_empty-clause-rest : goal.returns-then-is_empty-clause-rest
returns-then-is_empty-clause-rest g c =
    let m = c.args.self.now.beats in
    let w = c.take_first-first.new.queue in
    let n = c.get_mut.follows.lender w in
    let k = c.remove.new.self in
    let u = emptied-get m n k c.args.beat (Some w) (updates-get m n c.args.beat (Some w) ((c.get_mut.follows.holds w).3 (search rules))) (updates-get n k c.args.beat None c.remove.ensures.updates) in
    let empty = nil-from-length (deque_items w) (sym w.ok.0 ∙ eqb-true w.len 0 (sym c.is_empty.ensures ∙ c.if-is_empty.true)) in
    change-pending deque_items m k c.args.beat None rest_of u (sym empty ∙ c.take_first-first.ensures.rest ∙ ap (λ o. rest_of (items_by deque_items o)) c.in_ok-queue.ensures.value)

pub returns-then-is_empty-clause-live : goal.returns-then-is_empty-clause-live
returns-then-is_empty-clause-live g c live =
    let m = c.args.self.now.beats in
    let w = c.take_first-first.new.queue in
    let n = c.get_mut.follows.lender w in
    let k = c.remove.new.self in
    let u = emptied-get m n k c.args.beat (Some w) (updates-get m n c.args.beat (Some w) ((c.get_mut.follows.holds w).3 (search rules))) (updates-get n k c.args.beat None c.remove.ensures.updates) in
    change-live deque_items m k c.args.beat None u tt live

pub returns-else-is_empty-clause-rest : goal.returns-else-is_empty-clause-rest
returns-else-is_empty-clause-rest g c =
    let m = c.args.self.now.beats in
    let w = c.take_first-first.new.queue in
    let n = c.get_mut.follows.lender w in
    let u = updates-get m n c.args.beat (Some w) ((c.get_mut.follows.holds w).3 (search rules)) in
    change-pending deque_items m n c.args.beat (Some w) rest_of u (c.take_first-first.ensures.rest ∙ ap (λ o. rest_of (items_by deque_items o)) c.in_ok-queue.ensures.value)

pub returns-else-is_empty-clause-live : goal.returns-else-is_empty-clause-live
returns-else-is_empty-clause-live g c live =
    let m = c.args.self.now.beats in
    let w = c.take_first-first.new.queue in
    let n = c.get_mut.follows.lender w in
    let u = updates-get m n c.args.beat (Some w) ((c.get_mut.follows.holds w).3 (search rules)) in
    let full : deque_items w ≡ [] → ⊥ = search rules in
    change-live deque_items m n c.args.beat (Some w) u full live
