use Rattle.taint_queue.specs.Placed.{place}
use Rattle.taint_queue.specs.Slots.{slots}
use Rattle.taint_queue.proofs.Places.{head_waits, waiter_slot}
use Rattle.taint_queue.proofs.queue.Queue.head.Goals as goal

pub returns-in-Some-clause-first : goal.returns-in-Some-clause-first
returns-in-Some-clause-first c =
    let q = c.args.self.now in
    let P = place q.places in
    let xs = slots q.tree in
    let first = c.in-Some.first in
    let there = c.in-Some.ensures.there in (
      first.at,
      head_waits P xs q.is_kept first there.0 there.1,
      λ other since e.
          let slot = waiter_slot P xs q.has_its_node other since e in
          c.in-Some.ensures.first slot.0 (record { at = since; node = other }) slot.1,
    )
