use Rattle.std.proofs.Common.{subst, sym, IsSome}
use Rattle.kube_objects.specs.Keys.{key_eq}
use Rattle.evict_queue.specs.Held.{room_of}
use Rattle.evict_queue.proofs.KeyOrder.{room_kept, room_same, room_there}
use Rattle.evict_queue.proofs.dues.Dues.make_room.Goals as goal

pub returns-in_ok-insert-in-None-clause-there : goal.returns-in_ok-insert-in-None-clause-there
returns-in_ok-insert-in-None-clause-there c = room_there c.args.self.now.map c.insert.new.self c.args.key c.in_ok-insert-in-None.ensures.put

pub returns-in_ok-insert-in-None-clause-rooms : goal.returns-in_ok-insert-in-None-clause-rooms
returns-in_ok-insert-in-None-clause-rooms c = λ k there.
    subst IsSome (sym (c.in_ok-insert-in-None.ensures.put k)) (room_kept (key_eq c.args.key k) (room_of c.args.self.now k) there)

pub returns-in_ok-insert-in-None-clause-same : goal.returns-in_ok-insert-in-None-clause-same
returns-in_ok-insert-in-None-clause-same c =
    room_same c.args.self.now.map c.insert.new.self c.args.key c.in_ok-insert-in-None.ensures.put (sym c.in-None.ensures)
