use Rattle.std.proofs.Common.{◌≡◌, ℕ, true, false, ◌&&◌, ◌||◌, ◌==◌, List, [], ◌∷◌, Option, Some, None, IsSome, is_some, refl, ap, ◌∙◌, subst, rules, arith}
use Rattle.std.proofs.lemmas.Bool.Decides.{nat_tests}
use Rattle.kube_objects.specs.declared.key.Key.{Key}
use Rattle.kube_objects.specs.declared.pod.Due.{Due}
use Rattle.kube_objects.specs.declared.pod.Due.TheVariants.{At}
use Rattle.kube_objects.specs.Keys.{key_eq}
use Rattle.evict_queue.specs.Ahead.{Ahead, HasRoomsBut}
use Rattle.evict_queue.specs.Changed.{changed, is_time, sets_time, KeysDiffer}
use Rattle.evict_queue.specs.Held.{due_of, room_of}
use Rattle.evict_queue.specs.declared.dues.Dues.{Dues}
use Rattle.kube_objects.proofs.KeyOrder.{key_itself}
use Rattle.evict_queue.proofs.QueueLaws.{settled_ahead, settled_rooms, settled_same}
use Rattle.evict_queue.proofs.change.settle_all.Goals as goal

itself : (time : ℕ) → (time == time) ≡ true
itself time = grind (arith, nat_tests)

some_room : (o : Option Due) → (is_some o || false) ≡ true → IsSome o
some_room None h = cc
some_room (Some x) h = refl

-- for the first pair of the list there is room, where it sets a due time
first_room : (dues : Dues) (key : Key) (due : Due) (others : List (Key × Due)) → HasRoomsBut dues ((key, due) ∷ others) [] → (time : ℕ) → due ≡ At time → IsSome (room_of dues key)
first_room dues key due others r time is =
    let same : (key_eq key key && is_time time due) ≡ true = ap (λ b. b && is_time time due) (key_itself key) ∙ ap (is_time time) is ∙ itself time in
    some_room (room_of dues key) (r time key (ap (λ b. b || sets_time others time key) same))

pub settle-requires : goal.settle-requires
settle-requires c =
    let split : c.loop-pair.rest.now ≡ c.in-Some.pair.now ∷ c.in-Some.others.now = search rules in
    first_room c.loop-pair.dues c.in-Some.pair.now.0 c.in-Some.pair.now.1 c.in-Some.others.now (subst (λ xs. HasRoomsBut c.loop-pair.dues xs []) split c.loop-pair.invariant.rooms)

pub loop-pair-preserved : goal.loop-pair-preserved
loop-pair-preserved c =
    let old = c.loop-pair.dues in
    let new = c.settle.new.dues in
    let key = c.in-Some.pair.now.0 in
    let due = c.in-Some.pair.now.1 in
    let others = c.in-Some.others.now in
    let split : c.loop-pair.rest.now ≡ c.in-Some.pair.now ∷ c.in-Some.others.now = search rules in
    let differ = subst KeysDiffer split c.loop-pair.invariant.differ in
    let ahead = subst (λ xs. Ahead old c.loop-pair.timed xs) split c.loop-pair.invariant.ahead in
    let rooms = subst (λ xs. HasRoomsBut old xs []) split c.loop-pair.invariant.rooms in
    let same = subst (λ xs. (k : Key) → changed xs (due_of old k) k ≡ changed c.args.list.now (due_of c.args.dues.now k) k) split c.loop-pair.invariant.same in
    record {
      ahead = settled_ahead old new c.loop-pair.timed c.settle.new.timed key due others ahead differ.0 c.settle.ensures.dues c.settle.ensures.timed;
      rooms = settled_rooms old new key due others rooms differ.0 c.settle.ensures.rooms;
      differ = differ.1;
      same = λ k. settled_same key due (due_of old k) (due_of new k) others k differ.0 (c.settle.ensures.dues k) ∙ same k;
    }
