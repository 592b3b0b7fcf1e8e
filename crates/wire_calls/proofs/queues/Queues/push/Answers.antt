use Rattle.std.proofs.Common.{◌==◌, ◌∷◌, [], ◌++◌, ◌∙◌, Some, Result, Ok, Err, OnErr, sym, ap, subst, rules}
use Rattle.kube_base.specs.contracts.numbers.BeatOrd.TheImpl as beat_ord
use Rattle.std.specs.BTreeMap.{Updates}
use Rattle.std.specs.VecDeque.{deque_items}
use Rattle.wire_calls.proofs.Beats.{updates-get, change-pending, change-live, items_by, pending_by, IsLive, either, never-empty}
use Rattle.wire_calls.proofs.queues.Queues.push.Goals as goal

on-err : {A E : Type 0} {P : Type 0} (r : Result A E) → P → OnErr r P
on-err (Ok x) p = tt
on-err (Err e) p = p

pub returns-in_err-push_back-clause-err : goal.returns-in_err-push_back-clause-err
returns-in_err-push_back-clause-err g c =
    let m = c.args.self.now.beats in
    let w = c.push_back.new.self in
    let u = updates-get m (c.get_mut.follows.lender w) c.args.beat (Some w) ((c.get_mut.follows.holds w).3 (search rules)) in
    on-err c.from_residual.result
    (λ j. change-pending deque_items m (c.get_mut.follows.lender w) c.args.beat (Some w) (λ xs. xs) u (c.in_err-push_back.ensures.items ∙ ap (items_by deque_items) c.in-Some.ensures.value) j
    ∙ either (c.args.beat.0 == j) (pending_by deque_items m j))

pub returns-in_err-push_back-clause-live : goal.returns-in_err-push_back-clause-live
returns-in_err-push_back-clause-live g c live =
    let m = c.args.self.now.beats in
    let w = c.push_back.new.self in
    let u = updates-get m (c.get_mut.follows.lender w) c.args.beat (Some w) ((c.get_mut.follows.holds w).3 (search rules)) in
    let full = subst (IsLive deque_items) (sym c.in-Some.ensures.value) (live c.args.beat.0) in
    change-live deque_items m (c.get_mut.follows.lender w) c.args.beat (Some w) u (λ e. full (sym c.in_err-push_back.ensures.items ∙ e)) live

pub returns-in-Some-clause-ok : goal.returns-in-Some-clause-ok
returns-in-Some-clause-ok g c =
    let m = c.args.self.now.beats in
    let w = c.push_back.new.self in
    let u = updates-get m (c.get_mut.follows.lender w) c.args.beat (Some w) ((c.get_mut.follows.holds w).3 (search rules)) in
    change-pending deque_items m (c.get_mut.follows.lender w) c.args.beat (Some w) (λ xs. xs ++ c.args.message ∷ []) u (c.in_ok-push_back.ensures.items ∙ ap (λ o. items_by deque_items o ++ c.args.message ∷ []) c.in-Some.ensures.value)

pub returns-in-Some-clause-live : goal.returns-in-Some-clause-live
returns-in-Some-clause-live g c live =
    let m = c.args.self.now.beats in
    let w = c.push_back.new.self in
    let u = updates-get m (c.get_mut.follows.lender w) c.args.beat (Some w) ((c.get_mut.follows.holds w).3 (search rules)) in
    change-live deque_items m (c.get_mut.follows.lender w) c.args.beat (Some w) u (λ e. never-empty (deque_items c.in-Some.queue.now) c.args.message (sym c.in_ok-push_back.ensures.items ∙ e)) live

pub returns-clause-ok : goal.returns-clause-ok
returns-clause-ok g c =
    let m = c.args.self.now.beats in
    let n = c.insert.new.self in
    let w = c.push_back-2.new.self in
    let u = updates-get m n c.args.beat (Some w) (subst (λ m. Updates (beat_ord.cmp-value).it m n c.args.beat (Some w)) (c.empty_queue-queue.ensures.same ∙ c.get_mut.follows.holds-at-none) c.in_ok-insert.ensures.updates) in
    change-pending deque_items m n c.args.beat (Some w) (λ xs. xs ++ c.args.message ∷ []) u (c.in_ok-push_back-2.ensures.items ∙ ap (λ xs. xs ++ c.args.message ∷ []) (c.empty_queue-queue.ensures.empty ∙ ap (items_by deque_items) c.in_default.ensures.value))

pub returns-clause-live : goal.returns-clause-live
returns-clause-live g c live =
    let m = c.args.self.now.beats in
    let n = c.insert.new.self in
    let w = c.push_back-2.new.self in
    let u = updates-get m n c.args.beat (Some w) (subst (λ m. Updates (beat_ord.cmp-value).it m n c.args.beat (Some w)) (c.empty_queue-queue.ensures.same ∙ c.get_mut.follows.holds-at-none) c.in_ok-insert.ensures.updates) in
    change-live deque_items m n c.args.beat (Some w) u (λ e. never-empty (deque_items c.empty_queue-queue.result) c.args.message (sym c.in_ok-push_back-2.ensures.items ∙ e)) live
