use Rattle.std.proofs.Common.{◌≡◌, ◌∙◌, ◌<◌, Bool, true, false, cond, List, [], ◌∷◌, None, Some, refl, sym, ap, subst, length, arith}
use Rattle.std.specs.BTreeMap.{is_at}
use Rattle.std.specs.BTreeSet.{IsLowerBound, Updates, btree_set_len, contains}
use Rattle.std.specs.List.{list_any}
use Rattle.kube_objects.specs.declared.key.Key.{Key}
use Rattle.kube_objects.specs.Keys.{key_cmp, key_eq}
use Rattle.kube_objects.specs.Tick.{evict}
use Rattle.kube_objects.proofs.KeyOrder.{key_order}
use Rattle.history_laws.proofs.Plainly.{false_is}
use Rattle.tick_laws.specs.Judged.{is_by_now, term_due}
use Rattle.tick_laws.specs.Steps.{tick_cost}
use Rattle.controller_core.proofs.Evicting.Walking.{begin_evicting, end_evicting, end_history, evict_costs, is_due, next_evicting}
use Rattle.controller_core.proofs.evict.evict_all.Goals as goal

pub loop-pod-init : goal.loop-pod-init
loop-pod-init g c doc k q before h free r v = (
  h,
  None,
  begin_evicting doc k q before h c.in_ok-todo.todo c.take_due.new.self c.args.store.now c.args.view.now c.args.told.now free
      (record {
        dues = record {
          cluster = c.in_ok-todo.ensures.stands q h r.dues.cluster;
          from = c.take_due.ensures.from ∙ r.dues.from;
          settled = c.in_ok-todo.ensures.settled doc q h r.dues.cluster r.dues.from r.dues.settled;
        };
        moved = λ n out. r.moved n (sym (c.in_ok-todo.ensures.moved n) ∙ out);
        store = r.store;
        told = r.told;
        synced = r.synced;
      })
      v (λ p. c.in_ok-todo.ensures.due doc q h r.dues.cluster r.dues.from r.dues.settled p ∙ ap (λ n. is_by_now n (term_due doc q p h)) v.time),
  omega (arith, c.in_ok-todo.ensures.counted),
)

pub loop-pod-preserved : goal.loop-pod-preserved
loop-pod-preserved g c doc k q before h free r v =
    let i = c.loop-pod.invariant doc k q before h free r v in
    let n = c.in-Some.pod in
    let todo = c.loop-pod.todo in
    let left = c.pop_first.new.self in
    let there : contains key_cmp todo n ≡ true = ap (λ cmp. contains cmp todo n) (sym key_order) ∙ c.in-Some.ensures.member in
    let least : (p : Key) → contains key_cmp todo p ≡ true → _ = subst (λ cmp. IsLowerBound cmp todo n) key_order c.in-Some.ensures.least in
    let has : (p : Key) → contains key_cmp left p ≡ cond (key_eq n p) false (contains key_cmp todo p) = (subst (λ cmp. Updates cmp todo left n false) key_order c.in-Some.ensures.updates).0 in
    let due = is_due doc k q before h i.0 i.1 todo c.loop-pod.cluster c.loop-pod.store c.args.view.now c.loop-pod.told i.2 n there in (
      evict doc k q n i.0,
      Some n,
      next_evicting doc k q before h i.0 i.1 todo c.loop-pod.cluster c.loop-pod.store c.args.view.now c.loop-pod.told i.2 n left c.evict_one.new.cluster c.evict_one.new.store c.evict_one.new.told
          there least has (c.in_ok-evict_one.ensures.stands doc k q before i.0 (λ p. contains key_cmp todo p) i.2.deleting i.2.view due),
      omega (arith, i.3, c.in-Some.ensures.len, c.in_ok-evict_one.ensures.counted, evict_costs doc k q n i.0 due),
    )

empty_any : (f : Key → Bool) (xs : List Key) → (0 < length xs → ⊥) → list_any f xs ≡ false
empty_any f [] h = refl
empty_any f (x ∷ xs) h = absurd (h (omega arith))

empty_len : (xs : List Key) → (0 < length xs → ⊥) → length xs ≡ 0
empty_len [] h = refl
empty_len (x ∷ xs) h = absurd (h (omega arith))

pub returns : goal.returns
returns g c doc k q before h free r v =
    let i = c.loop-pod.invariant doc k q before h free r v in
    let none = λ (p : Key). empty_any (is_at (key_cmp p)) c.loop-pod.todo.keys (λ more. false_is (c.in_default.ensures.variant.1 more)) in
    let same = end_history doc k q before h i.0 i.1 c.loop-pod.todo c.loop-pod.cluster c.loop-pod.store c.args.view.now c.loop-pod.told i.2 none in
    let zero : btree_set_len c.loop-pod.todo ≡ 0 = empty_len c.loop-pod.todo.keys (λ more. false_is (c.in_default.ensures.variant.1 more)) in
    (end_evicting doc k q before h i.0 i.1 c.loop-pod.todo c.loop-pod.cluster c.loop-pod.store c.args.view.now c.loop-pod.told i.2 none, omega (arith, i.3, zero, ap (tick_cost q k) same))
