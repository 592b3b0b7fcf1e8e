use Rattle.std.proofs.Common.{◌≡◌, ◌==◌, false, ◌∷◌, ◌++◌, filter, length, sym, ap, ◌∙◌, arith, rules}
use Rattle.kube_base.specs.Steps.{counted}
use Rattle.kube_objects.specs.contracts.key.KeyOrd.TheImpl as key_ord
use Rattle.watch_cache.proofs.Lists.{first_key, front_ends, front_of, is_from, pods_listed, ranged_is, whole_is}
use Rattle.watch_cache.proofs.Takes.{counted_none}
use Rattle.watch_cache.proofs.index.Index.pods_of.Goals as goal

pub loop-pod-init : goal.loop-pod-init
loop-pod-init g c =
    let n = c.args.node in
    let pods = c.args.self.now.pods.keys in
    let between : c.range-pod-items.result ≡ filter (is_from (key_ord.cmp-value).it first_key n) pods =
    c.range-pod-items.ensures.between tt ∙ ap (λ k. filter (is_from (key_ord.cmp-value).it k n) pods) c.node.ensures in
    let given : c.into_iter-pod-iterator.result ≡ c.range-pod-items.result = search rules in
    record {
      listed = ap (λ ks. ks ++ front_of n c.into_iter-pod-iterator.result) c.new-keys.ensures ∙ ap (front_of n) (given ∙ between ∙ ranged_is n pods);
      counted = counted_none c.args.steps.now (omega (arith, c.count.ensures)) ∙ ap (λ ks. counted c.args.steps.now (length ks)) (sym c.new-keys.ensures);
      can_next = tt;
      is_finite = tt;
    }

pub returns-then-on-node-clause-ascend : goal.returns-then-on-node-clause-ascend
returns-then-on-node-clause-ascend g c =
    let n = c.args.node in
    let p = c.in-Some.pod.now in
    let head : c.loop-pod.pod-iterator ≡ p ∷ c.next.new.self = search rules in
    let other : (p.0 == n) ≡ false = search rules in
    let none = front_ends n p c.next.new.self c.loop-pod.pod-iterator head other in
    (pods_listed n c.args.self.now.pods c.loop-pod.keys c.range-pod-items.ensures.ordered (whole_is c.loop-pod.keys (front_of n c.loop-pod.pod-iterator) _ none c.loop-pod.invariant.listed)).ascend

pub returns-then-on-node-clause-listed : goal.returns-then-on-node-clause-listed
returns-then-on-node-clause-listed g c =
    let n = c.args.node in
    let p = c.in-Some.pod.now in
    let head : c.loop-pod.pod-iterator ≡ p ∷ c.next.new.self = search rules in
    let other : (p.0 == n) ≡ false = search rules in
    let none = front_ends n p c.next.new.self c.loop-pod.pod-iterator head other in
    (pods_listed n c.args.self.now.pods c.loop-pod.keys c.range-pod-items.ensures.ordered (whole_is c.loop-pod.keys (front_of n c.loop-pod.pod-iterator) _ none c.loop-pod.invariant.listed)).listed

pub returns-clause-ascend : goal.returns-clause-ascend
returns-clause-ascend g c =
    let n = c.args.node in
    let none = ap (front_of n) c.in-None.ensures.steps.0 in
    (pods_listed n c.args.self.now.pods c.loop-pod.keys c.range-pod-items.ensures.ordered (whole_is c.loop-pod.keys (front_of n c.loop-pod.pod-iterator) _ none c.loop-pod.invariant.listed)).ascend

pub returns-clause-listed : goal.returns-clause-listed
returns-clause-listed g c =
    let n = c.args.node in
    let none = ap (front_of n) c.in-None.ensures.steps.0 in
    (pods_listed n c.args.self.now.pods c.loop-pod.keys c.range-pod-items.ensures.ordered (whole_is c.loop-pod.keys (front_of n c.loop-pod.pod-iterator) _ none c.loop-pod.invariant.listed)).listed
