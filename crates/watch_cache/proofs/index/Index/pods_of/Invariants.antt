use Rattle.std.proofs.Common.{◌≡◌, ◌++◌, length}
use Rattle.kube_base.specs.Steps.{counted}
use Rattle.watch_cache.proofs.Lists.{front_of, ranged}
use Rattle.watch_cache.proofs.index.Index.pods_of.Given as goal

abbrev pub invariant-loop-pod : goal.invariant-loop-pod
invariant-loop-pod g l =
    record {
      listed : l.keys ++ front_of l.node l.pod-iterator ≡ front_of l.node (ranged l.node l.self.pods.keys);
      counted : l.steps ≡ counted l.fn.steps (length l.keys);
      can_next : (goal.iterator-loop-pod g).can_next l.pod-iterator;
      is_finite : (goal.iterator-loop-pod g).is_finite l.pod-iterator;
    }
