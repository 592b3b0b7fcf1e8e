use Rattle.std.proofs.Common.{◌≡◌, ◌∙◌, ◌∷◌, ◌+◌, ◌||◌, Some, drop, slice_get, ap, sym, subst, arith}
use Rattle.std.specs.BTreeSet.{contains}
use Rattle.std.specs.Ordering.{nat_cmp}
use Rattle.kube_objects.specs.Feeds.{is_among}
use Rattle.kube_objects.specs.Keys.{key_eq}
use Rattle.kube_objects.specs.Stored.{node_key}
use Rattle.object_store.specs.Stands.{changed_in}
use Rattle.tick_laws.specs.Steps.{write_costs}
use Rattle.term_state.specs.ClusterStands.{has_moved}
use Rattle.term_state.specs.Taking.{is_open}
use Rattle.term_state.proofs.Judging.{moved_nodes}
use Rattle.controller_core.specs.Left.{AreNoted, LeftBut}
use Rattle.controller_core.proofs.Syncing.Noting.{noted_more, retained_more}
use Rattle.controller_core.proofs.Syncing.Rest.{next_drop}
use Rattle.controller_core.proofs.sync.judge.judge_changes.Goals as goal

pub loop-place-preserved : goal.loop-place-preserved
loop-place-preserved g c =
    let keys = changed_in c.args.store.now in
    let place = c.loop-place.place in
    let key = c.in-Some.key in
    let rest = drop (place + 1) keys in
    let is : slice_get keys place ≡ Some key = sym c.change.ensures ∙ c.in-Some.is in
    let split = next_drop keys place key is in
    let names = c.args.to_judge.now in
    let old = c.args.cluster.now in
    let mid = c.loop-place.cluster in
    let new = c.judge.new.cluster in
    record {
      retained = retained_more old mid new c.loop-place.invariant.retained c.in_ok-judge.ensures.retained;
      none = λ q g' s synced added p.
          c.in_ok-judge.ensures.none q g' (λ n. is_among (drop place keys) (node_key n)) (is_open q g' (drop place keys) (contains nat_cmp names)) (c.loop-place.invariant.stands q g' s synced) synced
          (c.loop-place.invariant.retained.from ∙ added) p
          ∙ c.loop-place.invariant.none q g' s synced added p;
      touched = λ q g' s synced seen.
          let left = subst (λ xs. LeftBut q g' xs names mid) split (c.loop-place.invariant.stands q g' s synced) in
          let first = subst (λ xs. AreNoted q g' (drop c.args.position keys) xs names old mid) split (c.loop-place.invariant.touched q g' s synced seen) in
          noted_more q g' (drop c.args.position keys) (key ∷ rest) rest names old mid new first (c.in_ok-judge.ensures.touched q g' rest left synced (c.loop-place.invariant.retained.from ∙ seen));
      stands = λ q g' s synced. c.in_ok-judge.ensures.stands q g' rest (subst (λ xs. LeftBut q g' xs c.args.to_judge.now c.loop-place.cluster) split (c.loop-place.invariant.stands q g' s synced)) synced;
      moved = λ n.
          ap (λ b. is_among rest (node_key n) || b) (c.in_ok-judge.ensures.moved n)
          ∙ moved_nodes (key_eq key (node_key n)) (is_among rest (node_key n)) (has_moved c.loop-place.cluster n)
          ∙ ap (λ xs. is_among xs (node_key n) || has_moved c.loop-place.cluster n) (sym split)
          ∙ c.loop-place.invariant.moved n;
      counted = λ q g' s synced.
          let one = c.in_ok-judge.ensures.counted q g' (λ n. is_among (drop place keys) (node_key n)) (is_open q g' (drop place keys) (contains nat_cmp c.args.to_judge.now)) (c.loop-place.invariant.stands q g' s synced) synced in
          let two = c.loop-place.invariant.counted q g' s synced in
          let costs = ap (write_costs q (contains nat_cmp c.args.to_judge.now) g') split in
          omega (arith, one, two, costs);
    }
