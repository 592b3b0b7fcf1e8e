use Rattle.std.proofs.Common.{◌≡◌, ◌∙◌, true, false, cond, refl, sym, ap, subst, arith}
use Rattle.std.specs.BTreeSet.{Updates, btree_set_len, contains}
use Rattle.kube_objects.specs.declared.key.Key.{Key}
use Rattle.kube_objects.specs.declared.rules.EvictRule.TheVariants as evictions
use Rattle.kube_objects.specs.Keys.{key_cmp, key_eq}
use Rattle.kube_objects.specs.Sightings.{sight}
use Rattle.kube_objects.proofs.KeyOrder.{key_order}
use Rattle.history_laws.proofs.Plainly.{false_is}
use Rattle.evict_queue.specs.Rows.{next_row, row_in}
use Rattle.term_state.specs.ClusterStands.{ClusterStands, no_node, no_pod}
use Rattle.term_state.specs.Sights.{SettledBy, SightedBy}
use Rattle.term_state.proofs.Settling.{begin_settling, empty_len, end_settling, for_rule, next_settling, no_keys, touched_aside, with_touched}
use Rattle.term_state.proofs.cluster.Cluster.settle_rows.Goals as goal

differ : evictions.Seen ≡ evictions.Added → ⊥
differ is = cc

pub loop-pod-init : goal.loop-pod-init
loop-pod-init g c = record {
  from = refl;
  none = λ added out. out;
  stands = λ q h s out. s;
  settling = λ doc k q h s synced seen sighted kept time. begin_settling doc k q h c.args.self.now kept sighted;
  last = λ q h s out synced. tt;
  bounded = tt;
  moved = λ n. refl;
  counted = omega arith;
}

pub loop-pod-preserved : goal.loop-pod-preserved
loop-pod-preserved g c =
    let i = c.loop-pod.invariant in
    let old = c.loop-pod.self in
    let pod = c.in-Some.pod in
    let left = c.pop_first.new.self in
    let popped = with_touched old left in
    let there : contains key_cmp old.touched pod ≡ true = ap (λ cmp. contains cmp old.touched pod) (sym key_order) ∙ c.in-Some.ensures.member in
    let has : (p : Key) → contains key_cmp left p ≡ cond (key_eq pod p) false (contains key_cmp old.touched p) = (subst (λ cmp. Updates cmp old.touched left pod false) key_order c.in-Some.ensures.updates).0 in
    record {
      from = c.set_row.ensures.from ∙ i.from;
      none = λ added out. absurd (false_is (sym (i.none added out pod) ∙ there));
      stands = λ q h s out.
          for_rule (ClusterStands q h c.set_row.new.self) c.args.self.now.evict_from
          (λ added. absurd (false_is (sym (i.none added (out added) pod) ∙ there)))
          (λ seen. c.in_ok-set_row.ensures.stands q h no_node no_pod (touched_aside q h no_node no_pod old left (i.stands q h s out)) (i.from ∙ seen));
      settling = λ doc k q h s synced seen sighted kept time.
          let stands = i.stands q h s (λ added. absurd (differ (sym seen ∙ added))) in
          let aside = touched_aside q h no_node no_pod old left stands in
          next_settling doc k q h pod c.next_row-row.result old popped c.set_row.new.self stands.kinds kept there has (λ key. refl) (λ key. refl) (stands.cache.stale pod)
          (c.next_row-row.ensures
          ∙ ap (λ r. next_row r c.in_ok-sight.sight c.args.wall.0) c.get.ensures
          ∙ ap (λ b. next_row (row_in old.rows pod) b c.args.wall.0) (c.in_ok-sight.ensures.seen q h no_node no_pod aside synced (i.last q h s (λ added. absurd (differ (sym seen ∙ added))) synced))
          ∙ ap (next_row (row_in old.rows pod) (sight q pod h)) time)
          c.in_ok-set_row.ensures.sets (i.settling doc k q h s synced seen sighted kept time);
      last = λ q h s out synced.
          c.in_ok-sight.ensures.last q h no_node no_pod (touched_aside q h no_node no_pod old left (i.stands q h s out)) synced (i.last q h s out synced);
      bounded = c.in_ok-sight.ensures.bounded i.bounded;
      moved = λ n. c.set_row.ensures.moved n ∙ i.moved n;
      counted = omega (arith, i.counted, c.in-Some.ensures.len, c.in_ok-sight.ensures.counted, c.set_row.ensures.counted);
    }

-- where none is left
pub returns-clause-stands : goal.returns-clause-stands
returns-clause-stands g c doc k q h s from sighted =
    touched_aside q h no_node no_pod c.loop-pod.self c.pop_first.new.self
    (c.loop-pod.invariant.stands q h s (λ added. subst (λ rule. SightedBy rule doc k q h c.args.self.now) (sym from ∙ added) sighted))

pub returns-clause-settled : goal.returns-clause-settled
returns-clause-settled g c doc k q h s synced from sighted kept time =
    let i = c.loop-pod.invariant in
    let left = c.pop_first.new.self in
    let new = with_touched c.loop-pod.self left in
    let before = empty_len c.loop-pod.self.touched (λ more. false_is (c.in_default.ensures.variant.1 more)) in
    let after : btree_set_len left ≡ 0 = omega (arith, before, c.in_default.ensures.len) in
    for_rule (SettledBy doc.settings.rules.evict_from doc q h no_pod new) c.args.self.now.evict_from
    (λ added. subst (λ rule. SettledBy rule doc q h no_pod new) (sym added ∙ from) (no_keys left after))
    (λ seen. subst (λ rule. SettledBy rule doc q h no_pod new) (sym seen ∙ from)
    (end_settling doc k q h c.loop-pod.self left before after
    (i.settling doc k q h s synced seen (subst (λ rule. SightedBy rule doc k q h c.args.self.now) (sym from ∙ seen) sighted) kept time)))
