use Rattle.std.proofs.Common.{◌∙◌, ◌==◌, ◌||◌, refl, ap, sym, arith}
use Rattle.std.proofs.lemmas.Result.{on_ok_weaker}
use Rattle.kube_objects.specs.Seen.{seen_pod}
use Rattle.kube_objects.specs.Stored.{node_key}
use Rattle.watch_cache.specs.Kept.{is_on}
use Rattle.watch_cache.specs.TaintChanges.{taints_in}
use Rattle.watch_cache.specs.Stands.{kept_in}
use Rattle.term_state.specs.ClusterStands.{but_node, no_node, no_pod}
use Rattle.term_state.proofs.Aside.{noted_moved}
use Rattle.term_state.proofs.Sighted.{noted_alike, noted_still, retained_more, sighted_more, sighted_still, touched_after}
use Rattle.term_state.proofs.Widen.{and_not, widen}
use Rattle.term_state.proofs.Writing.{both_ok, ok_always}
use Rattle.term_state.proofs.cluster.Cluster.note_node.Goals as goal

-- the taints changed
pub returns-then-has_new_taints-clause-stands : goal.returns-then-has_new_taints-clause-stands
returns-then-has_new_taints-clause-stands g c q h g' s synced d =
    let name = c.args.name in
    on_ok_weaker c.judge_node.result
    (widen q g' (but_node name (λ n. name == n)) no_node _ no_pod c.judge_node.new.self (λ n is. and_not (name == n)) (λ p is. and_not (is_on name (seen_pod q p g'))))
    (c.judge_node.ensures.stands q g' (λ n. name == n) (λ p. is_on name (seen_pod q p g')) (c.in_ok-write_node.ensures.stands q h g' s d) (d.synced ∙ synced))

pub returns-then-has_new_taints-clause-moved : goal.returns-then-has_new_taints-clause-moved
returns-then-has_new_taints-clause-moved g c q k h g' s beneath d =
    on_ok_weaker c.judge_node.result
    (λ more. noted_moved q h g' c.args.name c.args.version c.args.written d k c.args.self.now c.judge_node.new.self beneath
    (λ n. more n ∙ ap (λ b. (c.args.name == n) || b) (c.in_ok-write_node.ensures.moved n)) s)
    c.judge_node.ensures.moved

pub returns-then-has_new_taints-clause-sights : goal.returns-then-has_new_taints-clause-sights
returns-then-has_new_taints-clause-sights g c doc q k h g' s synced d beneath there sighted =
    let name = c.args.name in
    let old = c.args.self.now in
    let written = c.write_node.new.self in
    let open_pods = c.in_ok-write_node.ensures.stands q h g' s d in
    on_ok_weaker c.judge_node.result
    (λ both. sighted_more old.evict_from doc k q h g' (λ p. is_on name (seen_pod q p g')) old c.judge_node.new.self refl beneath
    (retained_more old written c.judge_node.new.self c.in_ok-write_node.ensures.retained both.0)
    (touched_after (λ p. is_on name (seen_pod q p g')) old written c.judge_node.new.self c.in_ok-write_node.ensures.retained c.in_ok-write_node.ensures.touched both.1)
    (noted_alike q h g' name c.args.version c.args.written d s.kinds) sighted)
    (both_ok c.judge_node.result _ _ c.judge_node.ensures.retained (c.judge_node.ensures.touched q g' (λ n. name == n) (λ p. is_on name (seen_pod q p g')) open_pods (d.synced ∙ synced)))

pub returns-then-has_new_taints-clause-retained : goal.returns-then-has_new_taints-clause-retained
returns-then-has_new_taints-clause-retained g c =
    on_ok_weaker c.judge_node.result (retained_more c.args.self.now c.write_node.new.self c.judge_node.new.self c.in_ok-write_node.ensures.retained) c.judge_node.ensures.retained

pub returns-then-has_new_taints-clause-counted : goal.returns-then-has_new_taints-clause-counted
returns-then-has_new_taints-clause-counted g c q h g' s synced d =
    let name = c.args.name in
    on_ok_weaker c.judge_node.result (λ counted. omega (arith, counted, c.in_ok-write_node.ensures.untouched))
    (c.judge_node.ensures.counted q g' (λ n. name == n) (λ p. is_on name (seen_pod q p g')) (c.in_ok-write_node.ensures.stands q h g' s d) (d.synced ∙ synced))

pub returns-then-has_new_taints-clause-uncounted : goal.returns-then-has_new_taints-clause-uncounted
returns-then-has_new_taints-clause-uncounted g c q h s same =
    let key = node_key c.args.name in
    let kept = ap (λ k. taints_in (kept_in c.args.self.now.cache k)) c.node.ensures ∙ ap taints_in (s.cache.objects key) in
    absurd (c.has_other_taints-has_new_taints.ensures.other c.if-has_new_taints.true (kept ∙ same ∙ sym c.as_slice-taints.ensures))

-- they are as they were
pub returns-clause-stands : goal.returns-clause-stands
returns-clause-stands g c q h g' s synced d =
    let name = c.args.name in
    let same = ap (λ k. taints_in (kept_in c.args.self.now.cache k)) (sym c.node.ensures) ∙ c.has_other_taints-has_new_taints.ensures.same c.if-has_new_taints.false ∙ c.as_slice-taints.ensures in
    on_ok_weaker c.judge_node_alone.result
    (widen q g' (but_node name (λ n. name == n)) no_node no_pod no_pod c.judge_node_alone.new.self (λ n is. and_not (name == n)) (λ p is. is))
    (c.judge_node_alone.ensures.stands q g' (λ n. name == n) no_pod (c.in_ok-write_node.ensures.alone q h g' s d same) (d.synced ∙ synced))

pub returns-clause-moved : goal.returns-clause-moved
returns-clause-moved g c q k h g' s beneath d =
    on_ok_weaker c.judge_node_alone.result
    (λ more. noted_moved q h g' c.args.name c.args.version c.args.written d k c.args.self.now c.judge_node_alone.new.self beneath
    (λ n. more n ∙ ap (λ b. (c.args.name == n) || b) (c.in_ok-write_node.ensures.moved n)) s)
    c.judge_node_alone.ensures.moved

pub returns-clause-sights : goal.returns-clause-sights
returns-clause-sights g c doc q k h g' s synced d beneath there sighted =
    let old = c.args.self.now in
    let written = c.write_node.new.self in
    let same = ap (λ k. taints_in (kept_in c.args.self.now.cache k)) (sym c.node.ensures) ∙ c.has_other_taints-has_new_taints.ensures.same c.if-has_new_taints.false ∙ c.as_slice-taints.ensures in
    ok_always c.judge_node_alone.result _
    (sighted_still old.evict_from doc k q h g' old c.judge_node_alone.new.self refl beneath
    (retained_more old written c.judge_node_alone.new.self c.in_ok-write_node.ensures.retained c.judge_node_alone.ensures.retained)
    (λ key. c.judge_node_alone.ensures.touched key ∙ c.in_ok-write_node.ensures.touched key)
    (noted_still q h g' c.args.name c.args.version c.args.written d s.kinds there (ap taints_in (sym (s.cache.objects (node_key c.args.name))) ∙ same)) sighted)

pub returns-clause-retained : goal.returns-clause-retained
returns-clause-retained g c =
    ok_always c.judge_node_alone.result _ (retained_more c.args.self.now c.write_node.new.self c.judge_node_alone.new.self c.in_ok-write_node.ensures.retained c.judge_node_alone.ensures.retained)
