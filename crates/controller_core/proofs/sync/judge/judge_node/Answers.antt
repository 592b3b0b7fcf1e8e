use Rattle.std.proofs.Common.{◌∙◌, ◌≤◌, ◌+◌, ◌*◌, ◌∷◌, ◌&&◌, OnOk, if◌then◌else◌, not, sym, subst}
use Rattle.std.proofs.lemmas.Result.{on_ok_weaker}
use Rattle.std.specs.BTreeSet.{contains}
use Rattle.std.specs.Ordering.{nat_cmp}
use Rattle.kube_objects.specs.Feeds.{is_among}
use Rattle.kube_objects.specs.Seen.{seen_pod}
use Rattle.kube_objects.specs.Stored.{node_key}
use Rattle.tick_laws.specs.Steps.{pods_on}
use Rattle.watch_cache.specs.Kept.{is_on}
use Rattle.term_state.specs.ClusterStands.{ClusterBut, but_node}
use Rattle.term_state.specs.Sights.{spent}
use Rattle.term_state.specs.Taking.{is_open}
use Rattle.term_state.proofs.Counted.{on_ok_always}
use Rattle.controller_core.specs.Left.{AreNoted}
use Rattle.controller_core.proofs.Syncing.Noting.{noted_alone, noted_node, touched_none}
use Rattle.controller_core.proofs.Syncing.Rest.{next_alone, next_node, node_is}
use Rattle.controller_core.proofs.sync.judge.judge_node.Goals as goal

pub returns-then-contains-clause-stands : goal.returns-then-contains-clause-stands
returns-then-contains-clause-stands g c q g' rest s synced =
    let key = c.args.key in
    let new = c.judge_node.new.self in
    let names = c.args.to_judge.now in
    on_ok_weaker c.judge_node.result
    (λ t. next_node q g' key.name rest names new
    (subst (λ k. ClusterBut q g' (but_node key.name (λ n. is_among (k ∷ rest) (node_key n))) (λ p. is_open q g' (k ∷ rest) (contains nat_cmp names) p && not (is_on key.name (seen_pod q p g'))) new) (node_is key c.requires.kind c.if-key-ne0.false) t))
    (c.judge_node.ensures.stands q g' (λ n. is_among (key ∷ rest) (node_key n)) (is_open q g' (key ∷ rest) (contains nat_cmp names)) s synced)

pub returns-then-contains-clause-counted : goal.returns-then-contains-clause-counted
returns-then-contains-clause-counted g c q g' nodes pods s synced =
    subst (λ there. OnOk c.judge_node.result (spent c.judge_node.new.self c.judge_node.new.steps ≤ spent c.args.cluster.now c.args.steps.now + 2 * (if there then pods_on q c.args.key.name g' else 0)))
    (sym (sym c.contains.ensures ∙ c.if-contains.true))
    (c.judge_node.ensures.counted q g' nodes pods s synced)

pub returns-then-contains-clause-touched : goal.returns-then-contains-clause-touched
returns-then-contains-clause-touched g c q g' rest s synced seen =
    let key = c.args.key in
    let names = c.args.to_judge.now in
    on_ok_weaker c.judge_node.result
    (λ touched. subst (λ k. AreNoted q g' (k ∷ rest) rest names c.args.cluster.now c.judge_node.new.self) (sym (node_is key c.requires.kind c.if-key-ne0.false))
    (noted_node q g' rest names c.args.cluster.now c.judge_node.new.self key.name seen touched))
    (c.judge_node.ensures.touched q g' (λ n. is_among (key ∷ rest) (node_key n)) (is_open q g' (key ∷ rest) (contains nat_cmp names)) s synced)

pub returns-then-contains-clause-none : goal.returns-then-contains-clause-none
returns-then-contains-clause-none g c q g' nodes pods s synced added =
    on_ok_weaker c.judge_node.result (touched_none (λ p. is_on c.args.key.name (seen_pod q p g')) c.args.cluster.now c.judge_node.new.self added) (c.judge_node.ensures.touched q g' nodes pods s synced)

pub returns-clause-touched : goal.returns-clause-touched
returns-clause-touched g c q g' rest s synced seen =
    let key = c.args.key in
    let names = c.args.to_judge.now in
    on_ok_always c.judge_node_alone.result
    (subst (λ k. AreNoted q g' (k ∷ rest) rest names c.args.cluster.now c.judge_node_alone.new.self) (sym (node_is key c.requires.kind c.if-key-ne0.false))
    (noted_alone q g' rest names c.args.cluster.now c.judge_node_alone.new.self key.name (sym c.contains.ensures ∙ c.if-contains.false) c.judge_node_alone.ensures.touched))

pub returns-clause-stands : goal.returns-clause-stands
returns-clause-stands g c q g' rest s synced =
    let key = c.args.key in
    let new = c.judge_node_alone.new.self in
    let names = c.args.to_judge.now in
    on_ok_weaker c.judge_node_alone.result
    (λ t. next_alone q g' key.name rest names new (sym c.contains.ensures ∙ c.if-contains.false)
    (subst (λ k. ClusterBut q g' (but_node key.name (λ n. is_among (k ∷ rest) (node_key n))) (is_open q g' (k ∷ rest) (contains nat_cmp names)) new) (node_is key c.requires.kind c.if-key-ne0.false) t))
    (c.judge_node_alone.ensures.stands q g' (λ n. is_among (key ∷ rest) (node_key n)) (is_open q g' (key ∷ rest) (contains nat_cmp names)) s synced)
