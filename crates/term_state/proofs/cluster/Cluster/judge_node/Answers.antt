use Rattle.std.proofs.Common.{◌∙◌, ◌&&◌, ◌||◌, not, ap, arith}
use Rattle.std.proofs.lemmas.Result.{on_ok_weaker}
use Rattle.kube_objects.specs.Feeds.{is_among}
use Rattle.kube_objects.specs.Seen.{seen_pod}
use Rattle.watch_cache.specs.Kept.{is_on}
use Rattle.term_state.specs.ClusterStands.{but_node, but_pods}
use Rattle.term_state.specs.Sights.{has_touched, is_by_sight}
use Rattle.term_state.proofs.Counted.{listed_few}
use Rattle.term_state.proofs.Sighted.{retained_more, touched_after}
use Rattle.term_state.proofs.Widen.{widen}
use Rattle.term_state.proofs.cluster.Cluster.judge_node.Goals as goal

pub returns-clause-stands : goal.returns-clause-stands
returns-clause-stands g c q h nodes pods s synced =
    let keys = c.in_ok-keys.keys in
    let alone = c.in_ok-judge_node_alone.ensures.stands q h nodes pods s synced in
    let listed = c.in_ok-keys.ensures.listed q h (but_node c.args.name nodes) pods alone synced in
    on_ok_weaker c.judge_pods.result
    (widen q h (but_node c.args.name nodes) (but_node c.args.name nodes) (but_pods keys pods) (λ p. pods p && not (is_on c.args.name (seen_pod q p h))) c.judge_pods.new.self
    (λ n is. is) (λ p is. ap (λ b. pods p && not b) (listed.listed p) ∙ is))
    (c.judge_pods.ensures.stands q h (but_node c.args.name nodes) pods alone synced)

pub returns-clause-touched : goal.returns-clause-touched
returns-clause-touched g c q h nodes pods s synced =
    let keys = c.in_ok-keys.keys in
    let old = c.args.self.now in
    let alone = c.judge_node_alone.new.self in
    let left = c.in_ok-judge_node_alone.ensures.stands q h nodes pods s synced in
    let listed = c.in_ok-keys.ensures.listed q h (but_node c.args.name nodes) pods left synced in
    on_ok_weaker c.judge_pods.result
    (λ t p. touched_after (λ p. is_among keys p) old alone c.judge_pods.new.self c.in_ok-judge_node_alone.ensures.retained c.in_ok-judge_node_alone.ensures.touched t p
    ∙ ap (λ b. (is_by_sight old.evict_from && b) || has_touched old p) (listed.listed p))
    c.judge_pods.ensures.touched

pub returns-clause-retained : goal.returns-clause-retained
returns-clause-retained g c =
    on_ok_weaker c.judge_pods.result (retained_more c.args.self.now c.judge_node_alone.new.self c.judge_pods.new.self c.in_ok-judge_node_alone.ensures.retained) c.judge_pods.ensures.retained

pub returns-clause-counted : goal.returns-clause-counted
returns-clause-counted g c q h nodes pods s synced =
    let keys = c.in_ok-keys.keys in
    let alone = c.in_ok-judge_node_alone.ensures.stands q h nodes pods s synced in
    let listed = c.in_ok-keys.ensures.listed q h (but_node c.args.name nodes) pods alone synced in
    let few = listed_few q h c.args.name keys s.kinds listed in
    let one = c.in_ok-keys.ensures.counted q h (but_node c.args.name nodes) pods alone synced in
    on_ok_weaker c.judge_pods.result (λ counted. omega (arith, few, one, counted, c.in_ok-judge_node_alone.ensures.untouched)) c.judge_pods.ensures.counted
