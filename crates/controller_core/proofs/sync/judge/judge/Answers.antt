use Rattle.std.proofs.Common.{◌≤◌, ◌+◌, ◌*◌, ◌∷◌, OnOk, ap, sym, subst}
use Rattle.std.proofs.lemmas.Result.{on_ok_weaker}
use Rattle.std.specs.BTreeSet.{contains}
use Rattle.std.specs.Ordering.{nat_cmp}
use Rattle.kube_objects.specs.Feeds.{is_among}
use Rattle.kube_objects.specs.Keys.{key_eq}
use Rattle.kube_objects.specs.Seen.{is_pod}
use Rattle.kube_objects.specs.Stored.{node_key}
use Rattle.tick_laws.specs.Steps.{kind_cost}
use Rattle.term_state.specs.Sights.{spent}
use Rattle.term_state.specs.Taking.{is_open}
use Rattle.controller_core.proofs.Syncing.Noting.{noted_pod, touched_none}
use Rattle.controller_core.proofs.Syncing.Rest.{next_pod}
use Rattle.controller_core.proofs.sync.judge.judge.Goals as goal

pub returns-in-Node-clause-counted : goal.returns-in-Node-clause-counted
returns-in-Node-clause-counted g c q g' nodes pods s synced =
    subst (λ x. OnOk c.judge_node.result (spent c.judge_node.new.cluster c.judge_node.new.steps ≤ spent c.args.cluster.now c.args.steps.now + 2 * kind_cost q (contains nat_cmp c.args.to_judge.now) g' c.args.key.name x)) (sym c.in-Node.is)
    (c.judge_node.ensures.counted q g' nodes pods s synced)

pub returns-in-Pod-clause-touched : goal.returns-in-Pod-clause-touched
returns-in-Pod-clause-touched g c q g' rest s synced seen =
    on_ok_weaker c.judge_pod.result (noted_pod q g' rest c.args.to_judge.now c.args.cluster.now c.judge_pod.new.self c.args.key (ap is_pod c.in-Pod.is) seen) c.judge_pod.ensures.touched

pub returns-in-Pod-clause-none : goal.returns-in-Pod-clause-none
returns-in-Pod-clause-none g c q g' nodes pods s synced added =
    on_ok_weaker c.judge_pod.result (touched_none (λ p. key_eq c.args.key p) c.args.cluster.now c.judge_pod.new.self added) c.judge_pod.ensures.touched

pub returns-in-Pod-clause-stands : goal.returns-in-Pod-clause-stands
returns-in-Pod-clause-stands g c q g' rest s synced =
    let key = c.args.key in
    on_ok_weaker c.judge_pod.result (next_pod q g' key rest c.args.to_judge.now c.judge_pod.new.self (ap is_pod c.in-Pod.is))
    (c.judge_pod.ensures.stands q g' (λ n. is_among (key ∷ rest) (node_key n)) (is_open q g' (key ∷ rest) (contains nat_cmp c.args.to_judge.now)) s synced)
