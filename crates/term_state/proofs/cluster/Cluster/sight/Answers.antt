use Rattle.std.proofs.Common.{◌∙◌, Some, ap, sym}
use Rattle.kube_objects.specs.declared.pod.Bears.{Bears}
use Rattle.watch_cache.specs.Told.{found_pair}
use Rattle.term_state.proofs.Settling.{in_reach, placed_sight, unplaced_sight, unseen_sight}
use Rattle.term_state.proofs.cluster.Cluster.sight.Goals as goal

pub returns-in_default-clause-seen : goal.returns-in_default-clause-seen
returns-in_default-clause-seen g c q h nodes pods s synced last =
    sym (unseen_sight q c.args.pod.now h (sym (c.pod.ensures.seen q h nodes pods s synced) ∙ ap found_pair c.in_default.is))

pub returns-in-None-clause-seen : goal.returns-in-None-clause-seen
returns-in-None-clause-seen g c q h nodes pods s synced last =
    let sees = sym (c.pod.ensures.seen q h nodes pods s synced) ∙ ap found_pair c.in-Some.is in
    let none = sym (c.node.ensures q h nodes pods s synced) ∙ ap found_pair c.in-None.is in
    sym (unplaced_sight q c.args.pod.now h (_, c.in-Some.pod.now) sees none)

pub returns-in_ok-bears-in-Some-node-clause-seen : goal.returns-in_ok-bears-in-Some-node-clause-seen
returns-in_ok-bears-in-Some-node-clause-seen g c q h nodes pods s synced last =
    let sees = sym (c.pod.ensures.seen q h nodes pods s synced) ∙ ap found_pair c.in-Some.is in
    let sees_node = sym (c.node.ensures q h nodes pods s synced) ∙ ap found_pair c.in-Some-node.is in
    ap (λ (b : Bears). Some b) (c.in_ok-bears-in-Some-node.ensures.borne q h _ last sees_node) ∙ sym (placed_sight q c.args.pod.now h (_, c.in-Some.pod.now) (_, c.in-Some-node.node.now) sees sees_node)

pub returns-in_ok-bears-in-Some-node-clause-last : goal.returns-in_ok-bears-in-Some-node-clause-last
returns-in_ok-bears-in-Some-node-clause-last g c q h nodes pods s synced last =
    c.in_ok-bears-in-Some-node.ensures.last q h _ last (sym (c.node.ensures q h nodes pods s synced) ∙ ap found_pair c.in-Some-node.is)

pub returns-in_ok-bears-in-Some-node-clause-reach : goal.returns-in_ok-bears-in-Some-node-clause-reach
returns-in_ok-bears-in-Some-node-clause-reach g c bounded = in_reach c.in_ok-bears-in-Some-node.bears (c.in_ok-bears-in-Some-node.ensures.bounded bounded)
