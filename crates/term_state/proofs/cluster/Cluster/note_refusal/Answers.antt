use Rattle.std.proofs.Common.{Some, None, refl, subst}
use Rattle.kube_objects.specs.Newest.{only_if}
use Rattle.kube_objects.specs.Stored.{node_key}
use Rattle.tick_laws.specs.Changes.{IsChange}
use Rattle.term_state.specs.ClusterStands.{no_node, no_pod}
use Rattle.term_state.proofs.Aside.{refused_moved, same_aside}
use Rattle.term_state.proofs.Writing.{both_ok}
use Rattle.term_state.proofs.cluster.Cluster.note_refusal.Goals as goal

pub returns-then-stale-clause-stands : goal.returns-then-stale-clause-stands
returns-then-stale-clause-stands c q k h more s m beneath change =
    let d = subst (λ b. IsChange q h more None (only_if b (Some (node_key c.args.name)))) c.if-stale.true change in
    both_ok c.refuse_node.result _ _ (c.refuse_node.ensures.stands q h more s d) (c.refuse_node.ensures.moved q k h more m beneath d)

pub returns-clause-stands : goal.returns-clause-stands
returns-clause-stands c q k h more s m beneath change =
    let d = subst (λ b. IsChange q h more None (only_if b (Some (node_key c.args.name)))) c.if-stale.false change in
    (same_aside q h more no_node no_pod c.args.self.now d s, refused_moved q h more None d k c.args.self.now c.args.self.now beneath (λ n. refl) m)
