use Rattle.std.proofs.Common.{◌≡◌, ◌∙◌, ◌<◌, false, refl, ap, sym, arith}
use Rattle.tick_laws.specs.Judged.{is_by_now, seen_due}
use Rattle.tick_laws.proofs.Tried.{unseen_never}
use Rattle.watch_cache.specs.Told.{found_pair}
use Rattle.term_state.proofs.Closing.{if_none_always, late_due, quiet_pod, unplaced_never}
use Rattle.term_state.proofs.cluster.Cluster.eviction_on_node.Goals as goal

pub returns-in_err-given-clause-none : goal.returns-in_err-given-clause-none
returns-in_err-given-clause-none g c q h nodes pods s synced =
    let none = sym (c.pod.ensures.seen q h nodes pods s synced) ∙ ap found_pair c.in_err-given.was in
    if_none_always (is_by_now c.args.now.0 (seen_due q c.args.key.now h) ≡ false) c.from_residual.result
    (ap (is_by_now c.args.now.0) (unseen_never q c.args.key.now h none))

pub returns-in_err-node_given-clause-none : goal.returns-in_err-node_given-clause-none
returns-in_err-node_given-clause-none g c q h nodes pods s synced =
    let sees = sym (c.pod.ensures.seen q h nodes pods s synced) ∙ ap found_pair c.in_ok-given.was in
    let none = sym (c.node.ensures q h nodes pods s synced) ∙ ap found_pair c.in_err-node_given.was in
    if_none_always (is_by_now c.args.now.0 (seen_due q c.args.key.now h) ≡ false) c.from_residual-in_err-node_given.result
    (ap (is_by_now c.args.now.0) (unplaced_never q c.args.key.now h (c.in_ok-given.given, c.in_ok-given.pod.now) sees none))

pub returns-then-from-at-clause-none : goal.returns-then-from-at-clause-none
returns-then-from-at-clause-none g c q h nodes pods s synced =
    let sees = sym (c.pod.ensures.seen q h nodes pods s synced) ∙ ap found_pair c.in_ok-given.was in
    let sees_node = sym (c.node.ensures q h nodes pods s synced) ∙ ap found_pair c.in_ok-node_given.was in
    let less : c.args.now.0 < c.in-At.at = omega arith in
    quiet_pod c.args.now.0 q c.args.key.now h (c.in_ok-given.given, c.in_ok-given.pod.now) (c.in_ok-node_given.node_given, c.in_ok-node_given.node.now) sees sees_node
    (late_due c.args.now.0 c.in-At.at _ (sym c.due.ensures ∙ c.in-At.is) less)

pub returns-in-Never-clause-none : goal.returns-in-Never-clause-none
returns-in-Never-clause-none g c q h nodes pods s synced =
    let sees = sym (c.pod.ensures.seen q h nodes pods s synced) ∙ ap found_pair c.in_ok-given.was in
    let sees_node = sym (c.node.ensures q h nodes pods s synced) ∙ ap found_pair c.in_ok-node_given.was in
    quiet_pod c.args.now.0 q c.args.key.now h (c.in_ok-given.given, c.in_ok-given.pod.now) (c.in_ok-node_given.node_given, c.in_ok-node_given.node.now) sees sees_node
    (ap (is_by_now c.args.now.0) (sym c.due.ensures ∙ c.in-Never.is))

pub returns-else-from-at-clause-some : goal.returns-else-from-at-clause-some
returns-else-from-at-clause-some g c q h nodes pods s synced = record {
  pod = c.in_ok-given.pod.now;
  node = c.in_ok-node_given.node.now;
  node_given = c.in_ok-node_given.node_given;
  name = refl;
  sees_pod = sym (c.pod.ensures.seen q h nodes pods s synced) ∙ ap found_pair c.in_ok-given.was;
  sees_node = sym (c.node.ensures q h nodes pods s synced) ∙ ap found_pair c.in_ok-node_given.was;
  at = sym c.due.ensures ∙ c.in-At.is;
}
