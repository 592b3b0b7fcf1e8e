use Rattle.std.proofs.Common.{◌≡◌, ◌∙◌, true, false, Some, None, ap, sym, rules}
use Rattle.kube_objects.specs.Seen.{is_pod, seen_pod}
use Rattle.kube_objects.specs.Tolerations.{due}
use Rattle.tick_laws.specs.Judged.{due_on, seen_due}
use Rattle.tick_laws.proofs.Tried.{unseen_never}
use Rattle.watch_cache.specs.Stands.{stale_in}
use Rattle.watch_cache.specs.Told.{found_pair}
use Rattle.term_state.proofs.Closing.{unplaced_never}
use Rattle.term_state.proofs.Judging.{judged_due}
use Rattle.term_state.proofs.Lasting.{if_ok_weaker}
use Rattle.term_state.proofs.cluster.Cluster.due.Goals as goal

pub returns-in_default-clause-due : goal.returns-in_default-clause-due
returns-in_default-clause-due g c q h nodes pods s synced last =
    let sees : seen_pod q c.args.key.now h ≡ None = sym (c.pod.ensures.seen q h nodes pods s synced) ∙ ap found_pair c.in_default.is in
    sym (unseen_never q c.args.key.now h sees)

pub returns-in-None-clause-due : goal.returns-in-None-clause-due
returns-in-None-clause-due g c q h nodes pods s synced last =
    let sees = sym (c.pod.ensures.seen q h nodes pods s synced) ∙ ap found_pair c.in-Some.is in
    let none = sym (c.node.ensures q h nodes pods s synced) ∙ ap found_pair c.in-None.is in
    sym (unplaced_never q c.args.key.now h (_, c.in-Some.pod.now) sees none)

pub returns-in-Some-node-clause-due : goal.returns-in-Some-node-clause-due
returns-in-Some-node-clause-due g c q h nodes pods s synced last =
    let kind : is_pod c.args.key.now.kind ≡ true = search rules in
    let fresh : stale_in c.args.self.now.cache c.args.key.now ≡ false = search rules in
    let sees = sym (c.pod.ensures.seen q h nodes pods s synced) ∙ ap found_pair c.in-Some.is in
    let sees_node = sym (c.node.ensures q h nodes pods s synced) ∙ ap found_pair c.in-Some-node.is in
    let is = sym (judged_due q c.args.key.now h (Some (_, c.in-Some.pod.now)) kind (sym (s.cache.stale c.args.key.now) ∙ fresh) sees ∙ ap (due_on c.in-Some.pod.now) sees_node) in
    if_ok_weaker (λ found. found ≡ due c.in-Some.pod.now c.in-Some-node.node.now) (λ found. found ≡ seen_due q c.args.key.now h) c.due_again.result (λ found same. same ∙ is) (c.due_again.ensures.due q h _ last sees_node)

pub returns-in-Some-node-clause-last : goal.returns-in-Some-node-clause-last
returns-in-Some-node-clause-last g c q h nodes pods s synced last =
    c.due_again.ensures.last q h _ last (sym (c.node.ensures q h nodes pods s synced) ∙ ap found_pair c.in-Some-node.is)
