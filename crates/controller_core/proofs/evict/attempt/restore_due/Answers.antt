use Rattle.std.proofs.Common.{◌≡◌, ◌∙◌, None, ap, sym}
use Rattle.kube_objects.specs.declared.pod.Due.TheVariants.{At}
use Rattle.kube_objects.specs.Entry.{Delete}
use Rattle.kube_objects.specs.Tick.{add}
use Rattle.tick_laws.specs.Judged.{due_by}
use Rattle.tick_laws.proofs.Frames.{delete_change}
use Rattle.tick_laws.proofs.Tried.{same_dues}
use Rattle.term_state.specs.ClusterStands.{but_pod, no_node}
use Rattle.term_state.proofs.Aside.{same_aside}
use Rattle.controller_core.proofs.Evicting.Settled.{settled_same, settled_set, three_ok}
use Rattle.controller_core.proofs.evict.attempt.restore_due.Goals as goal

pub returns-clause-stands : goal.returns-clause-stands
returns-clause-stands c doc k q h given node_given pods s kind due =
    let pod = c.args.pod in
    let at = c.args.eviction.now.due.0 in
    let rule = doc.settings.rules.evict_from in
    let tick = Delete pod given node_given at None in
    let g = add k q tick h in
    let lost = delete_change q k h pod given node_given at None in
    let new = c.set_due.new.self in
    let is : At c.from.result ≡ due_by rule doc q pod h = ap (λ n. At n) c.from.ensures ∙ sym due in
    three_ok c.set_due.result
    (c.set_due.ensures.stands q g no_node pods (same_aside q h g no_node pods c.args.cluster.now lost s.cluster)
    (λ added. is ∙ ap (λ r. due_by r doc q pod h) (sym s.from ∙ added) ∙ sym (same_dues q h g lost pod)))
    c.set_due.ensures.dues
    c.set_due.ensures.dues
    (λ stands dues same. record {
      cluster = stands;
      from = c.set_due.ensures.from ∙ s.from;
      settled = settled_same rule doc k q tick h (but_pod pod pods) new lost
          (settled_set doc k q h pod given node_given at kind pods c.args.cluster.now new c.set_due.ensures.touched rule (At c.from.result) is c.set_due.ensures.rows dues s.settled);
    })
