use Rattle.std.proofs.Common.{◌∙◌, Some, OnOk, refl, sym, subst}
use Rattle.kube_objects.specs.declared.call.Answer.TheVariants as answer
use Rattle.kube_objects.specs.Entry.{Delete}
use Rattle.kube_objects.specs.Tick.{add}
use Rattle.tick_laws.proofs.Frames.{delete_change}
use Rattle.term_state.specs.ClusterStands.{but_pod}
use Rattle.controller_core.specs.Deleting.{DuesBut}
use Rattle.controller_core.proofs.Evicting.Settled.{settled_gone, settled_refused, three_ok}
use Rattle.controller_core.proofs.evict.attempt.note.Goals as goal

pub returns-in-Done-clause-stands : goal.returns-in-Done-clause-stands
returns-in-Done-clause-stands c doc k q h given node_given pods s kind due =
    let pod = c.args.pod in
    let at = c.args.eviction.now.due.0 in
    let v = c.in-Done.field-0 in
    let a = Some (answer.Done v) in
    let new = c.note_delete.new.self in
    three_ok c.note_delete.result
    (c.note_delete.ensures.stands q h (add k q (Delete pod given node_given at a) h) pods s.cluster (delete_change q k h pod given node_given at a) kind)
    c.note_delete.ensures.rows
    c.note_delete.ensures.dues
    (λ stands rows dues. subst (λ x. DuesBut doc q (add k q (Delete pod given node_given at x) h) (but_pod pod pods) new) (sym c.in-Some.is)
    (subst (λ x. DuesBut doc q (add k q (Delete pod given node_given at (Some x)) h) (but_pod pod pods) new) (sym c.in-Done.is) (record {
      cluster = stands;
      from = c.note_delete.ensures.from ∙ s.from;
      settled = settled_gone doc k q h pod given node_given at kind pods c.args.cluster.now new c.note_delete.ensures.touched v doc.settings.rules.evict_from rows dues s.settled;
    })))

pub returns-in-Absent-clause-stands : goal.returns-in-Absent-clause-stands
returns-in-Absent-clause-stands c doc k q h given node_given pods s kind due =
    let pod = c.args.pod in
    let at = c.args.eviction.now.due.0 in
    let a = Some answer.Absent in
    let new = c.refuse_pod.new.self in
    three_ok c.refuse_pod.result
    (c.refuse_pod.ensures.stands q h (add k q (Delete pod given node_given at a) h) pods s.cluster (delete_change q k h pod given node_given at a) kind)
    c.refuse_pod.ensures.dues
    c.refuse_pod.ensures.dues
    (λ stands dues same. subst (λ x. DuesBut doc q (add k q (Delete pod given node_given at x) h) (but_pod pod pods) new) (sym c.in-Some.is)
    (subst (λ x. DuesBut doc q (add k q (Delete pod given node_given at (Some x)) h) (but_pod pod pods) new) (sym c.in-Absent.is) (record {
      cluster = stands;
      from = c.refuse_pod.ensures.from ∙ s.from;
      settled = settled_refused doc k q h pod given node_given at kind pods c.args.cluster.now new c.refuse_pod.ensures.touched a doc.settings.rules.evict_from refl refl c.refuse_pod.ensures.rows dues s.settled;
    })))

pub returns-in-Exists-clause-stands : goal.returns-in-Exists-clause-stands
returns-in-Exists-clause-stands c doc k q h given node_given pods s kind due =
    let pod = c.args.pod in
    let at = c.args.eviction.now.due.0 in
    let a = Some answer.Exists in
    let new = c.refuse_pod-in-Exists.new.self in
    three_ok c.refuse_pod-in-Exists.result
    (c.refuse_pod-in-Exists.ensures.stands q h (add k q (Delete pod given node_given at a) h) pods s.cluster (delete_change q k h pod given node_given at a) kind)
    c.refuse_pod-in-Exists.ensures.dues
    c.refuse_pod-in-Exists.ensures.dues
    (λ stands dues same. subst (λ x. DuesBut doc q (add k q (Delete pod given node_given at x) h) (but_pod pod pods) new) (sym c.in-Some.is)
    (subst (λ x. DuesBut doc q (add k q (Delete pod given node_given at (Some x)) h) (but_pod pod pods) new) (sym c.in-Exists.is) (record {
      cluster = stands;
      from = c.refuse_pod-in-Exists.ensures.from ∙ s.from;
      settled = settled_refused doc k q h pod given node_given at kind pods c.args.cluster.now new c.refuse_pod-in-Exists.ensures.touched a doc.settings.rules.evict_from refl refl c.refuse_pod-in-Exists.ensures.rows dues s.settled;
    })))

pub returns-in-Conflict-clause-stands : goal.returns-in-Conflict-clause-stands
returns-in-Conflict-clause-stands c doc k q h given node_given pods s kind due =
    let pod = c.args.pod in
    let at = c.args.eviction.now.due.0 in
    let a = Some (answer.Conflict c.in-Conflict.field-0) in
    let new = c.refuse_pod-in-Conflict.new.self in
    three_ok c.refuse_pod-in-Conflict.result
    (c.refuse_pod-in-Conflict.ensures.stands q h (add k q (Delete pod given node_given at a) h) pods s.cluster (delete_change q k h pod given node_given at a) kind)
    c.refuse_pod-in-Conflict.ensures.dues
    c.refuse_pod-in-Conflict.ensures.dues
    (λ stands dues same. subst (λ x. DuesBut doc q (add k q (Delete pod given node_given at x) h) (but_pod pod pods) new) (sym c.in-Some.is)
    (subst (λ x. DuesBut doc q (add k q (Delete pod given node_given at (Some x)) h) (but_pod pod pods) new) (sym c.in-Conflict.is) (record {
      cluster = stands;
      from = c.refuse_pod-in-Conflict.ensures.from ∙ s.from;
      settled = settled_refused doc k q h pod given node_given at kind pods c.args.cluster.now new c.refuse_pod-in-Conflict.ensures.touched a doc.settings.rules.evict_from refl refl c.refuse_pod-in-Conflict.ensures.rows dues s.settled;
    })))

pub returns-in_default-clause-stands : goal.returns-in_default-clause-stands
returns-in_default-clause-stands c doc k q h given node_given pods s kind due =
    subst (λ x. OnOk c.restore_due.result (DuesBut doc q (add k q (Delete c.args.pod given node_given c.args.eviction.now.due.0 x) h) (but_pod c.args.pod pods) c.restore_due.new.cluster)) (sym c.in_default.is)
    (c.restore_due.ensures.stands doc k q h given node_given pods s kind due)
