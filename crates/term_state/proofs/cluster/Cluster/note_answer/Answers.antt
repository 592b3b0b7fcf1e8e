use Rattle.std.proofs.Common.{◌∙◌, ◌+◌, ◌≤◌, Some, None, OnOk, refl, sym, ap, arith, subst}
use Rattle.kube_objects.specs.Newest.{only_if}
use Rattle.kube_objects.specs.Stored.{node_key, node_write, try_write}
use Rattle.tick_laws.specs.Changes.{IsChange, noted, noted_by}
use Rattle.tick_laws.specs.Steps.{own_cost}
use Rattle.term_state.specs.ClusterStands.{no_node, no_pod}
use Rattle.term_state.specs.Sights.{spent}
use Rattle.term_state.specs.Writes.{makes_stale, stale_by}
use Rattle.term_state.proofs.Aside.{refused_moved, same_aside}
use Rattle.term_state.proofs.Sighted.{refusal_alike, retained_self, sighted_same, sighted_still}
use Rattle.term_state.proofs.Writing.{both_ok, ok_always, own_counted, refusal_change, unstale}
use Rattle.term_state.proofs.cluster.Cluster.note_answer.Goals as goal

-- lost
pub returns-in_default-clause-stands : goal.returns-in_default-clause-stands
returns-in_default-clause-stands g c q k h more s m synced beneath change =
    let d0 = subst (λ a. IsChange q h more (noted_by c.args.name c.args.written a) (stale_by c.args.write c.args.name a)) c.in_default.is change in
    let d = subst (λ b. IsChange q h more None b) (unstale c.args.write c.args.name) d0 in
    (same_aside q h more no_node no_pod c.args.self.now d s, refused_moved q h more None d k c.args.self.now c.args.self.now beneath (λ n. refl) m)

pub returns-in_default-clause-sights : goal.returns-in_default-clause-sights
returns-in_default-clause-sights g c doc q k h more s synced beneath change there sighted =
    let d0 = subst (λ a. IsChange q h more (noted_by c.args.name c.args.written a) (stale_by c.args.write c.args.name a)) c.in_default.is change in
    let d = subst (λ b. IsChange q h more None b) (unstale c.args.write c.args.name) d0 in
    sighted_same c.args.self.now.evict_from doc k q h more c.args.self.now beneath d sighted

pub returns-in_default-clause-retained : goal.returns-in_default-clause-retained
returns-in_default-clause-retained g c = retained_self c.args.self.now

-- accepted
pub returns-in-Done-clause-stands : goal.returns-in-Done-clause-stands
returns-in-Done-clause-stands g c q k h more s m synced beneath change =
    let is = c.in-Some.is ∙ ap Some c.in-Done.is in
    let d0 = subst (λ a. IsChange q h more (noted_by c.args.name c.args.written a) (stale_by c.args.write c.args.name a)) is change in
    let d = subst (λ b. IsChange q h more (noted c.args.name c.in-Done.version c.args.written) b) (unstale c.args.write c.args.name) d0 in
    both_ok c.note_node.result _ _ (c.note_node.ensures.stands q h more s synced d) (c.note_node.ensures.moved q k h more m beneath d)

pub returns-in-Done-clause-sights : goal.returns-in-Done-clause-sights
returns-in-Done-clause-sights g c doc q k h more s synced beneath change there sighted =
    let is = c.in-Some.is ∙ ap Some c.in-Done.is in
    let d0 = subst (λ a. IsChange q h more (noted_by c.args.name c.args.written a) (stale_by c.args.write c.args.name a)) is change in
    let d = subst (λ b. IsChange q h more (noted c.args.name c.in-Done.version c.args.written) b) (unstale c.args.write c.args.name) d0 in
    c.note_node.ensures.sights doc q k h more s synced d beneath there sighted

pub returns-in-Done-clause-counted : goal.returns-in-Done-clause-counted
returns-in-Done-clause-counted g c q h more s synced change =
    let is = c.in-Some.is ∙ ap Some c.in-Done.is in
    let d0 = subst (λ a. IsChange q h more (noted_by c.args.name c.args.written a) (stale_by c.args.write c.args.name a)) is change in
    let d = subst (λ b. IsChange q h more (noted c.args.name c.in-Done.version c.args.written) b) (unstale c.args.write c.args.name) d0 in
    let old = spent c.args.self.now c.args.steps.now in
    let new = spent c.note_node.new.self c.note_node.new.steps in
    subst (λ a. OnOk c.note_node.result (new ≤ old + own_cost q h more (try_write (node_write c.args.name c.args.written) a))) (sym is)
    (own_counted q h more c.args.name c.in-Done.version c.args.written c.note_node.result old new d
    (c.note_node.ensures.counted q h more s synced d) (c.note_node.ensures.uncounted q h s))

-- refused
pub returns-in_default-answer : goal.returns-in_default-answer
returns-in_default-answer g c =
    record {
      stands = λ q k h more s m synced beneath change.
          let d0 = subst (λ a. IsChange q h more (noted_by c.args.name c.args.written a) (stale_by c.args.write c.args.name a)) c.in-Some.is change in
          let d = refusal_change q h more c.args.name c.args.written c.args.write c.in-Some.answer c.in_default-answer.not-Done d0 in
          c.note_refusal.ensures.stands q k h more s m beneath (subst (λ b. IsChange q h more None (only_if b (Some (node_key c.args.name)))) (sym c.makes_stale.ensures) d);
      sights = λ doc q k h more s synced beneath change there sighted.
          let d0 = subst (λ a. IsChange q h more (noted_by c.args.name c.args.written a) (stale_by c.args.write c.args.name a)) c.in-Some.is change in
          let d = refusal_change q h more c.args.name c.args.written c.args.write c.in-Some.answer c.in_default-answer.not-Done d0 in
          ok_always c.note_refusal.result _
          (sighted_still c.args.self.now.evict_from doc k q h more c.args.self.now c.note_refusal.new.self refl beneath c.note_refusal.ensures.retained c.note_refusal.ensures.touched
          (refusal_alike q h more c.args.name (makes_stale c.args.write) d) sighted);
      retained = ok_always c.note_refusal.result _ c.note_refusal.ensures.retained;
      counted = λ q h more s synced change. ok_always c.note_refusal.result _ (omega (arith, c.note_refusal.ensures.untouched));
    }
