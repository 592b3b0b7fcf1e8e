use Rattle.std.proofs.Common.{◌≡◌, ◌∙◌, false, refl, ap, sym}
use Rattle.kube_objects.specs.Sightings.{sighted_due}
use Rattle.kube_objects.specs.declared.rules.EvictRule.TheVariants.{Seen}
use Rattle.tick_laws.specs.Judged.{due_by, is_by_now, sighted_as}
use Rattle.watch_cache.specs.Told.{found_pair}
use Rattle.term_state.specs.Sights.{due_of_row, is_undue}
use Rattle.term_state.proofs.Closing.{if_none_always}
use Rattle.term_state.proofs.Settling.{row_due, unseen_quiet}
use Rattle.term_state.proofs.cluster.Cluster.eviction_by_row.Goals as goal

pub returns-in_err-given-clause-none : goal.returns-in_err-given-clause-none
returns-in_err-given-clause-none g c doc q h nodes pods s settled synced =
    let key = c.args.key.now in
    let none = sym (c.pod.ensures.seen q h nodes pods s synced) ∙ ap found_pair c.in_err-given.was in
    if_none_always (is_by_now c.args.now.0 (due_by Seen doc q key h) ≡ false) c.from_residual.result
    (ap (λ o. is_by_now c.args.now.0 (sighted_as (is_undue q key h) o (sighted_due doc q key h))) none ∙ unseen_quiet c.args.now.0 (is_undue q key h) (sighted_due doc q key h))

pub returns-clause-some : goal.returns-clause-some
returns-clause-some g c doc q h nodes pods s settled synced = record {
  pod = c.in_ok-given.field-0-1.now;
  no_node = refl;
  sees_pod = sym (c.pod.ensures.seen q h nodes pods s synced) ∙ ap found_pair c.in_ok-given.was;
  at = sym (row_due doc 0 q h c.args.key.now) ∙ ap due_of_row (sym (settled.sights.rows c.args.key.now) ∙ sym c.get.ensures ∙ c.in_ok-row.was);
}
