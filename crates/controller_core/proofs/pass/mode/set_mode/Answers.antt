use Rattle.std.proofs.Common.{◌≡◌, ◌∙◌, refl, sym, subst, rules}
use Rattle.kube_objects.specs.Entry.{Mode}
use Rattle.kube_objects.specs.Modes.{all_full, mode, nodes}
use Rattle.kube_objects.specs.Tick.{add}
use Rattle.node_health.specs.Stands.{HealthStands}
use Rattle.term_state.specs.ClusterStands.{no_node, no_pod}
use Rattle.term_state.specs.MidTick.{MidTick}
use Rattle.term_state.specs.Sights.{SightedBy}
use Rattle.tick_laws.proofs.Frames.{mode_change}
use Rattle.tick_laws.proofs.Ticked.{own_before}
use Rattle.controller_core.proofs.Passing.Moding.{four_ok, mode_stays, mode_turns, running_after}
use Rattle.controller_core.proofs.pass.mode.set_mode.Goals as goal

pub returns-then-on-mode-clause-stands : goal.returns-then-on-mode-clause-stands
returns-then-on-mode-clause-stands c doc k q before h store running health view found are percent =
    let full : c.all_full-on.result ≡ all_full doc (nodes q h) = c.all_full-on.ensures doc (nodes q h) are percent in
    let same : c.all_full-on.result ≡ c.mode.result = search rules in
    let is = mode_stays doc k q h c.all_full-on.result full (same ∙ c.mode.ensures q h no_node no_pod running.cluster) in
    subst (λ g. MidTick doc q k before g c.args.cluster.now store c.args.told.now × HealthStands doc q g c.args.health.now) (sym is) (running, health)

pub returns-clause-stands : goal.returns-clause-stands
returns-clause-stands c doc k q before h store running health view found are percent =
    let full : c.all_full-on.result ≡ all_full doc (nodes q h) = c.all_full-on.ensures doc (nodes q h) are percent in
    let on = c.all_full-on.result in
    let apart : c.all_full-on.result ≡ c.mode.result → ⊥ = search rules in
    let mode_is : c.mode.result ≡ mode q h = c.mode.ensures q h no_node no_pod running.cluster in
    let is = mode_turns doc k q h on full (λ same. apart (same ∙ sym mode_is)) in
    let more = add k q (Mode on) h in
    let change = mode_change q k h on in
    let beneath = own_before q k (Mode on) h in
    let sights = subst (λ rule. SightedBy rule doc k q h c.args.cluster.now) (sym running.from) running.sights in
    four_ok c.set_mode.result _ _ _ _ _
    (c.set_mode.ensures.stands q h more running.cluster running.synced change)
    (c.set_mode.ensures.moved q k h more running.cluster running.synced running.moved beneath change)
    (c.set_mode.ensures.sights doc q k h more change beneath sights)
    c.set_mode.ensures.retained
    (λ cluster moved sighted retained. subst (λ g. MidTick doc q k before g c.set_mode.new.self store c.add.new.self × HealthStands doc q g c.hear_at_end.new.health) (sym is) (
      running_after doc q k before h on _ c.set_mode.new.self store _ c.add.new.self running cluster retained.from sighted moved (c.in_ok-add.ensures q k before h (Mode on) running.told refl),
      c.hear_at_end.ensures doc k q h health found view.reading,
    ))
