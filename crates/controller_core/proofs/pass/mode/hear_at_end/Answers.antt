use Rattle.std.proofs.Common.{subst, sym}
use Rattle.kube_objects.specs.Entry.{Mode}
use Rattle.kube_objects.specs.Tick.{add}
use Rattle.node_health.specs.Stands.{HealthStands}
use Rattle.controller_core.proofs.Passing.Moding.{health_on}
use Rattle.controller_core.proofs.pass.mode.hear_at_end.Goals as goal

pub returns-then-not-on : goal.returns-then-not-on
returns-then-not-on c doc k q h s found reading =
    subst (λ b. HealthStands doc q (add k q (Mode b) h) c.reset_probes.new.self) (sym c.if-not-on.true) (c.reset_probes.ensures.stands doc k q h s found reading)

pub returns-else-not-on : goal.returns-else-not-on
returns-else-not-on c doc k q h s found reading =
    subst (λ b. HealthStands doc q (add k q (Mode b) h) c.args.health.now) (sym c.if-not-on.false) (health_on doc k q h c.args.health.now s)
