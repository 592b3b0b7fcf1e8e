use Rattle.node_health.proofs.Seeing.{health-new}
use Rattle.node_health.proofs.health.Health.new.Goals as goal

pub returns-clause-stands : goal.returns-clause-stands
returns-clause-stands c doc q h same none = health-new doc q h (record { rule = c.args.rule; nodes = c.new.result }) same none c.new.ensures
