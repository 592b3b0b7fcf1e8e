use Rattle.std.proofs.Common.{◌∙◌, ap, cond, None, refl, sym}
use Rattle.node_health.specs.Kept.{is_listed, kept}
use Rattle.node_health.specs.Recorded.{after_others}
use Rattle.node_health.proofs.Seeing.{pass-forgotten}
use Rattle.node_health.proofs.health.Health.forget_others.Goals as goal

pub returns-in-Run-clause-kept : goal.returns-in-Run-clause-kept
returns-in-Run-clause-kept c node =
    c.forget_others.ensures node
    ∙ ap (λ names. cond (is_listed names node) (kept c.args.self.now node) None) c.as_slice.ensures
    ∙ ap (λ r. after_others r (is_listed c.args.nodes.now node) (kept c.args.self.now node)) (sym c.in-Run.is)

pub returns-in-Run-clause-stands : goal.returns-in-Run-clause-stands
returns-in-Run-clause-stands c doc k q h g s found alike =
    pass-forgotten doc k q h g c.args.nodes.now c.args.self.now (record { rule = c.args.self.now.rule; nodes = c.forget_others.new.self }) s found alike refl (returns-in-Run-clause-kept c)

pub returns-in-Record-clause-kept : goal.returns-in-Record-clause-kept
returns-in-Record-clause-kept c node = ap (λ r. after_others r (is_listed c.args.nodes.now node) (kept c.args.self.now node)) (sym c.in-Record.is)

pub returns-in-Record-clause-stands : goal.returns-in-Record-clause-stands
returns-in-Record-clause-stands c doc k q h g s found alike =
    pass-forgotten doc k q h g c.args.nodes.now c.args.self.now c.args.self.now s found alike refl (returns-in-Record-clause-kept c)
