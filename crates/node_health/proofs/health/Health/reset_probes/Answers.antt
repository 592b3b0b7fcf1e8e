use Rattle.std.proofs.Common.{◌∙◌, ap, cond, option_map, refl, sym}
use Rattle.node_health.specs.Kept.{at_reading, is_listed, kept}
use Rattle.node_health.specs.Recorded.{after_mode}
use Rattle.node_health.proofs.Seeing.{mode-reset}
use Rattle.node_health.proofs.health.Health.reset_probes.Goals as goal

pub returns-in-Run-clause-kept : goal.returns-in-Run-clause-kept
returns-in-Run-clause-kept c node =
    c.reset_probes.ensures node ∙ ap (λ r. after_mode r (is_listed c.args.nodes.now node) c.args.now.0 (kept c.args.self.now node)) (sym c.in-Run.is)

pub returns-in-Run-clause-stands : goal.returns-in-Run-clause-stands
returns-in-Run-clause-stands c doc k q h s found reading =
    mode-reset doc k q h c.args.nodes.now c.args.now.0 c.args.self.now (record { rule = c.args.self.now.rule; nodes = c.reset_probes.new.self }) s found reading refl (returns-in-Run-clause-kept c)

pub returns-in-Record-clause-kept : goal.returns-in-Record-clause-kept
returns-in-Record-clause-kept c node =
    c.reset_these.ensures node
    ∙ ap (λ names. cond (is_listed names node) (option_map (at_reading c.args.now.0) (kept c.args.self.now node)) (kept c.args.self.now node)) c.as_slice.ensures
    ∙ ap (λ r. after_mode r (is_listed c.args.nodes.now node) c.args.now.0 (kept c.args.self.now node)) (sym c.in-Record.is)

pub returns-in-Record-clause-stands : goal.returns-in-Record-clause-stands
returns-in-Record-clause-stands c doc k q h s found reading =
    mode-reset doc k q h c.args.nodes.now c.args.now.0 c.args.self.now (record { rule = c.args.self.now.rule; nodes = c.reset_these.new.self }) s found reading refl (returns-in-Record-clause-kept c)
