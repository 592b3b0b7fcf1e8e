use Rattle.std.proofs.Common.{rules, ◌≡◌, ◌∙◌, ◌==◌, ◌+◌, ℕ, nat_lt, Some, cond}
use Rattle.node_health.specs.Kept.{grace_for, judged, kept}
use Rattle.node_health.specs.Recorded.{after_seen}
use Rattle.node_health.proofs.Seeing.{look-marks, pass-looked}
use Rattle.node_health.proofs.health.Health.look.Goals as goal

pub returns-clause-marks : goal.returns-clause-marks
returns-clause-marks c doc k q h g looked s fresh look =
    let old = c.args.self.now in
    let node = c.args.node in
    let seen = c.args.seen.now in
    let told : c.judge.result ≡ judged seen.ready (nat_lt ((after_seen old.rule (kept old node) seen.ready c.args.lease c.args.now.0).probe.0 + grace_for c.args.grace.now seen.ready) c.args.now.0) = search rules in
    told ∙ look-marks doc k q h g node seen c.args.lease c.args.now.0 c.args.grace.now look looked old s fresh

pub returns-clause-stands : goal.returns-clause-stands
returns-clause-stands c doc k q h g looked s fresh look =
    let old = c.args.self.now in
    let new = c.hear.new.self in
    let node = c.args.node in
    let seen = c.args.seen.now in
    let keeps : (other : ℕ) → kept new other ≡ cond (node == other) (Some (after_seen old.rule (kept old node) seen.ready c.args.lease c.args.now.0)) (kept old other) = search rules in
    pass-looked doc k q h g node seen c.args.lease c.args.now.0 c.args.grace.now look looked old s fresh new c.hear.ensures.rule keeps
