use Rattle.std.proofs.Common.{◌∙◌, ◌*◌, ap, arith}
use Rattle.kube_objects.specs.Document.{of_millis}
use Rattle.controller_core.specs.Working.{kept}
use Rattle.controller_core.proofs.Waking.{period_kept}
use Rattle.controller_core.proofs.pass.work.period_after.Goals as goal

pub returns : goal.returns
returns c all is =
    period_kept (of_millis c.args.settings.now.monitor_period_millis) c.args.settings.now.ready_millis c.args.settings.now.ready_burst all c.args.pods c.saturating_sub-over.result
    c.saturating_mul-work.result c.saturating_add.result (omega (arith)) is (omega (arith, c.saturating_sub-over.ensures, c.from.ensures))
    (c.saturating_mul-work.ensures ∙ ap (λ n. kept (c.saturating_sub-over.result * n)) c.picoseconds.ensures.value) (omega (arith, c.saturating_add.ensures, c.picoseconds-2.ensures.value))
