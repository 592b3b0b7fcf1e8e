use Rattle.std.proofs.Common.{◌≡◌, ◌++◌, sym, ap, ◌∙◌}
use Rattle.kube_objects.specs.Clocks.{local}
use Rattle.kube_objects.specs.Identities.{identity}
use Rattle.history.specs.Printed.{printed}
use Rattle.history.specs.Steps.{restart}
use Rattle.world_process.specs.Moves.{started_deeds, ended_deeds}
use Rattle.world_process.proofs.Readings.{reading-local}
use Rattle.world_process.proofs.controller.Controller.turn.Goals as goal

pub returns-clause-stands : goal.returns-clause-stands
returns-clause-stands c doc n k p h s at delay plain few =
    let r = c.restart-started.ensures.stands doc n k p h s at plain few in
    let now : c.local-now.result.0 ≡ local doc p k = c.local-now.ensures.value ∙ reading-local doc p c.args.beat.0 c.restart-started.new.self.clock r.stands.clock ∙ ap (local doc p) at in
    let t = c.on_timer-turn.ensures.stands doc k p (restart doc k p h) r.stands now delay few in
    let i = c.on_timer-turn.new.self.incarnation in
    record {
      told = t.told
          ∙ ap (λ ds. ds ++ ended_deeds k (identity p i) c.on_timer-turn.result.ended) r.told
          ∙ ap (λ n. printed h ++ started_deeds k (identity p n) c.restart-started.result ++ ended_deeds k (identity p i) c.on_timer-turn.result.ended) (sym c.on_timer-turn.ensures.incarnation);
      asks = t.asks;
    }
