use Rattle.std.proofs.Common.{Some, subst}
use Rattle.replay_top.specs.Claims.{Claims, IsWell}
use Rattle.kube_replay_c.proofs.kube_replay_run.Goals as goal

pub returns-in-Ok-clause-claims : goal.returns-in-Ok-clause-claims
returns-in-Ok-clause-claims c zero =
    subst (λ words. Claims words (Some c.args.input.now)) c.in-Ok.ensures.words c.run_in_memory-answer.ensures.claims

pub returns-in-Ok-clause-well : goal.returns-in-Ok-clause-well
returns-in-Ok-clause-well c zero =
    subst (λ words. IsWell words (Some c.args.input.now)) c.in-Ok.ensures.words (c.run_in_memory-answer.ensures.well zero)
