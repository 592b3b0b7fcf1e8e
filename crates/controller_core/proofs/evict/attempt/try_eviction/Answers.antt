use Rattle.std.proofs.Common.{◌≡◌, IfOk, subst, sym}
use Rattle.controller_core.specs.Deleting.{answered_as}
use Rattle.controller_core.proofs.evict.attempt.try_eviction.Goals as goal

pub returns-in-Some-clause-answer : goal.returns-in-Some-clause-answer
returns-in-Some-clause-answer c q h st passes =
    subst (λ o. IfOk c.try_delete.result (λ answer. answer ≡ answered_as q c.args.pod c.args.eviction.now.given o h)) (sym c.in-Some.is) (c.try_delete.ensures.answer q h st passes)

pub returns-in-None-clause-answer : goal.returns-in-None-clause-answer
returns-in-None-clause-answer c q h st passes =
    subst (λ o. IfOk c.try_delete_alone.result (λ answer. answer ≡ answered_as q c.args.pod c.args.eviction.now.given o h)) (sym c.in-None.is) (c.try_delete_alone.ensures.answer q h st passes)
