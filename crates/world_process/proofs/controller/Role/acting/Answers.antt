use Rattle.std.proofs.Common.{◌≡◌, sym, ap, ◌∙◌, subst}
use Rattle.kube_objects.specs.Clocks.{local}
use Rattle.kube_objects.specs.Identities.{identity}
use Rattle.world_process.specs.Controllers.{RoleStands}
use Rattle.world_process.specs.Processes.{leads_if_up}
use Rattle.world_process.proofs.Acting.{candidate-not}
use Rattle.world_process.proofs.Readings.{reading-local}
use Rattle.world_process.proofs.controller.Role.acting.Goals as goal

pub returns-in-Down-clause-leads : goal.returns-in-Down-clause-leads
returns-in-Down-clause-leads c doc k p i h s clock at =
    let was = subst (RoleStands doc p i h) c.in-Down.is s in
    sym (ap (λ o. leads_if_up doc k p o h) was.0)

pub returns-in-Candidate-clause-leads : goal.returns-in-Candidate-clause-leads
returns-in-Candidate-clause-leads c doc k p i h s clock at =
    let was = subst (RoleStands doc p i h) c.in-Candidate.is s in
    sym (ap (λ o. leads_if_up doc k p o h) was.0 ∙ candidate-not doc k (identity p i) h _ was.1)

pub returns-in-Leading-clause-leads : goal.returns-in-Leading-clause-leads
returns-in-Leading-clause-leads c doc k p i h s clock at =
    let now : c.local.result.0 ≡ local doc p k = c.local.ensures.value ∙ reading-local doc p c.args.beat.0 c.args.clock.now clock ∙ ap (local doc p) at in
    let was = subst (RoleStands doc p i h) c.in-Leading.is s in
    c.acting.ensures.acts doc (identity p i) h k was.1 now was.0 ∙ sym (ap (λ o. leads_if_up doc k p o h) was.0)

pub returns-in-Releasing-clause-leads : goal.returns-in-Releasing-clause-leads
returns-in-Releasing-clause-leads c doc k p i h s clock at =
    let was = subst (RoleStands doc p i h) c.in-Releasing.is s in
    c.acting-in-Releasing.ensures.acts doc (identity p i) h k was.1 was.0 ∙ sym (ap (λ o. leads_if_up doc k p o h) was.0)
