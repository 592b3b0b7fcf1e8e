use Rattle.std.proofs.Common.{◌≡◌, [], sym, ◌∙◌, subst}
use Rattle.history.specs.Steps.{answer_all}
use Rattle.kube_objects.specs.Document.{processes}
use Rattle.world_core.specs.Worlds.{MidBeat}
use Rattle.world_core.proofs.Lists.{none-from}
use Rattle.world_core.proofs.world.World.arrivals.Goals as goal

pub returns-then-not-has_request-clause-stands : goal.returns-then-not-has_request-clause-stands
returns-then-not-has_request-clause-stands c doc k before arriving coming h r known =
    let rest = r.world.rest in
    let is : arriving ≡ [] = none-from arriving (sym (c.has_request.ensures (processes doc) k arriving coming h rest.wire rest.document.at) ∙ c.if-not-has_request.true) in
    subst (λ ss. MidBeat doc k before [] coming (answer_all doc k ss h) c.args.self.now c.args.deeds.now) (sym is)
    (subst (λ ss. MidBeat doc k before ss coming h c.args.self.now c.args.deeds.now) is r)
