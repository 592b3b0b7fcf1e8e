use Rattle.std.proofs.Common.{◌≡◌, [], sym, ◌∙◌, subst}
use Rattle.history.specs.Steps.{deliver_all}
use Rattle.kube_objects.specs.Document.{processes}
use Rattle.world_core.specs.Worlds.{MidBeat}
use Rattle.world_core.proofs.Lists.{none-from}
use Rattle.world_core.proofs.world.World.deliveries.Goals as goal

pub returns-then-not-has_reply-clause-stands : goal.returns-then-not-has_reply-clause-stands
returns-then-not-has_reply-clause-stands c doc k before arriving coming h r known few =
    let rest = r.world.rest in
    let is : coming ≡ [] = none-from coming (sym (c.has_reply.ensures (processes doc) k arriving coming h rest.wire rest.document.at) ∙ c.if-not-has_reply.true) in
    subst (λ bs. MidBeat doc k before arriving [] (deliver_all doc k bs h) c.args.self.now c.args.deeds.now) (sym is)
    (subst (λ bs. MidBeat doc k before arriving bs h c.args.self.now c.args.deeds.now) is r)
