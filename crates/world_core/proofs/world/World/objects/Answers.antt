use Rattle.history.specs.History.{history}
use Rattle.world_core.proofs.Writing.{answer-writable}
use Rattle.world_core.specs.Worlds.{names_of}
use Rattle.world_core.proofs.world.World.objects.Goals as goal

pub returns-clause-writable : goal.returns-clause-writable
returns-clause-writable c doc k own stands within =
    let store = stands.within.rest.store in
    answer-writable (names_of c.args.self.now) doc k c.len-held.ensures.names own.lawful own.named within c.objects.result c.objects.ensures.ascend (λ key. c.objects.ensures.stored (history doc k) key store)
