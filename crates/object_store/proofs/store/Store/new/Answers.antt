use Rattle.object_store.proofs.Keeps.{stands_unwritten}
use Rattle.object_store.proofs.store.Store.new.Goals as goal

pub returns : goal.returns
returns c h none = stands_unwritten h _ (record { objects = c.new.ensures; changes = c.new-2.ensures.items; count = c.new-2.ensures.len }) none
