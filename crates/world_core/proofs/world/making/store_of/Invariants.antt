use Rattle.std.proofs.Common.{◌≡◌, [], take}
use Rattle.kube_objects.specs.Document.{Doc}
use Rattle.history.specs.History.{put_all}
use Rattle.object_store.specs.Stands.{StoreStands}
use Rattle.world_core.proofs.world.making.store_of.Given as goal

abbrev pub invariant-loop-item : goal.invariant-loop-item
invariant-loop-item l = (doc : Doc) → doc.settings.epoch ≡ l.epoch → StoreStands (put_all doc (take l.item-index l.item-items) []) l.store
