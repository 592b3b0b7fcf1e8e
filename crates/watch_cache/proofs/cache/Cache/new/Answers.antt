use Rattle.std.proofs.Common.{refl, ap}
use Rattle.std.specs.List.{list_any}
use Rattle.kube_objects.specs.Keys.{key_eq}
use Rattle.watch_cache.proofs.Frames.{stands_new}
use Rattle.watch_cache.proofs.cache.Cache.new.Goals as goal

pub returns-clause-stands : goal.returns-clause-stands
returns-clause-stands c q h none =
    stands_new q h _ (record { objects = c.new.ensures; stale = λ key. ap (list_any (key_eq key)) c.new-2.ensures.empty; synced = refl; position = refl }) none
