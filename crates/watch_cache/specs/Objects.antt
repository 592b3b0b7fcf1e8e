-- What is kept under a key.
use Rattle.std.specs.Prelude.{Option}
use Rattle.kube_base.specs.declared.numbers.Version.{Version}
use Rattle.kube_objects.specs.declared.key.Key.{Key}
use Rattle.kube_objects.specs.declared.object.Object.{Object}
use Rattle.key_map.specs.Values.{value_at}
use Rattle.watch_cache.specs.declared.objects.Objects.{Objects}

abbrev pub object_at : Objects → Key → Option (Version × Object)
object_at objects key = value_at objects.map key
