-- What a feed shows.
use Rattle.std.specs.Prelude.{Bool, List, Option, Some, None}
use Rattle.std.specs.List.{list_any}
use Rattle.std.specs.Borrow.{Bor}
use Rattle.kube_base.specs.declared.numbers.Version.{Version}
use Rattle.kube_objects.specs.declared.key.Key.{Key}
use Rattle.kube_objects.specs.declared.object.Object.{Object}
use Rattle.kube_objects.specs.Keys.{key_eq}

-- what a look-up shows, without where it lies
abbrev pub shown_pair : Option (Version × Bor Object) → Option (Version × Object)
shown_pair None = None
shown_pair (Some p) = Some (p.0, p.1.now)

-- what is shown under a key, where there is a key
abbrev pub shown_at : (Key → Option (Version × Object)) → Option Key → Option (Version × Object)
shown_at shown None = None
shown_at shown (Some key) = shown key

-- whether a key stands among these
abbrev pub is_among : List Key → Key → Bool
is_among keys key = list_any (λ k. key_eq k key) keys
