-- The names of the nodes of which something is kept.
use Rattle.std.specs.Prelude.{◌≡◌, ◌==◌, ℕ, false, List, None}
use Rattle.std.specs.List.{list_any}
use Rattle.key_map.specs.Values.{value_at}
use Rattle.key_map.specs.declared.map.KeyMap.{KeyMap}
use Rattle.kube_objects.specs.Stored.{node_key}
use Rattle.node_health.specs.declared.known.Known.{Known}

-- nothing is kept of a node that isn't among these
abbrev pub AreNamed : List ℕ → KeyMap Known → Type 0
AreNamed names map = (node : ℕ) → list_any (λ other. other == node) names ≡ false → value_at map (node_key node) ≡ None
