-- The order of waiting nodes: by the beat since which they wait, then by number.
-- Profile. The node lifecycle controller of Kubernetes tries waiting nodes in the order in which they came.
use Rattle.std.specs.Prelude.{ℕ, Bool, nat_lt, nat_le, ◌==◌, ◌&&◌, ◌||◌, Option, Some, None, if◌then◌else◌}
use Rattle.taint_queue.specs.declared.waiting.Waiting.{Waiting}

-- the key (at, node) is not after the other
abbrev pub precedes : ℕ → ℕ → ℕ → ℕ → Bool
precedes at node other_at other_node = nat_lt at other_at || (at == other_at && nat_le node other_node)

abbrev pub comes_first : Waiting → Waiting → Bool
comes_first a b = precedes a.at.0 a.node b.at.0 b.node

abbrev pub earlier : Waiting → Waiting → Waiting
earlier a b = if comes_first a b then a else b

-- the earlier of two that may be missing
abbrev pub earliest : Option Waiting → Option Waiting → Option Waiting
earliest None b = b
earliest (Some a) None = Some a
earliest (Some a) (Some b) = Some (earlier a b)
