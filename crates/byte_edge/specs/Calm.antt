-- What a source that never fails has left.
use Rattle.std.specs.Prelude.{ℕ, List, drop}
use Rattle.byte_edge.specs.declared.calm_source.CalmSource.{CalmSource}

abbrev pub left_of : CalmSource → List ℕ
left_of s = drop s.position s.bytes.items
