use Rattle.std.proofs.Common.{◌≡◌, ◌++◌}
use Rattle.watch_cache.proofs.index.Index.nodes.Given as goal

abbrev pub invariant-loop-name : goal.invariant-loop-name
invariant-loop-name l = l.names ++ l.name-iterator ≡ l.self.nodes.keys
