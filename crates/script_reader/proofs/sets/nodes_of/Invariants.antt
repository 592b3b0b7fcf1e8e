use Rattle.std.proofs.Common.{◌≡◌, ◌++◌, drop}
use Rattle.script_reader.specs.Sets.{nodes_of}
use Rattle.script_reader.proofs.sets.nodes_of.Given as goal

-- the nodes so far and those of the rest
abbrev pub invariant-loop-share : goal.invariant-loop-share
invariant-loop-share l = nodes_of l.shares ≡ l.nodes ++ nodes_of (drop l.share-index l.shares)
