use Rattle.std.proofs.Common.{◌≡◌}
use Rattle.script_reader.specs.Documents.{doc_of}
use Rattle.script_reader.specs.Leases.{least_up_to}
use Rattle.script_reader.proofs.premise.least_seconds.Given as goal

-- the least lease of the controllers so far
abbrev pub invariant-loop-before : goal.invariant-loop-before
invariant-loop-before l = l.least ≡ least_up_to (doc_of l.document) l.before
