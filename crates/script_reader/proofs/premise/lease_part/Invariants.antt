use Rattle.std.proofs.Common.{◌≡◌, length}
use Rattle.history.specs.Premise.{greatest_below, all_long}
use Rattle.script_reader.specs.Documents.{doc_of}
use Rattle.script_reader.proofs.premise.lease_part.Given as goal

-- the greatest rate of the controllers so far
abbrev pub invariant-loop-controller : goal.invariant-loop-controller
invariant-loop-controller l = l.greatest ≡ greatest_below (doc_of l.document) l.controller

-- whether the leases of the controllers so far are long enough
abbrev pub invariant-loop-controller-2 : goal.invariant-loop-controller-2
invariant-loop-controller-2 l = l.long ≡ all_long (doc_of l.document) (greatest_below (doc_of l.document) (length l.document.controllers)) l.controller
