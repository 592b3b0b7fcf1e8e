use Rattle.std.proofs.Common.{◌≡◌}
use Rattle.history.specs.Premise.{greatest_below}
use Rattle.script_reader.specs.Documents.{doc_of}
use Rattle.lens_margin.proofs.rates.fastest.Given as goal

-- the greatest rate of the controllers so far
abbrev pub invariant-loop-controller : goal.invariant-loop-controller
invariant-loop-controller l = l.greatest ≡ greatest_below (doc_of l.document) l.controller
