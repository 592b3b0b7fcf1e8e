use Rattle.std.proofs.Common.{◌≡◌, drop}
use Rattle.trace_terms.specs.Findings.{earlier, least, breaking}
use Rattle.trace_terms.proofs.spacing.first_breaking.Given as goal

-- what was found and what is left make it
abbrev pub invariant-loop-index : goal.invariant-loop-index
invariant-loop-index l = earlier l.found (least (breaking l.millis l.rate l.zones l.start (drop l.index l.taints))) ≡ least (breaking l.millis l.rate l.zones l.start l.taints)
