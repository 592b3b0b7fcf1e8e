use Rattle.std.proofs.Common.{◌≡◌, ◌++◌, drop}
use Rattle.lens_terms.specs.Spans as spec
use Rattle.lens_terms.proofs.span.leaderless.Given as goal

-- the spans so far and those of what is left
abbrev pub invariant-loop-stretch : goal.invariant-loop-stretch
invariant-loop-stretch l = l.spans.items ++ spec.leaderless l.since l.stop (drop l.stretch-index l.found) ≡ spec.leaderless 0 l.stop l.found
