use Rattle.std.proofs.Common.{◌≡◌, drop}
use Rattle.lens_terms.specs.Acting.{shown}
use Rattle.lens_terms.specs.Together as spec
use Rattle.lens_terms.proofs.together.crossing.Given as goal

-- what is left decides
abbrev pub invariant-loop-other : goal.invariant-loop-other
invariant-loop-other l = spec.first (λ other. spec.crosses (shown l.stretch) (shown other)) l.found
    ≡ spec.first (λ other. spec.crosses (shown l.stretch) (shown other)) (drop l.other-index l.found)
