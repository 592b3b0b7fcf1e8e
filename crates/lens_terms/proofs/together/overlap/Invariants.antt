use Rattle.std.proofs.Common.{◌≡◌, map, drop}
use Rattle.lens_terms.specs.Acting.{shown}
use Rattle.lens_terms.specs.Together.{first_from, latest_shown, none_yet}
use Rattle.lens_terms.proofs.together.overlap.Given as goal

-- what is left decides
abbrev pub invariant-loop-stretch : goal.invariant-loop-stretch
invariant-loop-stretch l = first_from none_yet (map shown l.found)
    ≡ first_from (latest_shown l.latest) (map shown (drop l.stretch-index l.found))
