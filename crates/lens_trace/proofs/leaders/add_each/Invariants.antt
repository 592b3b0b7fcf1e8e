use Rattle.std.proofs.Common.{◌≡◌, ◌++◌, drop}
use Rattle.std.specs.List.{flat_map}
use Rattle.lens_terms.specs.Terms.{shown}
use Rattle.lens_trace.specs.Leaders.{term_line}
use Rattle.lens_trace.proofs.leaders.add_each.Given as goal

-- the lines so far and those of the rest
abbrev pub invariant-loop-term : goal.invariant-loop-term
invariant-loop-term l =
    l.text.items ++ flat_map (λ t. term_line l.stop (shown t)) (drop l.term-index l.found)
    ≡ l.fn.text.items ++ flat_map (λ t. term_line l.stop (shown t)) l.found
