use Rattle.std.proofs.Common.{◌≡◌, ◌++◌, map, drop}
use Rattle.lens_json.specs.Parts.{members_in}
use Rattle.lens_terms.specs.Terms.{shown}
use Rattle.lens_trace.specs.LeadersJson.{term_members}
use Rattle.lens_trace.proofs.leaders_json.parts.terms_in.Given as goal

-- the objects so far and those of the rest
abbrev pub invariant-loop-term : goal.invariant-loop-term
invariant-loop-term l =
    map members_in l.objects.items ++ map (term_members l.lasting l.stop) (map shown (drop l.term-index l.found)) ≡ map (term_members l.lasting l.stop) (map shown l.found)
