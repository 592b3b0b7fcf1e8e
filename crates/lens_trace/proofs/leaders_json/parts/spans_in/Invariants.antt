use Rattle.std.proofs.Common.{◌≡◌, ◌++◌, map, drop}
use Rattle.lens_json.specs.Parts.{members_in}
use Rattle.lens_trace.specs.LeadersJson.{span_members}
use Rattle.lens_trace.proofs.leaders_json.parts.spans_in.Given as goal

-- the objects so far and those of the rest
abbrev pub invariant-loop-span : goal.invariant-loop-span
invariant-loop-span l = map members_in l.objects.items ++ map span_members (drop l.span-index l.spans) ≡ map span_members l.spans
