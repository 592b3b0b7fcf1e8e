use Rattle.std.proofs.Common.{◌≡◌, map}
use Rattle.lens_json.specs.Parts.{members_in}
use Rattle.lens_calm.specs.Documents.{members_below}
use Rattle.lens_calm.proofs.document_json.leaders_in.Given as goal

-- the objects of the controllers so far
abbrev pub invariant-loop-place : goal.invariant-loop-place
invariant-loop-place l = map members_in l.objects.items ≡ members_below l.document l.place
