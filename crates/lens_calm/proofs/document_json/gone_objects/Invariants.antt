use Rattle.std.proofs.Common.{◌≡◌, ◌++◌, drop, map}
use Rattle.lens_json.specs.Parts.{members_in}
use Rattle.lens_calm.specs.Documents.{gone_objects}
use Rattle.lens_calm.proofs.document_json.gone_objects.Given as goal

-- what is left is added
abbrev pub invariant-loop-seconds : goal.invariant-loop-seconds
invariant-loop-seconds l = gone_objects l.o l.times ≡ map members_in l.objects.items ++ gone_objects l.o (drop l.seconds-index l.times)
