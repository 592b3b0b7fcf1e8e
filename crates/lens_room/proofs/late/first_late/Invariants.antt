use Rattle.std.proofs.Common.{◌≡◌, length, drop}
use Rattle.kube_objects.specs.Document.{Doc}
use Rattle.lens_room.specs.Late.{first_late}
use Rattle.lens_room.proofs.late.first_late.Given as goal

-- what is left decides
abbrev pub invariant-loop-place : goal.invariant-loop-place
invariant-loop-place l = (doc : Doc) → length doc.controllers ≡ l.controllers → first_late doc 0 l.events ≡ first_late doc l.place (drop l.place l.events)
