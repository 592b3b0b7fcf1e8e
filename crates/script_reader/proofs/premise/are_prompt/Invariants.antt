use Rattle.std.proofs.Common.{◌≡◌, length, drop}
use Rattle.kube_objects.specs.Document.{Doc}
use Rattle.history.specs.Premise.{are_prompt}
use Rattle.script_reader.proofs.premise.are_prompt.Given as goal

-- the events from this place on decide
abbrev pub invariant-loop-event : goal.invariant-loop-event
invariant-loop-event l = (doc : Doc) → length doc.controllers ≡ l.controllers → are_prompt doc l.events ≡ are_prompt doc (drop l.event-index l.events)
