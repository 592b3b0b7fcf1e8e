use Rattle.std.proofs.Common.{◌∙◌, ap, sym}
use Rattle.kube_objects.specs.Newest.{or_else}
use Rattle.pause_times.specs.Owned.{beat_of}
use Rattle.pause_times.proofs.pauses.Pauses.resume.Goals as goal

pub returns-in-Some : goal.returns-in-Some
returns-in-Some c doc p s = ap (λ o. or_else c.args.beat.0 (beat_of o)) (sym c.in-Some.is) ∙ ap (or_else c.args.beat.0) (c.end_at.ensures doc p s)

pub returns-in-None : goal.returns-in-None
returns-in-None c doc p s = ap (λ o. or_else c.args.beat.0 (beat_of o)) (sym c.in-None.is) ∙ ap (or_else c.args.beat.0) (c.end_at.ensures doc p s)
