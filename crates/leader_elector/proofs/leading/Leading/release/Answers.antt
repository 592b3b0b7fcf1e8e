use Rattle.std.proofs.Common.{◌∷◌}
use Rattle.kube_objects.specs.Entry.{ReleaseStops, entry}
use Rattle.leader_elector.proofs.Endings.{not-stop}
use Rattle.leader_elector.proofs.Frames.{elector-stopped}
use Rattle.leader_elector.proofs.leading.Leading.release.Goals as goal

pub returns-in-Some-clause-stops : goal.returns-in-Some-clause-stops
returns-in-Some-clause-stops c doc q h k s now wall room =
    let e = entry k 1 q ReleaseStops in
    let b = c.in-Some.ensures.begins doc q (e ∷ h) k 1 (elector-stopped doc k 1 q h c.args.self.elector s.elector) now wall room in
    (not-stop doc.settings.rules.release k _ b.0 b.1, b)
