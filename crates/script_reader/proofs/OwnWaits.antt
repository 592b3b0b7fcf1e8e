-- The waits of a controller of whom the document says none are lawful.
use Rattle.std.proofs.Common.{◌≤◌, ℕ, [], arith}
use Rattle.std.proofs.lemmas.List.Elements.{All-push, All-nil}
use Rattle.kube_objects.specs.Rules.{own_waits}
use Rattle.script_reader.specs.Lawful.{AreWaits}

pub own-waits : AreWaits own_waits
own-waits =
    let whole : (1000 ≤ 1000) × (1000 ≤ 2200) = (omega arith, omega arith) in
    let in_range = λ (w : ℕ). (1000 ≤ w) × (w ≤ 2200) in
    record { some = omega arith; few = omega arith; each = All-push in_range [] 1000 (All-nil in_range) whole }
