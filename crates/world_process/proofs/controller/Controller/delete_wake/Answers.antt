use Rattle.std.proofs.Common.{◌≡◌, ◌∙◌, Option, Some, None, refl, sym, ap, subst}
use Rattle.kube_base.specs.declared.numbers.Local.{Local}
use Rattle.kube_objects.specs.Clocks.{local}
use Rattle.agenda_laws.specs.Times.{is_early}
use Rattle.controller_core.specs.Passing as within
use Rattle.world_process.specs.Beats.{reading_of}
use Rattle.world_process.specs.OwnTerm.{IsTermOf}
use Rattle.world_process.proofs.Times.{room-reading}
use Rattle.world_process.proofs.controller.Controller.delete_wake.Goals as goal

alike : (o : Option Local) → reading_of o ≡ within.reading_of o
alike None = refl
alike (Some at) = refl

pub returns : goal.returns
returns c doc k q h s is beats upto =
    let t = subst (IsTermOf doc q h) (sym c.deref.ensures) (s.term.each q.incarnation is.up) in
    ap (is_early (local doc q.process k)) (alike c.delete_wake.result)
    ∙ room-reading doc k q h (within.reading_of c.delete_wake.result) (c.delete_wake.ensures doc q h t.term beats) upto
