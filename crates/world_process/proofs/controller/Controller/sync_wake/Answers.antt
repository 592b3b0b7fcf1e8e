use Rattle.std.proofs.Common.{◌≡◌, ◌∙◌, Option, Some, None, refl, sym, subst}
use Rattle.kube_base.specs.declared.numbers.Local.{Local}
use Rattle.controller_core.specs.Passing as within
use Rattle.world_process.specs.Beats.{reading_of}
use Rattle.world_process.specs.OwnTerm.{IsTermOf}
use Rattle.world_process.proofs.controller.Controller.sync_wake.Goals as goal

alike : (o : Option Local) → reading_of o ≡ within.reading_of o
alike None = refl
alike (Some at) = refl

pub returns : goal.returns
returns c doc q h s store watch is led =
    let t = subst (IsTermOf doc q h) (sym c.deref.ensures) (s.term.each q.incarnation is.up) in
    alike c.sync_wake.result ∙ c.sync_wake.ensures doc q h t.term store watch led
