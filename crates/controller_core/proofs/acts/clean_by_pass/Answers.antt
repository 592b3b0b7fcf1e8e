use Rattle.std.proofs.Common.{◌≡◌, ◌∙◌, false, ap, subst}
use Rattle.kube_objects.specs.Health.{is_pass_tick}
use Rattle.kube_objects.specs.Judgement.{Passed, passes}
use Rattle.kube_objects.specs.Tick.{pass}
use Rattle.controller_core.specs.Looking.{IsFoundBy}
use Rattle.controller_core.proofs.Cleaning.Keeping.{kept_between}
use Rattle.controller_core.proofs.Cleaning.PassSeen.{pass_seen}
use Rattle.controller_core.proofs.HeadsKept.{pass_none}
use Rattle.controller_core.proofs.acts.clean_by_pass.Goals as goal

pub returns-in-Some : goal.returns-in-Some
returns-in-Some g c doc k q before h at_ticks r v found none =
    let due = subst (IsFoundBy doc k q h) c.in-Some.is found in
    let stands = due.1.1 in
    let x : Passed = record { before = h; after = stands.after } in
    c.clean_found.ensures doc k q before (pass doc k q h) x (passes q h) at_ticks r v stands.passed due.1.0 (pass_seen doc k q h) stands.looks stands.unasked

pub returns-in-None : goal.returns-in-None
returns-in-None g c doc k q before h at_ticks r v found none =
    let unfound = subst (IsFoundBy doc k q h) c.in-None.is found in
    let unpassed : is_pass_tick k q (pass doc k q h) ≡ false = ap (is_pass_tick k q) (pass_none doc k q h unfound) ∙ none in
    c.clean.ensures doc k q before (pass doc k q h) at_ticks (kept_between doc k q (pass doc k q h) unpassed) r v
