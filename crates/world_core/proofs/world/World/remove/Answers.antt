use Rattle.std.proofs.Common.{◌≡◌, ◌++◌, Option, None, refl, sym, ap, ◌∙◌}
use Rattle.kube_base.specs.declared.numbers.Version.{Version}
use Rattle.kube_objects.specs.declared.deed.Actor.TheVariants as actor
use Rattle.kube_objects.specs.declared.script.What.TheVariants as what
use Rattle.kube_objects.specs.Document.{processes}
use Rattle.kube_objects.specs.Entry.{Event, script_entry}
use Rattle.kube_objects.specs.Newest.{when, has}
use Rattle.kube_objects.specs.Stored.{Write}
use Rattle.history.specs.Printed.{deeds_of, event_act}
use Rattle.history.specs.Steps.{event_version}
use Rattle.wire_calls.proofs.Frames.{wire-beside}
use Rattle.world_process.proofs.Forces.{in_force-beside}
use Rattle.world_core.proofs.Moving.{on-ok}
use Rattle.world_core.proofs.Scripts.{running-event}
use Rattle.world_core.proofs.MidBeat.{unmoved}
use Rattle.world_core.proofs.world.World.remove.Goals as goal

pub returns-clause-stands : goal.returns-clause-stands
returns-clause-stands c =
    let w = c.args.self.now in
    let key = c.args.key in
    on-ok c.tell.result _ _ (λ told doc k before arriving coming h r lawful few.
    let event = what.Remove key in
    let version = event_version event h in
    let e = script_entry k 1 (Event event version) in
    let write : Write = (key, None) in
    let answer : c.in_ok-version.version ≡ version = c.in_ok-version.ensures.answer h r.world.rest.store in
    let new_is = told ∙ ap (λ a. c.args.deeds.now ++ deeds_of w.beat.0 actor.Script a) c.remove_act.ensures ∙ ap (λ n. c.args.deeds.now ++ deeds_of n actor.Script (event_act event c.in_ok-version.version)) r.world.rest.document.at
    ∙ ap (λ (v : Option Version). c.args.deeds.now ++ deeds_of k actor.Script (event_act event v)) answer in
    running-event doc k before c.args.deeds.now c.tell.new.deeds arriving coming h w _ event version r (λ p. refl) unmoved
    (in_force-beside doc e h w.in_force refl r.world.rest.in_force) (c.in_ok-version.ensures.ok h e r.world.rest.store (ap (λ (v : Option Version). when (has v) write) (sym answer))) (wire-beside (processes doc) k arriving coming h e w.wire refl r.world.rest.wire) new_is) c.tell.ensures
