use Rattle.std.proofs.Common.{◌++◌, Some, None, refl, ap, ◌∙◌}
use Rattle.kube_objects.specs.declared.deed.Act.TheVariants as act
use Rattle.kube_objects.specs.declared.deed.Actor.TheVariants as actor
use Rattle.kube_objects.specs.declared.script.What.TheVariants as what
use Rattle.kube_objects.specs.Document.{processes}
use Rattle.kube_objects.specs.Entry.{Event, script_entry}
use Rattle.history.specs.Printed.{deeds_of}
use Rattle.object_store.proofs.Keeps.{store-beside}
use Rattle.wire_calls.proofs.Frames.{wire-beside}
use Rattle.world_process.proofs.Forces.{in_force-beside}
use Rattle.world_core.proofs.MidBeat.{unmoved}
use Rattle.world_core.proofs.Moving.{on-ok}
use Rattle.world_core.proofs.Scripts.{running-event}
use Rattle.world_core.proofs.world.World.stall.Goals as goal

pub returns : goal.returns
returns c =
    let w = c.args.self.now in
    on-ok c.tell.result _ _ (λ told doc k before arriving coming h r lawful few.
    let event = what.Stall c.args.beats in
    let e = script_entry k 1 (Event event None) in
    let new_is = told ∙ ap (λ n. c.args.deeds.now ++ deeds_of n actor.Script (Some (act.Stall c.args.beats))) r.world.rest.document.at in
    running-event doc k before c.args.deeds.now c.tell.new.deeds arriving coming h w w event None r (λ p. refl) unmoved
    (in_force-beside doc e h w.in_force refl r.world.rest.in_force) (store-beside h e w.store r.world.rest.store refl) (wire-beside (processes doc) k arriving coming h e w.wire refl r.world.rest.wire) new_is) c.tell.ensures
