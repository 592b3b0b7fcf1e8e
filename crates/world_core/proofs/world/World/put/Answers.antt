use Rattle.std.proofs.Common.{◌≡◌, ◌+◌, ◌*◌, ◌++◌, ℕ, Some, refl, sym, ap, ◌∙◌}
use Rattle.kube_base.specs.declared.numbers.Version.{Version}
use Rattle.kube_objects.specs.declared.deed.Act.TheVariants as act
use Rattle.kube_objects.specs.declared.deed.Actor.TheVariants as actor
use Rattle.kube_objects.specs.declared.script.What.{What}
use Rattle.kube_objects.specs.declared.script.What.TheVariants as what
use Rattle.kube_objects.specs.Clocks.{store_wall, whole_second}
use Rattle.kube_objects.specs.Document.{processes}
use Rattle.kube_objects.specs.Entry.{Event, script_entry}
use Rattle.kube_objects.specs.Stamps.{stamped}
use Rattle.kube_objects.specs.Stored.{Write, next_version}
use Rattle.history.specs.Printed.{deeds_of}
use Rattle.wire_calls.proofs.Frames.{wire-beside}
use Rattle.world_process.proofs.Forces.{in_force-beside}
use Rattle.world_core.proofs.Moving.{on-ok}
use Rattle.world_core.proofs.Scripts.{running-event}
use Rattle.world_core.proofs.MidBeat.{unmoved}
use Rattle.world_core.proofs.world.World.put.Goals as goal

pub returns-clause-stands : goal.returns-clause-stands
returns-clause-stands c =
    let w = c.args.self.now in
    let key = c.args.key in
    let object = c.args.object in
    on-ok c.tell.result _ _ (λ told doc k before arriving coming h r lawful few.
    let d = r.world.rest.document in
    let wall : c.wall-now.result.0 ≡ store_wall doc k = c.wall-now.ensures ∙ ap (λ e. e.0 + w.beat.0 * w.micros) d.epoch ∙ ap (λ n. doc.settings.epoch.0 + n * w.micros) d.at ∙ ap (λ n. doc.settings.epoch.0 + k * n) d.micros in
    let event : What = what.Put key (stamped (whole_second (store_wall doc k)) object) in
    let e = script_entry k 1 (Event event (Some (next_version h))) in
    let as_write : ℕ → Write = λ n. (key, Some (stamped (whole_second n) object)) in
    let answer : c.in_ok-version.version ≡ next_version h = c.in_ok-version.ensures.answer h r.world.rest.store in
    let new_is = told ∙ ap (λ n. c.args.deeds.now ++ deeds_of n actor.Script (Some (act.Put key c.in_ok-version.version))) d.at ∙ ap (λ (v : Version). c.args.deeds.now ++ deeds_of k actor.Script (Some (act.Put key v))) answer in
    running-event doc k before c.args.deeds.now c.tell.new.deeds arriving coming h w _ event (Some (next_version h)) r (λ p. refl) unmoved
    (in_force-beside doc e h w.in_force refl r.world.rest.in_force) (c.in_ok-version.ensures.ok h e r.world.rest.store (ap (λ n. Some (as_write n)) (sym wall))) (wire-beside (processes doc) k arriving coming h e w.wire refl r.world.rest.wire) new_is) c.tell.ensures
