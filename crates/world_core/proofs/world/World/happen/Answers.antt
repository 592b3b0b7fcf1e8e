use Rattle.std.proofs.Common.{None, OnOk, refl, sym, subst}
use Rattle.std.proofs.lemmas.List.{append-nil}
use Rattle.kube_objects.specs.declared.script.What.TheVariants as what
use Rattle.kube_objects.specs.Document.{processes}
use Rattle.object_store.proofs.Keeps.{store-beside}
use Rattle.wire_calls.proofs.Frames.{wire-beside}
use Rattle.world_process.proofs.Forces.{in_force-beside}
use Rattle.world_core.specs.Worlds.{Happens}
use Rattle.world_core.proofs.Scripts.{running-event, running-plain}
use Rattle.world_core.proofs.MidBeat.{unmoved}
use Rattle.world_core.proofs.world.World.happen.Goals as goal

pub returns-in-Rate-clause-stands : goal.returns-in-Rate-clause-stands
returns-in-Rate-clause-stands c =
    let w = c.args.self.now in
    let ds = c.args.deeds.now in
    subst (λ x. Happens w ds w ds x) (sym c.in-Rate.is) (λ doc k before arriving coming h r lawful few. running-plain doc k before ds arriving coming h w _ r refl refl refl refl (λ p. refl))

pub returns-in-Delay-clause-stands : goal.returns-in-Delay-clause-stands
returns-in-Delay-clause-stands c =
    let w = c.args.self.now in
    let ds = c.args.deeds.now in
    subst (λ x. Happens w ds (record w { wire = c.set_delay.new.self }) ds x) (sym c.in-Delay.is) (λ doc k before arriving coming h r lawful few.
    running-event doc k before ds ds arriving coming h w _ (what.Delay c.in-Delay.who c.in-Delay.requests c.in-Delay.replies) None r (λ p. refl) unmoved
    (in_force-beside doc _ h w.in_force refl r.world.rest.in_force) (store-beside h _ w.store r.world.rest.store refl) (c.set_delay.ensures (processes doc) k 1 k arriving coming h None r.world.rest.wire lawful.0) (sym (append-nil ds)))

pub returns-in-Loss-clause-stands : goal.returns-in-Loss-clause-stands
returns-in-Loss-clause-stands c =
    let w = c.args.self.now in
    let ds = c.args.deeds.now in
    subst (λ x. Happens w ds (record w { wire = c.set_loss.new.self }) ds x) (sym c.in-Loss.is) (λ doc k before arriving coming h r lawful few.
    running-event doc k before ds ds arriving coming h w _ (what.Loss c.in-Loss.who c.in-Loss.requests c.in-Loss.replies) None r (λ p. refl) unmoved
    (in_force-beside doc _ h w.in_force refl r.world.rest.in_force) (store-beside h _ w.store r.world.rest.store refl) (c.set_loss.ensures (processes doc) k 1 k arriving coming h None r.world.rest.wire lawful) (sym (append-nil ds)))

pub returns-in-Watch-clause-stands : goal.returns-in-Watch-clause-stands
returns-in-Watch-clause-stands c =
    let w = c.args.self.now in
    let ds = c.args.deeds.now in
    subst (λ x. Happens w ds (record w { in_force = c.set_watch.new.self }) ds x) (sym c.in-Watch.is) (λ doc k before arriving coming h r lawful few.
    running-event doc k before ds ds arriving coming h w _ (what.Watch c.in-Watch.who c.in-Watch.on) None r (λ p. refl) unmoved
    (c.set_watch.ensures doc k h r.world.rest.in_force) (store-beside h _ w.store r.world.rest.store refl) (wire-beside (processes doc) k arriving coming h _ w.wire refl r.world.rest.wire) (sym (append-nil ds)))

pub returns-in-Ready-clause-stands : goal.returns-in-Ready-clause-stands
returns-in-Ready-clause-stands c =
    let w = c.args.self.now in
    let ds = c.args.deeds.now in
    subst (λ x. Happens w ds (record w { in_force = c.set_status.new.self }) ds x) (sym c.in-Ready.is) (λ doc k before arriving coming h r lawful few.
    running-event doc k before ds ds arriving coming h w _ (what.Ready c.in-Ready.who c.in-Ready.status) None r (λ p. refl) unmoved
    (c.set_status.ensures doc k h r.world.rest.in_force) (store-beside h _ w.store r.world.rest.store refl) (wire-beside (processes doc) k arriving coming h _ w.wire refl r.world.rest.wire) (sym (append-nil ds)))

pub returns-in-Pause-clause-stands : goal.returns-in-Pause-clause-stands
returns-in-Pause-clause-stands c = subst (λ x. OnOk c.pause.result (Happens c.args.self.now c.args.deeds.now c.args.self.now c.pause.new.deeds x)) (sym c.in-Pause.is) c.pause.ensures

pub returns-in-Stall-clause-stands : goal.returns-in-Stall-clause-stands
returns-in-Stall-clause-stands c = subst (λ x. OnOk c.stall.result (Happens c.args.self.now c.args.deeds.now c.args.self.now c.stall.new.deeds x)) (sym c.in-Stall.is) c.stall.ensures

pub returns-in-Crash-clause-stands : goal.returns-in-Crash-clause-stands
returns-in-Crash-clause-stands c = subst (λ x. OnOk c.crash.result (Happens c.args.self.now c.args.deeds.now c.crash.new.self c.crash.new.deeds x)) (sym c.in-Crash.is) c.crash.ensures.stands

pub returns-in-Start-clause-stands : goal.returns-in-Start-clause-stands
returns-in-Start-clause-stands c = subst (λ x. OnOk c.start.result (Happens c.args.self.now c.args.deeds.now c.start.new.self c.start.new.deeds x)) (sym c.in-Start.is) c.start.ensures.stands

pub returns-in-Stop-clause-stands : goal.returns-in-Stop-clause-stands
returns-in-Stop-clause-stands c = subst (λ x. OnOk c.stop.result (Happens c.args.self.now c.args.deeds.now c.stop.new.self c.stop.new.deeds x)) (sym c.in-Stop.is) c.stop.ensures.stands

pub returns-in-Put-clause-stands : goal.returns-in-Put-clause-stands
returns-in-Put-clause-stands c = subst (λ x. OnOk c.put.result (Happens c.args.self.now c.args.deeds.now c.put.new.self c.put.new.deeds x)) (sym c.in-Put.is) c.put.ensures.stands

pub returns-in-Remove-clause-stands : goal.returns-in-Remove-clause-stands
returns-in-Remove-clause-stands c = subst (λ x. OnOk c.remove.result (Happens c.args.self.now c.args.deeds.now c.remove.new.self c.remove.new.deeds x)) (sym c.in-Remove.is) c.remove.ensures.stands
