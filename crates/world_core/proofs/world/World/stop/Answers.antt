use Rattle.std.proofs.Common.{◌≡◌, ◌<◌, ◌++◌, None, vec_len, refl, ap, ◌∙◌, arith}
use Rattle.kube_objects.specs.declared.deed.Act.TheVariants as act
use Rattle.kube_objects.specs.declared.script.What.TheVariants as what
use Rattle.kube_objects.specs.Identities.{identity}
use Rattle.kube_objects.specs.Newest.{when}
use Rattle.history.specs.Printed.{deeds_of}
use Rattle.history.specs.Steps.{happens}
use Rattle.world_process.specs.Moves.{stopped_deeds}
use Rattle.world_process.specs.Processes.{incarnation_of}
use Rattle.world_process.proofs.Grows.{few-before, grows-happens}
use Rattle.world_process.proofs.Processes.{process-me}
use Rattle.world_core.proofs.Around.{around-world}
use Rattle.world_core.proofs.Moving.{read-at, actor-is, on-ok, room-for, sends-as}
use Rattle.world_core.proofs.Noting.{kept-after, stopped-kept}
use Rattle.world_core.proofs.Turns.{same-twice}
use Rattle.world_core.proofs.MidBeat.{keeps-moved, one_process_moved}
use Rattle.world_core.proofs.Scripts.{controller-within, around-stop, running-asked, scripted}
use Rattle.world_core.proofs.world.World.stop.Goals as goal

pub note-requires : goal.note-requires
note-requires c =
    let i = c.args.who.0 in
    let index : i < vec_len c.args.self.now.processes = omega (arith, c.if-i-len.false, c.len.ensures) in
    room-for c.args.self.now i c.requires.running.ready index

pub returns-clause-kept : goal.returns-clause-kept
returns-clause-kept c =
    let i = c.args.who.0 in
    let index : i < vec_len c.args.self.now.processes = omega (arith, c.if-i-len.false, c.len.ensures) in
    let w = c.args.self.now in
    let was = read-at w i c.index_mut-process.result.now index c.index_mut-process.ensures.value in
    on-ok c.send_asked.result _ _ (λ sent. keeps-moved i c.index_mut-process.result.now c.note.new.process w _ c.requires.running.ready (one_process_moved was refl) refl (same-twice c.index_mut-process.result.now c.stop-stopped.new.self c.note.new.process c.stop-stopped.ensures.same c.note.ensures.same) (kept-after c.index_mut-process.result.now c.stop-stopped.new.self c.note.new.process (c.requires.running.ready.kept i c.index_mut-process.result.now was) c.stop-stopped.ensures.same c.stop-stopped.ensures.waking c.note.ensures.kept) (record { room = c.note.ensures.room; leaves = c.note.ensures.leaves })) c.send_asked.ensures.sends

pub returns-clause-stands : goal.returns-clause-stands
returns-clause-stands c =
    let w = c.args.self.now in
    let i = c.args.who.0 in
    let c0 = c.index_mut-process.result.now in
    let y = c.stop-stopped.new.self in
    let c1 = c.note.new.process in
    let index : i < vec_len w.processes = omega (arith, c.if-i-len.false, c.len.ensures) in
    let was = read-at w i c0 index c.index_mut-process.ensures.value in
    let done = when c.stop-stopped.result.stopped act.Stop in
    on-ok c.send_asked.result _ _ (λ sent doc k before arriving coming h r lawful few.
    let s = r.world.processes i c0 was in
    let at : w.beat.0 ≡ k = r.world.rest.document.at in
    let moved = stopped-kept doc k c.args.who h y c1 c.stop-stopped.result c.note.ensures.stands c.note.ensures.incarnation (c.stop-stopped.ensures.stands doc k c.args.who h s lawful at (few-before h (happens doc k (what.Stop c.args.who) h) (grows-happens doc k (what.Stop c.args.who) h) few)) in
    let me = ap (λ m. m.0) (c.note.ensures.same.me ∙ c.stop-stopped.ensures.same.me) ∙ process-me doc i h c0 s in
    let around = around-stop doc k c.args.who arriving coming h w (around-world doc k i arriving coming h w r.world) in
    let who = actor-is i c1 c.actor-actor.result c.actor-actor.ensures me in
    let new_is = c.in_ok-tell.ensures ∙ ap (λ a. c.args.deeds.now ++ deeds_of w.beat.0 c.actor-actor.result a) c.stop_act.ensures ∙ ap (λ n. c.args.deeds.now ++ deeds_of n c.actor-actor.result done) at ∙ ap (λ x. c.args.deeds.now ++ deeds_of k x done) who in
    let sends = sends-as k w.beat.0 i c.incarnation-incarnation.result c.me-who.result c1 c.stop-stopped.result.ask w.stalls w.wire c.send_asked.new.wire at c.me-who.ensures c.incarnation-incarnation.ensures me sent in
    running-asked doc k i before c.args.deeds.now c.tell.new.deeds (stopped_deeds k (identity i (incarnation_of c1)) c.stop-stopped.result.stopped) arriving coming h (scripted k (what.Stop c.args.who) None h) (happens doc k (what.Stop c.args.who) h) c0 c1 w _ c.stop-stopped.result.ask r (controller-within doc i lawful) (one_process_moved was refl) sends
    around moved.asks moved.told new_is) c.send_asked.ensures.sends
