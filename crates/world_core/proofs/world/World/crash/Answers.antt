use Rattle.std.proofs.Common.{◌<◌, ◌++◌, vec_len, refl, ap, ◌∙◌, arith}
use Rattle.kube_objects.specs.declared.deed.Act.TheVariants as act
use Rattle.kube_objects.specs.declared.script.What.TheVariants as what
use Rattle.kube_objects.specs.Identities.{identity}
use Rattle.kube_objects.specs.Newest.{when}
use Rattle.history.specs.Printed.{deeds_of}
use Rattle.history.specs.Steps.{happens}
use Rattle.world_process.specs.Moves.{crashed_deeds}
use Rattle.world_process.specs.Processes.{incarnation_of}
use Rattle.world_process.proofs.Processes.{process-me}
use Rattle.world_core.proofs.Around.{around-world}
use Rattle.world_core.proofs.Moving.{read-at, actor-is, on-ok, room-for}
use Rattle.world_core.proofs.Noting.{crashed-kept, keeps-noted}
use Rattle.world_core.proofs.MidBeat.{one_process_moved}
use Rattle.world_core.proofs.Scripts.{around-crash, running-moved}
use Rattle.world_core.proofs.world.World.crash.Goals as goal

pub note-requires : goal.note-requires
note-requires c = room-for c.args.self.now c.args.who.0 c.requires.running.ready (omega (arith, c.if-i-len.false, c.len.ensures))

pub returns-clause-kept : goal.returns-clause-kept
returns-clause-kept c =
    let was = read-at c.args.self.now c.args.who.0 c.index_mut-process.result.now (omega (arith, c.if-i-len.false, c.len.ensures)) c.index_mut-process.ensures.value in
    on-ok c.tell.result _ _ (λ told. keeps-noted c.crash-crashed.ensures.same c.crash-crashed.ensures.waking c.note.ensures.same c.note.ensures.kept
    (record { room = c.note.ensures.room; leaves = c.note.ensures.leaves }) c.requires.running.ready (one_process_moved was refl) refl) c.tell.ensures

pub returns-clause-stands : goal.returns-clause-stands
returns-clause-stands c =
    let w = c.args.self.now in
    let i = c.args.who.0 in
    let c0 = c.index_mut-process.result.now in
    let y = c.crash-crashed.new.self in
    let c1 = c.note.new.process in
    let index : i < vec_len w.processes = omega (arith, c.if-i-len.false, c.len.ensures) in
    let was = read-at w i c0 index c.index_mut-process.ensures.value in
    let done = when c.crash-crashed.result act.Crash in
    on-ok c.tell.result _ _ (λ told doc k before arriving coming h r lawful few.
    let s = r.world.processes i c0 was in
    let around = around-crash doc k c.args.who arriving coming h w lawful (around-world doc k i arriving coming h w r.world) in
    let crashed = crashed-kept doc k c.args.who h y c1 c.crash-crashed.result c.note.ensures.stands c.note.ensures.incarnation (c.crash-crashed.ensures.stands doc k c.args.who h s) in
    let who = actor-is i c1 c.actor-actor.result c.actor-actor.ensures (ap (λ m. m.0) (c.note.ensures.same.me ∙ c.crash-crashed.ensures.same.me) ∙ process-me doc i h c0 s) in
    let new_is = told ∙ ap (λ a. c.args.deeds.now ++ deeds_of w.beat.0 c.actor-actor.result a) c.crash_act.ensures ∙ ap (λ n. c.args.deeds.now ++ deeds_of n c.actor-actor.result done) r.world.rest.document.at ∙ ap (λ x. c.args.deeds.now ++ deeds_of k x done) who in
    running-moved doc k i before c.args.deeds.now c.tell.new.deeds (crashed_deeds k (identity i (incarnation_of c1)) c.crash-crashed.result) arriving coming h (happens doc k (what.Crash c.args.who) h) c0 c1 w _ r (one_process_moved was refl) refl
    around crashed.stands crashed.told new_is) c.tell.ensures
