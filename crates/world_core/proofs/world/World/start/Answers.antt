use Rattle.std.proofs.Common.{◌<◌, ◌++◌, vec_len, refl, ap, ◌∙◌, arith}
use Rattle.kube_objects.specs.declared.deed.Act.TheVariants as act
use Rattle.kube_objects.specs.declared.script.What.TheVariants as what
use Rattle.kube_objects.specs.Document.{processes}
use Rattle.kube_objects.specs.Identities.{identity}
use Rattle.kube_objects.specs.Newest.{when}
use Rattle.history.specs.Printed.{deeds_of}
use Rattle.history.specs.Steps.{happens}
use Rattle.world_process.specs.Moves.{started_deeds}
use Rattle.world_process.specs.Processes.{incarnation_of}
use Rattle.world_process.proofs.Processes.{process-me}
use Rattle.world_core.proofs.Around.{around-world}
use Rattle.world_core.proofs.Moving.{read-at, actor-is, on-ok, room-for}
use Rattle.world_core.proofs.Noting.{begun-kept, kept-after}
use Rattle.world_core.proofs.Turns.{same-twice}
use Rattle.world_core.proofs.MidBeat.{keeps-moved, one_process_moved}
use Rattle.world_core.proofs.Scripts.{around-begin, running-moved}
use Rattle.world_core.proofs.world.World.start.Goals as goal

pub note-requires : goal.note-requires
note-requires c =
    let index : c.args.who.0 < vec_len c.args.self.now.processes = omega (arith, c.if-i-len.false, c.len.ensures) in
    room-for c.args.self.now c.args.who.0 c.requires.running.ready index

pub returns-clause-kept : goal.returns-clause-kept
returns-clause-kept c =
    let w = c.args.self.now in
    let i = c.args.who.0 in
    let x = c.index_mut-process.result.now in
    let y = c.start_if_down-started.new.self in
    let z = c.note.new.process in
    let index : i < vec_len w.processes = omega (arith, c.if-i-len.false, c.len.ensures) in
    let was = read-at w i x index c.index_mut-process.ensures.value in
    on-ok c.tell.result _ _ (λ told. keeps-moved i x z w _ c.requires.running.ready (one_process_moved was refl) refl (same-twice x y z c.start_if_down-started.ensures.same c.note.ensures.same)
    (kept-after x y z (c.requires.running.ready.kept i x was) c.start_if_down-started.ensures.same c.start_if_down-started.ensures.waking c.note.ensures.kept) (record { room = c.note.ensures.room; leaves = c.note.ensures.leaves })) c.tell.ensures

pub returns-clause-stands : goal.returns-clause-stands
returns-clause-stands c =
    let w = c.args.self.now in
    let i = c.args.who.0 in
    let c0 = c.index_mut-process.result.now in
    let y = c.start_if_down-started.new.self in
    let c1 = c.note.new.process in
    let started = c.start_if_down-started.result in
    let index : i < vec_len w.processes = omega (arith, c.if-i-len.false, c.len.ensures) in
    let was = read-at w i c0 index c.index_mut-process.ensures.value in
    let done = when started act.Start in
    on-ok c.tell.result _ _ (λ told doc k before arriving coming h r lawful few.
    let s = r.world.processes i c0 was in
    let begun = begun-kept doc k c.args.who h y c1 started c.note.ensures.stands c.note.ensures.incarnation (c.start_if_down-started.ensures.stands doc (processes doc) k c.args.who h s r.world.rest.document.at r.world.rest.plain few) in
    let who = actor-is i c1 c.actor-actor.result c.actor-actor.ensures (ap (λ m. m.0) (c.note.ensures.same.me ∙ c.start_if_down-started.ensures.same.me) ∙ process-me doc i h c0 s) in
    let new_is = told ∙ ap (λ a. c.args.deeds.now ++ deeds_of w.beat.0 c.actor-actor.result a) c.start_act.ensures ∙ ap (λ n. c.args.deeds.now ++ deeds_of n c.actor-actor.result done) r.world.rest.document.at ∙ ap (λ x. c.args.deeds.now ++ deeds_of k x done) who in
    running-moved doc k i before c.args.deeds.now c.tell.new.deeds (started_deeds k (identity i (incarnation_of c1)) started) arriving coming h (happens doc k (what.Start c.args.who) h) c0 c1 w _ r (one_process_moved was refl) refl
    (around-begin doc k c.args.who arriving coming h w lawful (around-world doc k i arriving coming h w r.world)) begun.stands begun.told new_is) c.tell.ensures
