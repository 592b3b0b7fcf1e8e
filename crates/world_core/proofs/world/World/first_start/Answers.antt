use Rattle.std.proofs.Common.{◌≡◌, ◌<◌, ◌+◌, ◌^◌, ◌++◌, Some, refl, sym, ap, ◌∙◌, subst}
use Rattle.kube_objects.specs.declared.deed.Act.TheVariants as act
use Rattle.kube_objects.specs.Document.{processes}
use Rattle.kube_objects.specs.Process.{starts}
use Rattle.history.specs.Printed.{deeds_of}
use Rattle.history.specs.Steps.{start, start_first}
use Rattle.world_process.specs.Plain.{IsFew}
use Rattle.world_process.proofs.Processes.{process-me, process-up_first}
use Rattle.world_core.proofs.Moving.{read-at, within-end, within-processes, actor-is, on-ok, room-for}
use Rattle.world_core.proofs.Noting.{kept-after}
use Rattle.world_core.proofs.Turns.{same-twice}
use Rattle.world_process.proofs.Restarts.{starts-few}
use Rattle.world_core.proofs.MidBeat.{first-not, first-started, keeps-moved, keeps-set, one_process_moved}
use Rattle.world_core.proofs.world.World.first_start.Goals as goal

pub returns-then-not-is_up_first-clause-stands : goal.returns-then-not-is_up_first-clause-stands
returns-then-not-is_up_first-clause-stands c doc before arriving coming h r few =
    let was = read-at c.args.self.now c.args.i c.index_mut-process.result.now c.requires.index c.index_mut-process.ensures.value in
    first-not doc c.args.i before c.args.deeds.now arriving coming h c.index_mut-process.result.now c.args.self.now _ r (one_process_moved was refl) refl (sym c.is_up_first.ensures ∙ c.if-not-is_up_first.true)

pub start-requires : goal.start-requires
start-requires c =
    let was = read-at c.args.self.now c.args.i c.index_mut-process.result.now c.requires.index c.index_mut-process.ensures.value in
    within-end c.args.self.now c.args.i c.index_mut-process.result.now c.requires.running.ready c.requires.running.within was

pub note-requires : goal.note-requires
note-requires c = room-for c.args.self.now c.args.i c.requires.running.ready c.requires.index

pub returns-clause-kept : goal.returns-clause-kept
returns-clause-kept c =
    let w = c.args.self.now in
    let x = c.index_mut-process.result.now in
    let y = c.start.new.self in
    let z = c.note.new.process in
    let was = read-at w c.args.i x c.requires.index c.index_mut-process.ensures.value in
    on-ok c.tell.result _ _ (λ told. keeps-moved c.args.i x z w _ c.requires.running.ready (one_process_moved was refl) refl (same-twice x y z c.start.ensures.same c.note.ensures.same)
    (kept-after x y z (c.requires.running.ready.kept c.args.i x was) c.start.ensures.same c.start.ensures.waking c.note.ensures.kept) (record { room = c.note.ensures.room; leaves = c.note.ensures.leaves })) c.tell.ensures

pub returns-then-not-is_up_first-clause-kept : goal.returns-then-not-is_up_first-clause-kept
returns-then-not-is_up_first-clause-kept c =
    let was = read-at c.args.self.now c.args.i c.index_mut-process.result.now c.requires.index c.index_mut-process.ensures.value in
    keeps-set c.args.i c.index_mut-process.result.now c.args.self.now _ c.requires.running.ready (one_process_moved was refl) refl refl

pub returns-clause-stands : goal.returns-clause-stands
returns-clause-stands c doc before arriving coming h r few =
    let w = c.args.self.now in
    let i = c.args.i in
    let c0 = c.index_mut-process.result.now in
    let c1 = c.note.new.process in
    let was = read-at w i c0 c.requires.index c.index_mut-process.ensures.value in
    let s = r.world.processes i c0 was in
    let up = sym c.is_up_first.ensures ∙ c.if-not-is_up_first.false in
    let at : w.beat.0 ≡ 0 = r.world.rest.document.at in
    let count : starts i h + 1 < 2 ^ 32 = starts-few 0 1 i h (subst (λ b. IsFew (start_first i b h)) (sym (process-up_first doc i h c0 s) ∙ up) few) in
    let stands = c.note.ensures.stands doc i (start 0 1 i h) (c.start.ensures.stands doc (processes doc) 0 1 i h s at r.world.rest.plain count) in
    on-ok c.tell.result _ _ (λ told.
    first-started doc i before c.args.deeds.now c.tell.new.deeds arriving coming h c0 c1 w _ r (within-processes doc 0 w i r.world.rest.document c.requires.index) (one_process_moved was refl) refl up stands
    (told ∙ ap (λ n. c.args.deeds.now ++ deeds_of n c.actor-actor.result (Some act.Start)) at ∙ ap (λ who. c.args.deeds.now ++ deeds_of 0 who (Some act.Start)) (actor-is i c1 c.actor-actor.result c.actor-actor.ensures (process-me doc i (start 0 1 i h) c1 stands)))) c.tell.ensures
