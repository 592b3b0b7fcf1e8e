use Rattle.std.proofs.Common.{◌≡◌, ◌<◌, not, true, false, refl, sym, ap, ◌∙◌, subst}
use Rattle.kube_objects.specs.Document.{processes}
use Rattle.kube_objects.specs.InForce.{watches}
use Rattle.kube_objects.specs.Stalls.{is_stalled}
use Rattle.kube_objects.specs.Wire.{loses_requests}
use Rattle.world_process.specs.Processes.{leads_now}
use Rattle.world_process.proofs.Processes.{process-me}
use Rattle.world_core.proofs.MidBeat.{one_process_moved}
use Rattle.world_core.proofs.Moving.{read-at, room-for, within-end, within-processes}
use Rattle.world_core.proofs.Noting.{keeps-noted}
use Rattle.world_core.proofs.Ticking.{can-tick, keeps-stored, running-stalled, running-ticked, running-unticked}
use Rattle.world_core.proofs.world.World.tick.Goals as goal

pub returns-then-is_none-clause-stands : goal.returns-then-is_none-clause-stands
returns-then-is_none-clause-stands g c doc k before arriving coming h r unticked timely few =
    let w = c.args.self.now in
    let i = c.args.i in
    let x = c.index.result.now in
    let s = r.world.processes i x (read-at w i x c.requires.index c.index.ensures) in
    let none : leads_now doc k i h ≡ false = sym (c.leadership.ensures.leads doc k i h s r.world.rest.document.at) ∙ c.is_none.ensures ∙ ap not c.if-is_none.true in
    running-unticked doc k i before c.args.deeds.now arriving coming h w none r

pub returns-then-is_stalled-clause-stands : goal.returns-then-is_stalled-clause-stands
returns-then-is_stalled-clause-stands g c doc k before arriving coming h r unticked timely few =
    let d = r.world.rest.document in
    let stands : is_stalled doc k ≡ true = ap (is_stalled doc) (sym d.at) ∙ sym (c.is_stalled.ensures doc d.stalls) ∙ c.if-is_stalled.true in
    running-stalled doc k c.args.i before c.args.deeds.now arriving coming h c.args.self.now stands r

pub tick-requires : goal.tick-requires
tick-requires g c =
    let w = c.args.self.now in
    let x = c.index_mut-process.result.now in
    within-end w c.args.i x c.requires.running.ready c.requires.running.within (read-at w c.args.i x c.requires.index c.index_mut-process.ensures.value)

pub note-requires : goal.note-requires
note-requires g c = room-for c.args.self.now c.args.i c.requires.running.ready c.requires.index

pub returns-clause-kept : goal.returns-clause-kept
returns-clause-kept g c =
    let w = c.args.self.now in
    let was = read-at w c.args.i c.index_mut-process.result.now c.requires.index c.index_mut-process.ensures.value in
    keeps-stored w _ c.tick.new.store (λ ready. keeps-noted c.tick.ensures.same c.tick.ensures.waking c.note.ensures.same c.note.ensures.kept
    (record { room = c.note.ensures.room; leaves = c.note.ensures.leaves }) ready (one_process_moved was refl) refl) c.requires.running.ready

pub returns-clause-stands : goal.returns-clause-stands
returns-clause-stands g c doc k before arriving coming h r unticked timely few =
    let w = c.args.self.now in
    let i = c.args.i in
    let x = c.index_mut-process.result.now in
    let y = c.tick.new.self in
    let z = c.note.new.process in
    let was = read-at w i x c.requires.index c.index_mut-process.ensures.value in
    let s = r.world.processes i x was in
    let within = within-processes doc k w i r.world.rest.document c.requires.index in
    let named = c.index-2.result.now in
    let me : c.me-who.result.0 ≡ i = ap (λ m. m.0) c.me-who.ensures ∙ process-me doc i h named (r.world.processes i named (read-at w i named c.requires.index c.index-2.ensures)) in
    let watch = c.watch-watch.ensures doc h r.world.rest.in_force (subst (λ p. p < processes doc) (sym me) within) ∙ ap (λ p. watches doc p h) me in
    let passes = c.passes-passes.ensures (processes doc) k arriving coming h r.world.rest.wire ∙ ap (λ p. not (loses_requests p h)) me in
    let d = r.world.rest.document in
    let goes : is_stalled doc k ≡ false = ap (is_stalled doc) (sym d.at) ∙ sym (c.is_stalled.ensures doc d.stalls) ∙ c.if-is_stalled.false in
    let ticked = c.in_ok-tick.ensures.stands doc k i h s r.world.rest.store r.world.rest.document.at watch passes (λ sort. can-tick doc k i h goes (unticked sort) timely few) in
    running-ticked doc k i before c.args.deeds.now c.tick.new.deeds arriving coming h x y z w _ c.tick.new.store within (one_process_moved was refl) refl (λ g stands. c.note.ensures.stands doc i g stands) r ticked
