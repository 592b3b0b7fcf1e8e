use Rattle.std.proofs.Common.{◌≡◌, ◌<◌, ◌++◌, true, false, refl, sym, ap, ◌∙◌, subst}
use Rattle.kube_objects.specs.declared.deed.Act.TheVariants as act
use Rattle.kube_objects.specs.Document.{processes}
use Rattle.kube_objects.specs.InForce.{posted_status}
use Rattle.kube_objects.specs.Newest.{when}
use Rattle.kube_objects.specs.Pauses.{is_paused}
use Rattle.history.specs.Printed.{deeds_of}
use Rattle.world_process.specs.Plain.{IsFew}
use Rattle.world_process.specs.Processes.{me_of}
use Rattle.world_process.proofs.Processes.{process-me}
use Rattle.world_core.proofs.Moving.{read-at, within-processes, actor-is, on-ok, sends-as, room-for}
use Rattle.world_core.proofs.Noting.{keeps-noted}
use Rattle.world_core.proofs.MidBeat.{running-turned, one_process_moved}
use Rattle.world_core.proofs.Turns.{awake-is, running-awake, running-paused, turned-kept}
use Rattle.world_core.proofs.world.World.take_turn.Goals as goal

pub note-requires : goal.note-requires
note-requires c = room-for c.args.self.now c.args.i c.requires.running.ready c.requires.index

pub returns-clause-kept : goal.returns-clause-kept
returns-clause-kept c =
    let was = read-at c.args.self.now c.args.i c.index_mut-process.result.now c.requires.index c.index_mut-process.ensures.value in
    on-ok c.send_asked.result _ _ (λ sent. keeps-noted c.turn-turn.ensures.same c.turn-turn.ensures.waking c.note.ensures.same c.note.ensures.kept
    (record { room = c.note.ensures.room; leaves = c.note.ensures.leaves }) c.requires.running.ready (one_process_moved was refl) refl) c.send_asked.ensures.sends

pub returns-then-is_paused-clause-stands : goal.returns-then-is_paused-clause-stands
returns-then-is_paused-clause-stands c doc k before arriving coming h r few =
    let w = c.args.self.now in
    let i = c.args.i in
    let x = c.index.result.now in
    let s = r.world.processes i x (read-at w i x c.requires.index c.index.ensures) in
    let paused : is_paused doc i k ≡ true = ap (is_paused doc i) (sym r.world.rest.document.at) ∙ sym (c.is_paused.ensures doc i h s) ∙ c.if-is_paused.true in
    running-paused doc k i before c.args.deeds.now arriving coming h w paused r

pub returns-clause-stands : goal.returns-clause-stands
returns-clause-stands c doc k before arriving coming h r few =
    let w = c.args.self.now in
    let i = c.args.i in
    let x = c.index_mut-process.result.now in
    let y = c.turn-turn.new.self in
    let z = c.note.new.process in
    let t = c.turn-turn.result in
    let named = c.actor-actor.result in
    let was = read-at w i x c.requires.index c.index_mut-process.ensures.value in
    let s = r.world.processes i x was in
    let d = r.world.rest.document in
    let at : w.beat.0 ≡ k = d.at in
    let awake : is_paused doc i k ≡ false = ap (is_paused doc i) (sym at) ∙ sym (c.is_paused.ensures doc i h (r.world.processes i c.index.result.now (read-at w i c.index.result.now c.requires.index c.index.ensures))) ∙ c.if-is_paused.false in
    let within = within-processes doc k w i d c.requires.index in
    let own : c.me.result.0 ≡ i = ap (λ m. m.0) c.me.ensures ∙ process-me doc i h x s in
    let status = c.status-status.ensures doc h r.world.rest.in_force (subst (λ n. n < processes doc) (sym own) within) ∙ ap (λ n. posted_status doc n h) own in
    let turned = turned-kept doc k i h y z t (λ g stands. c.note.ensures.stands doc i g stands)
    (c.turn-turn.ensures.stands doc (processes doc) k i h s at d.restart status r.world.rest.plain (subst IsFew (awake-is doc k i h awake) few)) in
    let me : (me_of z).0 ≡ i = ap (λ m. m.0) (c.note.ensures.same.me ∙ c.turn-turn.ensures.same.me) ∙ process-me doc i h x s in
    let who = actor-is i z named c.actor-actor.ensures me in
    let told = c.in_ok-tell-2.ensures
    ∙ ap (λ ds. ds ++ deeds_of w.beat.0 named c.end_act.result) c.in_ok-tell.ensures
    ∙ ap (λ a. c.args.deeds.now ++ deeds_of w.beat.0 named a ++ deeds_of w.beat.0 named c.end_act.result) c.start_act.ensures
    ∙ ap (λ a. c.args.deeds.now ++ deeds_of w.beat.0 named (when t.started act.Start) ++ deeds_of w.beat.0 named a) c.end_act.ensures
    ∙ ap (λ n. c.args.deeds.now ++ deeds_of n named (when t.started act.Start) ++ deeds_of n named (when t.ended act.End)) at
    ∙ ap (λ q. c.args.deeds.now ++ deeds_of k q (when t.started act.Start) ++ deeds_of k q (when t.ended act.End)) who in
    on-ok c.send_asked.result _ _ (λ sent.
    let sends = sends-as k w.beat.0 i c.incarnation-incarnation.result c.me-who.result z t.ask w.stalls w.wire c.send_asked.new.wire at c.me-who.ensures c.incarnation-incarnation.ensures me sent in
    running-awake doc k i before c.tell-2.new.deeds arriving coming h _ awake (running-turned doc k i before c.args.deeds.now c.tell-2.new.deeds arriving coming h x z w _ t r within (one_process_moved was refl) sends turned told)) c.send_asked.ensures.sends
