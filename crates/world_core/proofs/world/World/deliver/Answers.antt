use Rattle.std.proofs.Common.{◌≡◌, ◌<◌, ◌++◌, option_map, vec_len, refl, sym, ap, ◌∙◌, arith}
use Rattle.kube_objects.specs.declared.deed.Act.TheVariants as act
use Rattle.kube_objects.specs.Identities.{identity}
use Rattle.kube_objects.specs.Newest.{when}
use Rattle.history.specs.Printed.{deeds_of}
use Rattle.history.specs.Steps.{delivered}
use Rattle.world_process.proofs.Grows.{few-before, grows-delivered}
use Rattle.world_process.proofs.Processes.{process-me}
use Rattle.world_core.proofs.Moving.{read-at, within-processes, actor-is, on-ok, room-for, sends-as}
use Rattle.world_core.proofs.Noting.{kept-after, replied-kept}
use Rattle.world_core.proofs.Turns.{same-twice}
use Rattle.world_core.proofs.MidBeat.{keeps-moved, running-replied, one_process_moved}
use Rattle.world_core.proofs.world.World.deliver.Goals as goal

pub note-requires : goal.note-requires
note-requires c =
    let i = c.args.back.now.who.0 in
    let index : i < vec_len c.args.self.now.processes = omega (arith, c.if-i-len.false, c.len.ensures) in
    room-for c.args.self.now i c.requires.running.ready index

pub returns-clause-kept : goal.returns-clause-kept
returns-clause-kept c =
    let i = c.args.back.now.who.0 in
    let index : i < vec_len c.args.self.now.processes = omega (arith, c.if-i-len.false, c.len.ensures) in
    let w = c.args.self.now in
    let was = read-at w i c.index_mut-process.result.now index c.index_mut-process.ensures.value in
    on-ok c.send_asked.result _ _ (λ sent. keeps-moved i c.index_mut-process.result.now c.note.new.process w _ c.requires.running.ready (one_process_moved was refl) refl (same-twice c.index_mut-process.result.now c.receive-received.new.self c.note.new.process c.receive-received.ensures.same c.note.ensures.same) (kept-after c.index_mut-process.result.now c.receive-received.new.self c.note.new.process (c.requires.running.ready.kept i c.index_mut-process.result.now was) c.receive-received.ensures.same c.receive-received.ensures.waking c.note.ensures.kept) (record { room = c.note.ensures.room; leaves = c.note.ensures.leaves })) c.send_asked.ensures.sends

pub returns-clause-stands : goal.returns-clause-stands
returns-clause-stands c doc k before arriving coming h b r is known few =
    let w = c.args.self.now in
    let back = c.args.back.now in
    let i = back.who.0 in
    let c0 = c.index_mut-process.result.now in
    let y = c.receive-received.new.self in
    let c1 = c.note.new.process in
    let index : i < vec_len w.processes = omega (arith, c.if-i-len.false, c.len.ensures) in
    let was = read-at w i c0 index c.index_mut-process.ensures.value in
    let done = option_map act.Lead c.receive-received.result.lead in
    let s = r.world.processes i c0 was in
    let within = within-processes doc k w i r.world.rest.document index in
    let at : w.beat.0 ≡ k = r.world.rest.document.at in
    let process : b.who.process ≡ i = ap (λ d. d.who.0) (sym is) in
    let whose : b.who ≡ identity i back.incarnation = ap (λ n. identity n b.who.incarnation) process ∙ ap (λ n. identity i n) (ap (λ d. d.incarnation) (sym is)) in
    let replied = replied-kept doc k i b h y c1 c.receive-received.result c.note.ensures.stands c.note.ensures.incarnation (c.receive-received.ensures.stands doc k i b h s at whose (ap (λ d. d.number) (sym is)) (ap (λ d. d.reply) (sym is)) r.world.rest.document.restart (few-before h (delivered doc k b h) (grows-delivered doc k b h) few)) in
    let me = ap (λ m. m.0) (c.note.ensures.same.me ∙ c.receive-received.ensures.same.me) ∙ process-me doc i h c0 s in
    let who = actor-is i c1 c.actor-actor.result c.actor-actor.ensures me in
    let named = c.actor-actor.result in
    let over = when c.receive-received.result.ended act.End in
    let told = c.in_ok-tell-2.ensures
    ∙ ap (λ ds. ds ++ deeds_of w.beat.0 named c.end_act.result) c.in_ok-tell.ensures
    ∙ ap (λ a. c.args.deeds.now ++ deeds_of w.beat.0 named a ++ deeds_of w.beat.0 named c.end_act.result) c.lead_act.ensures
    ∙ ap (λ a. c.args.deeds.now ++ deeds_of w.beat.0 named done ++ deeds_of w.beat.0 named a) c.end_act.ensures
    ∙ ap (λ n. c.args.deeds.now ++ deeds_of n named done ++ deeds_of n named over) at
    ∙ ap (λ x. c.args.deeds.now ++ deeds_of k x done ++ deeds_of k x over) who in
    on-ok c.send_asked.result _ _ (λ sent.
    let sends = sends-as k w.beat.0 i c.incarnation-incarnation.result c.me-who.result c1 c.receive-received.result.ask w.stalls w.wire c.send_asked.new.wire at c.me-who.ensures c.incarnation-incarnation.ensures me sent in
    running-replied doc k i before c.args.deeds.now c.tell-2.new.deeds arriving coming b h c0 c1 w _ c.receive-received.result r process within known (one_process_moved was refl) sends replied told) c.send_asked.ensures.sends
