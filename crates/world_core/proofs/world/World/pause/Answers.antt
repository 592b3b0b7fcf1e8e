use Rattle.std.proofs.Common.{◌<◌, ◌++◌, vec_len, ap, ◌∙◌, arith}
use Rattle.kube_objects.specs.declared.deed.Act.TheVariants as act
use Rattle.kube_objects.specs.Newest.{when}
use Rattle.history.specs.Printed.{deeds_of}
use Rattle.world_process.specs.Processes.{incarnation_of}
use Rattle.world_process.proofs.Processes.{process-me}
use Rattle.world_core.proofs.Moving.{read-at, actor-is, on-ok}
use Rattle.world_core.proofs.Scripts.{running-stalled}
use Rattle.world_core.proofs.world.World.pause.Goals as goal

pub returns : goal.returns
returns c =
    let w = c.args.self.now in
    let i = c.args.who.0 in
    let x = c.index-process.result.now in
    let index : i < vec_len w.processes = omega (arith, c.if-i-len.false, c.len.ensures) in
    let was = read-at w i x index c.index-process.ensures in
    let done = when c.is_up-up.result (act.Pause c.args.beats) in
    on-ok c.tell.result _ _ (λ told doc k before arriving coming h r lawful few.
    let s = r.world.processes i x was in
    let who = actor-is i x c.actor.result c.actor.ensures (process-me doc i h x s) in
    let new_is = told ∙ ap (λ a. c.args.deeds.now ++ deeds_of w.beat.0 c.actor.result a) c.pause_act.ensures ∙ ap (λ n. c.args.deeds.now ++ deeds_of n c.actor.result done) r.world.rest.document.at ∙ ap (λ a. c.args.deeds.now ++ deeds_of k a done) who in
    running-stalled doc k before c.args.deeds.now c.tell.new.deeds arriving coming h w c.args.who c.args.beats (incarnation_of x) c.is_up-up.result r lawful.0 (c.is_up-up.ensures doc i h s) new_is) c.tell.ensures
