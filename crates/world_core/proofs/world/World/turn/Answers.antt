use Rattle.std.proofs.Common.{◌≡◌, ◌<◌, sym, ap, ◌∙◌, arith}
use Rattle.std.proofs.lemmas.Bool.Decides.{nat_tests}
use Rattle.agenda_laws.specs.Times.{is_early}
use Rattle.world_process.specs.Beats.{beat_in}
use Rattle.world_core.proofs.Moving.{read-at}
use Rattle.world_core.proofs.Turns.{running-early}
use Rattle.world_core.proofs.world.World.turn.Goals as goal

pub returns-in_default-clause-stands : goal.returns-in_default-clause-stands
returns-in_default-clause-stands c doc k before arriving coming h r few =
    let at : c.args.self.now.beat.0 ≡ k = r.world.rest.document.at in
    let less : k < c.in-Some.wakes.0 = (let later = c.if-wakes-self.false in omega (arith, at, later)) in
    let early = ap (λ b. is_early k (beat_in b)) (sym c.kept_beat.ensures ∙ c.in-Some.is) ∙ grind (arith, nat_tests, less) in
    running-early doc k c.args.i before c.args.deeds.now arriving coming h c.index.result.now c.args.self.now c.requires.running.ready c.requires.running.within
    (read-at c.args.self.now c.args.i c.index.result.now c.requires.index c.index.ensures) early r

pub returns-in_default-2-clause-stands : goal.returns-in_default-2-clause-stands
returns-in_default-2-clause-stands c doc k before arriving coming h r few =
    let early = ap (λ b. is_early k (beat_in b)) (sym c.kept_beat.ensures ∙ c.in_default.is) in
    running-early doc k c.args.i before c.args.deeds.now arriving coming h c.index.result.now c.args.self.now c.requires.running.ready c.requires.running.within
    (read-at c.args.self.now c.args.i c.index.result.now c.requires.index c.index.ensures) early r
