use Rattle.std.proofs.Common.{sym, ◌∙◌, subst}
use Rattle.world_process.specs.Beats.{IsBeatOf}
use Rattle.world_process.specs.Processes.{clock_of}
use Rattle.world_core.proofs.Awake.{its-clock, same-reading, turn-beat}
use Rattle.world_core.proofs.Moving.{read-at}
use Rattle.world_core.proofs.world.World.turn_beat.Goals as goal

pub returns-then-eq : goal.returns-then-eq
returns-then-eq c doc k h s end =
    let p = c.args.who.0 in
    let x = c.index-process.result.now in
    let was = read-at c.args.self.now p x c.requires.process c.index-process.ensures in
    let stands = s.within.processes p x was in
    let same = same-reading c.args.wakes.now.local c.wake.result (sym c.eq.ensures ∙ c.if-eq.true) in
    turn-beat doc p (clock_of x) c.args.wakes.now c.turn_beat.result (its-clock doc p h x stands) (c.requires.ready.clocks p x was ∙ end)
    (c.turn_beat.ensures.first doc p h c.args.wakes.now.local stands (same ∙ c.wake.ensures doc p h stands))

pub returns : goal.returns
returns c doc k h s end =
    let p = c.args.who.0 in
    let x = c.index-process.result.now in
    let was = read-at c.args.self.now p x c.requires.process c.index-process.ensures in
    let stands = s.within.processes p x was in
    turn-beat doc p (clock_of x) c.args.wakes.now c.first_beat.result (its-clock doc p h x stands) (c.requires.ready.clocks p x was ∙ end)
    (subst (λ l. IsBeatOf l c.first_beat.result c.args.wakes.now.local) c.clock.ensures c.first_beat.ensures)
