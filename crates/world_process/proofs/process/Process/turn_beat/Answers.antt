use Rattle.std.proofs.Common.{sym, ◌∙◌}
use Rattle.world_process.proofs.Wakes.{FirstBeats, beat-found, first-woken, first-within}
use Rattle.world_process.proofs.process.Process.turn_beat.Goals as goal

pub returns : goal.returns
returns c =
    let x = c.args.self.now in
    let o = c.beat_of.result in
    let first : FirstBeats x o =
    λ doc p h at s is.
    beat-found doc p h x c.clock.result.now c.waking.result.now o c.wake.result at c.clock.ensures c.waking.ensures (c.wake.ensures doc p h s ∙ sym is) c.beat_of.ensures s in
    record { first = first; woken = first-woken x o first; within = first-within x o first }
