use Rattle.std.proofs.Common.{None, refl, sym, subst}
use Rattle.world_process.specs.Beats.{IsBeatOf}
use Rattle.world_process.proofs.Wakes.{beat-of}
use Rattle.world_process.proofs.clocks.first_beat.Goals as goal

pub returns-in-Some : goal.returns-in-Some
returns-in-Some c =
    subst (IsBeatOf c.args.clock.now c.first_beat.result) (sym c.in-Some.is)
    (beat-of c.args.clock.now c.in-Some.at c.first_beat.result c.first_beat.ensures.first c.first_beat.ensures.none)

pub returns-in-None : goal.returns-in-None
returns-in-None c =
    let never : IsBeatOf c.args.clock.now None None = record { tells = λ j within. refl; within = tt } in
    subst (IsBeatOf c.args.clock.now None) (sym c.in-None.is) never
