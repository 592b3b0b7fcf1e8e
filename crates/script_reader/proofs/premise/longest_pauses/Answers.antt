use Rattle.script_reader.proofs.ClockRatesLemmas.{longest-event, second-event}
use Rattle.script_reader.proofs.premise.longest_pauses.Goals as goal

pub loop-place-preserved-in-loop-place : goal.loop-place-preserved-in-loop-place
loop-place-preserved-in-loop-place c =
    let e = c.index-events-place.result in (
      longest-event c.args.controller c.loop-place.place _ _ _ e c.in-Pause.id c.in-Pause.beats c.loop-place-test.true c.loop-place.auto.place c.index-events-place.is c.in-Pause.is c.if-id-controller.true c.loop-place.invariant.0 c.with_pause-pauses.ensures.longest,
      second-event c.args.controller c.loop-place.place _ _ _ _ e c.in-Pause.id c.in-Pause.beats c.loop-place-test.true c.loop-place.auto.place c.index-events-place.is c.in-Pause.is c.if-id-controller.true c.loop-place.invariant.0 c.loop-place.invariant.1 c.with_pause-pauses.ensures.second,
      c.with_pause-pauses.result.longest_fits,
      c.with_pause-pauses.result.second_fits,
    )
