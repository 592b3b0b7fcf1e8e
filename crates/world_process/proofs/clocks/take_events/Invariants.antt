use Rattle.std.proofs.Common.{◌≡◌, ◌++◌, ℕ, drop, take}
use Rattle.kube_objects.specs.Clocks.{last_rate}
use Rattle.kube_objects.specs.Newest.{or_else}
use Rattle.pause_times.specs.Owned.{pauses_of}
use Rattle.skew_clock.specs.Clocking.{rate_at, last_set}
use Rattle.world_process.specs.Clocked.{AreEventsFrom, SameSpan}
use Rattle.world_process.proofs.clocks.take_events.Given as goal

abbrev pub invariant-loop-event : goal.invariant-loop-event
invariant-loop-event l =
    record {
      same : SameSpan l.initial.clock l.clock;
      events : AreEventsFrom l.clock.end (last_set l.clock.sets) (drop l.event-index l.events);
      rates : (j : ℕ) → rate_at l.clock.sets j ≡ or_else (rate_at l.initial.clock.sets j) (last_rate l.me.0 j (take l.event-index l.events));
      pauses : l.pauses.all.items ≡ l.initial.pauses.all.items ++ pauses_of l.me.0 (take l.event-index l.events);
    }
