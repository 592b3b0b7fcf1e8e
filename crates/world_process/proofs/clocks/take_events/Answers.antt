use Rattle.std.proofs.Common.{◌≡◌, ◌+◌, ◌++◌, ◌∷◌, take, drop, sym, ◌∙◌, subst}
use Rattle.kube_objects.specs.Clocks.{last_rate}
use Rattle.kube_objects.specs.Newest.{or_else}
use Rattle.pause_times.specs.Owned.{pauses_of}
use Rattle.skew_clock.specs.Clocking.{last_set, rate_at}
use Rattle.world_process.specs.Clocked.{AreEventsFrom, SameSpan}
use Rattle.world_process.proofs.Rates.{events-set, events-unset, pauses-taken, rates-set, rates-unset, same-set}
use Rattle.world_process.proofs.clocks.take_events.Goals as goal
use Rattle.world_process.proofs.clocks.take_events.Goals.{in-Some+in_ok-set_rate, in_default}

pub loop-event-preserved : goal.loop-event-preserved
loop-event-preserved c =
    let me = c.args.me.0 in
    let first = c.args.pauses.now.all.items in
    let added : c.add.new.self.all.items ≡ first ++ pauses_of me (take (c.loop-event.event-index + 1) c.args.events.now) =
    pauses-taken me first c.loop-event.pauses.all.items c.add.new.self.all.items c.args.events.now c.loop-event.event-index c.event-item.result c.loop-event-test.true c.event-item.is c.loop-event.invariant.pauses c.in_ok-add.ensures in
    elim c.match-rate_of.branch [
      | in-Some+in_ok-set_rate w ↦
          let old = c.loop-event.clock in
          let new = c.match-rate_of.clock in
          let es = c.args.events.now in
          let n = c.loop-event.event-index in
          let set : new ≡ record old { sets = (c.event-item.result.beat.0, w.in-Some.ppm) ∷ old.sets } = w.clock-is ∙ w.in_ok-set_rate.ensures.ok in
          record {
            same = same-set c.args.clock.now old new ((c.event-item.result.beat.0, w.in-Some.ppm) ∷ old.sets) set c.loop-event.invariant.same;
            events = events-set old new w.in-Some.ppm es n c.event-item.result c.loop-event-test.true c.event-item.is set c.loop-event.invariant.events;
            rates = λ j. rates-set c.args.me.0 j (rate_at c.args.clock.now.sets j) w.in-Some.ppm old new es n c.event-item.result c.loop-event-test.true c.event-item.is set (sym w.in-Some.is ∙ c.rate_of.ensures) (c.loop-event.invariant.rates j);
            pauses = added;
          }
      | in_default w ↦
          let old = c.loop-event.clock in
          let es = c.args.events.now in
          let n = c.loop-event.event-index in
          let is = w.clock-is in
          record {
            same = subst (SameSpan c.args.clock.now) (sym is) c.loop-event.invariant.same;
            events = subst (λ x. AreEventsFrom x.end (last_set x.sets) (drop (n + 1) es)) (sym is) (events-unset old.end (last_set old.sets) es n c.event-item.result c.loop-event-test.true c.event-item.is c.loop-event.invariant.events);
            rates = λ j. subst (λ x. rate_at x.sets j ≡ or_else (rate_at c.args.clock.now.sets j) (last_rate c.args.me.0 j (take (n + 1) es))) (sym is)
                (rates-unset c.args.me.0 j (rate_at c.args.clock.now.sets j) (rate_at old.sets j) es n c.event-item.result c.loop-event-test.true c.event-item.is (sym w.in_default.is ∙ c.rate_of.ensures) (c.loop-event.invariant.rates j));
            pauses = added;
          }
    ]
