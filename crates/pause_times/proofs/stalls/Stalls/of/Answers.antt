use Rattle.std.proofs.Common.{IfSome, ◌+◌, ◌<◌, ◌^◌, sym, ap, ◌∙◌, subst, arith}
use Rattle.std.proofs.lemmas.List.{take_all}
use Rattle.std.proofs.lemmas.List.Elements.{All-get_or}
use Rattle.kube_objects.specs.declared.script.Event.{Event}
use Rattle.kube_objects.specs.Stalls.{stall_of}
use Rattle.pause_times.specs.Owned.{stalls_of}
use Rattle.pause_times.proofs.Ends.{stalls-taken}
use Rattle.pause_times.proofs.stalls.Stalls.of.Goals as goal

abbrev Fits : Event → Type 0
Fits e = IfSome (stall_of e.what) (λ beats. e.beat.0 + beats < 2 ^ 32)

pub add-requires : goal.add-requires
add-requires c =
    subst Fits (sym c.event-item.is) (All-get_or Fits c.args.events.now c.loop-event.event-index c.event-item.result c.loop-event-test.true c.requires)

pub loop-event-preserved : goal.loop-event-preserved
loop-event-preserved c =
    stalls-taken c.loop-event.stalls.all.items c.add.new.self.all.items c.args.events.now c.loop-event.event-index c.event-item.result c.loop-event-test.true c.event-item.is c.loop-event.invariant c.in_ok-add.ensures

pub returns : goal.returns
returns c = c.loop-event.invariant ∙ ap stalls_of (take_all c.loop-event.event-index c.args.events.now (omega (arith, c.loop-event-test.false)))
