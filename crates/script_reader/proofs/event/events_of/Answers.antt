use Rattle.script_reader.specs.Cast.{seen}
use Rattle.script_reader.proofs.Loops.{events-start, events-fail, events-step, events-end}
use Rattle.script_reader.proofs.event.events_of.Goals as goal

pub loop-place-init : goal.loop-place-init
loop-place-init c =
    (events-start c.args.scope (seen c.args.players.now) c.args.names.now c.args.list.now c.new-script.result.events c.new-script.result.last.0 c.new-script.ensures.events c.new-script.ensures.last, c.new-script.ensures.indexed)

pub returns-in-Err : goal.returns-in-Err
returns-in-Err c = events-fail c.loop-place.names c.loop-place.place c.args.list.now c.args.scope (seen c.args.players.now) c.loop-place.script.last.0 c.loop-place.script.events _ c.loop-place.invariant.0 c.index-list-place.result c.in-Err.fault c.loop-place-test.true c.index-list-place.is c.in-Err.ensures

pub loop-place-preserved : goal.loop-place-preserved
loop-place-preserved c = (
  events-step c.loop-place.names c.loop-place.place c.args.list.now c.args.scope (seen c.args.players.now) c.loop-place.script.last.0 c.loop-place.script.events _ c.loop-place.invariant.0 c.index-list-place.result c.event_at.new.names c.in-Ok.event c.push.new.self.events c.push.new.self.last c.loop-place-test.true c.index-list-place.is c.in_ok-push-in-Ok.ensures.events c.in_ok-push-in-Ok.ensures.last c.in-Ok.ensures,
  c.in_ok-push-in-Ok.ensures.indexed,
)

pub returns : goal.returns
returns c = events-end c.loop-place.names c.loop-place.place c.args.list.now c.args.scope (seen c.args.players.now) c.loop-place.script.last.0 c.loop-place.script.events _ c.loop-place.invariant.0 c.loop-place-test.false
