use Rattle.script_reader.proofs.SetLoops.{sets-fail, sets-step, sets-end}
use Rattle.script_reader.proofs.sets.sets_of.Goals as goal

pub returns-in-Err : goal.returns-in-Err
returns-in-Err c = sets-fail c.loop-place.kept.scale c.loop-place.names c.loop-place.place c.args.list.now c.loop-place.kept.items _ c.loop-place.invariant.rest c.index-list-place.result c.in-Err.fault c.loop-place-test.true c.index-list-place.is c.in-Err.ensures.gives

pub loop-place-preserved : goal.loop-place-preserved
loop-place-preserved c = record {
  rest = sets-step c.loop-place.kept.scale c.loop-place.names c.loop-place.place c.args.list.now c.loop-place.kept.items _ c.loop-place.invariant.rest c.index-list-place.result c.set_in.new.names c.set_in.new.kept.items c.set_in.new.kept.scale c.loop-place-test.true c.index-list-place.is c.in-Ok.ensures.scale c.in-Ok.ensures.gives;
  stands = c.in-Ok.ensures.stands;
}

pub returns : goal.returns
returns c = sets-end c.loop-place.kept.scale c.loop-place.names c.loop-place.place c.args.list.now c.loop-place.kept.items _ c.loop-place.invariant.rest c.loop-place-test.false
