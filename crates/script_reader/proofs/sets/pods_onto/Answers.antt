use Rattle.std.proofs.Common.{◌∙◌}
use Rattle.script_reader.specs.SetParts.{alike}
use Rattle.script_reader.proofs.SetLoops.{pods-fail, pods-step, pods-end}
use Rattle.script_reader.proofs.sets.pods_onto.Goals as goal

pub returns-in-Err-clause-gives : goal.returns-in-Err-clause-gives
returns-in-Err-clause-gives c = pods-fail c.loop-j.kept.scale c.loop-j.names c.args.path.now (alike c.args.pattern.now) c.loop-j.j c.loop-j.kept.items c.args.nodes.now _ c.loop-j.invariant.rest c.in-Err.fault c.loop-j-test.true c.in-Err.ensures.gives

pub loop-j-preserved : goal.loop-j-preserved
loop-j-preserved c = record {
  rest = pods-step c.loop-j.kept.scale c.loop-j.names c.args.path.now (alike c.args.pattern.now) c.loop-j.j c.loop-j.kept.items c.args.nodes.now _ c.loop-j.invariant.rest c.pod_onto.new.names c.pod_onto.new.kept.items c.pod_onto.new.kept.scale c.loop-j-test.true c.in-Ok.ensures.scale c.in-Ok.ensures.gives;
  stands = c.in-Ok.ensures.stands;
  scale = c.in-Ok.ensures.scale ∙ c.loop-j.invariant.scale;
}

pub returns-clause-gives : goal.returns-clause-gives
returns-clause-gives c = pods-end c.loop-j.kept.scale c.loop-j.names c.args.path.now (alike c.args.pattern.now) c.loop-j.j c.loop-j.kept.items c.args.nodes.now _ c.loop-j.invariant.rest c.loop-j-test.false
