use Rattle.std.proofs.Common.{length, ap, ◌∙◌, refl}
use Rattle.byte_edge.proofs.Fronts.{gave-nothing}
use Rattle.script_reader.specs.Documents.{doc_of}
use Rattle.world_core.specs.Worlds.{names_of}
use Rattle.replay_top.specs.Traces.{trace}
use Rattle.replay_top.proofs.Said.{written-all, written-front}
use Rattle.replay_top.proofs.Grown.{trace-written, whole-counted}
use Rattle.replay_top.proofs.Writables.{process_names-count}
use Rattle.replay_top.proofs.trace.write_trace.Goals as goal

pub write_beats-requires-clause-runs : goal.write_beats-requires-clause-runs
write_beats-requires-clause-runs g c =
    let d = c.args.document in
    let steps = c.args.steps.now in
    (doc_of d, steps, c.in-Ok.ensures.runs steps, ap length (c.as_slice.ensures ∙ c.in-Ok.ensures.processes) ∙ process_names-count d.names (doc_of d))

pub returns-in-Ok-clause-all : goal.returns-in-Ok-clause-all
returns-in-Ok-clause-all g c =
    let d = c.args.document in
    let steps = c.args.steps.now in
    let before = g.K.Sink.taken c.args.sink.now in
    written-all before (g.K.Sink.taken c.write_beats.new.sink) (trace d) c.write_beats.result
    (trace-written d (names_of c.in-Ok.world) c.as_slice.result.now before (g.K.Sink.taken c.write_beats.new.sink) c.new-buffer.result.text.items c.start.new.buffer.text.items c.write_beats.result c.new-buffer.ensures c.in-Ok.ensures.text c.in-Ok.ensures.names (c.as_slice.ensures ∙ c.in-Ok.ensures.processes)
    (c.write_beats.ensures.written (doc_of d) steps before (c.in-Ok.ensures.runs steps) refl))

pub returns-in-Ok-clause-front : goal.returns-in-Ok-clause-front
returns-in-Ok-clause-front g c =
    let d = c.args.document in
    let steps = c.args.steps.now in
    let before = g.K.Sink.taken c.args.sink.now in
    written-front before (g.K.Sink.taken c.write_beats.new.sink) (trace d) c.write_beats.result
    (trace-written d (names_of c.in-Ok.world) c.as_slice.result.now before (g.K.Sink.taken c.write_beats.new.sink) c.new-buffer.result.text.items c.start.new.buffer.text.items c.write_beats.result c.new-buffer.ensures c.in-Ok.ensures.text c.in-Ok.ensures.names (c.as_slice.ensures ∙ c.in-Ok.ensures.processes)
    (c.write_beats.ensures.written (doc_of d) steps before (c.in-Ok.ensures.runs steps) refl))

pub returns-clause-front : goal.returns-clause-front
returns-clause-front g c = gave-nothing (g.K.Sink.taken c.args.sink.now) (trace c.args.document)

pub returns-in-Ok-clause-counted : goal.returns-in-Ok-clause-counted
returns-in-Ok-clause-counted g c =
    let doc = doc_of c.args.document in
    let steps = c.args.steps.now in
    whole-counted doc doc steps c.write_beats.new.steps refl (c.write_beats.ensures.counted doc steps (c.in-Ok.ensures.runs steps))
