use Rattle.std.proofs.Common.{◌≡◌, ◌++◌, ◌+◌, length, refl, sym, subst, ap, ◌∙◌, arith}
use Rattle.byte_edge.specs.Bytes.{Gives, Gave}
use Rattle.kube_objects.specs.Document.{processes as process_count}
use Rattle.trace_writer.specs.Lines.{lines_of}
use Rattle.world_core.specs.Worlds.{at_of, names_of}
use Rattle.world_runs.specs.Runs.{AreNext}
use Rattle.replay_top.specs.Traces.{trace_before}
use Rattle.replay_top.specs.Spoken.{Spoken}
use Rattle.replay_top.proofs.Said.{spoken-given, spoken-front}
use Rattle.replay_top.proofs.Grown.{gave-so_far, gave-next, gave-whole, trace-next, trace-last}
use Rattle.replay_top.proofs.Writables.{writable-shown}
use Rattle.replay_top.proofs.trace.write_beats.Goals as goal

pub beats-init : goal.beats-init
beats-init g c = record {
  going = c.requires.going;
  names = refl;
  faults = omega arith;
  runs = λ doc first runs. runs;
  said = λ doc first before runs s.
      subst (λ k. Spoken before (g.K.Sink.taken c.args.sink.now) c.args.buffer.now.text.items (trace_before doc (names_of c.args.world.now) c.args.processes.now k)) (sym c.requires.first) s;
}

pub next_deeds-requires-clause-runs : goal.next_deeds-requires-clause-runs
next_deeds-requires-clause-runs g c = let r = c.requires.runs in (r.0, r.1, c.beats.invariant.runs r.0 r.1 r.2)

pub write_lines-requires : goal.write_lines-requires
write_lines-requires g c =
    let r = c.requires.runs in
    let done = c.in-Ok-Some.ensures in
    let next = subst (AreNext r.0 c.args.last.0 c.beats.world c.next_deeds.new.world) c.in-Ok-Some.field-0-is (done.next r.0 r.1 (c.beats.invariant.runs r.0 r.1 r.2)).1 in
    writable-shown (names_of c.beats.world) c.names.result.now (length c.args.processes.now) (process_count r.0) c.in-Ok-Some.deeds c.as_slice.result.now
    (c.names.ensures ∙ done.kept.1) r.3 c.as_slice.ensures next.writable

pub beats-preserved : goal.beats-preserved
beats-preserved g c =
    let names = names_of c.args.world.now in
    let processes = c.args.processes.now in
    let k = at_of c.beats.world in
    let m = at_of c.next_deeds.new.world in
    let done = c.in-Ok-Some.ensures in
    let shown : lines_of c.names.result.now processes c.as_slice.result.now ≡ lines_of names processes c.in-Ok-Some.deeds
    = ap (λ ns. lines_of ns processes c.as_slice.result.now) (c.names.ensures ∙ done.kept.1 ∙ c.beats.invariant.names) ∙ ap (lines_of names processes) c.as_slice.ensures in
    record {
      going = done.going;
      names = done.kept.1 ∙ c.beats.invariant.names;
      faults = omega (arith, c.beats.invariant.faults, c.write_lines.ensures.counted);
      runs = λ doc first runs. (done.next doc first (c.beats.invariant.runs doc first runs)).0;
      said = λ doc first before runs s.
          let next = subst (AreNext doc c.args.last.0 c.beats.world c.next_deeds.new.world) c.in-Ok-Some.field-0-is (done.next doc first (c.beats.invariant.runs doc first runs)).1 in
          subst (Spoken before (g.K.Sink.taken c.write_lines.new.sink) c.write_lines.new.buffer.text.items)
          (ap (λ l. trace_before doc names processes k ++ l) shown ∙ trace-next doc names processes k m c.in-Ok-Some.deeds next.printed)
          (c.in-Ok.ensures.spoken before (trace_before doc names processes k) (c.beats.invariant.said doc first before runs s));
    }

pub beats-smaller : goal.beats-smaller
beats-smaller g c =
    let r = c.requires.runs in
    let done = c.in-Ok-Some.ensures in
    let next = subst (AreNext r.0 c.args.last.0 c.beats.world c.next_deeds.new.world) c.in-Ok-Some.field-0-is (done.next r.0 r.1 (c.beats.invariant.runs r.0 r.1 r.2)).1 in
    omega (arith, next.later, done.going.up_to)

-- a fault comes in the lines of a beat
pub returns-in-Err-write_lines-clause-written : goal.returns-in-Err-write_lines-clause-written
returns-in-Err-write_lines-clause-written g c doc first before runs last s =
    let names = names_of c.args.world.now in
    let processes = c.args.processes.now in
    let k = at_of c.beats.world in
    let m = at_of c.next_deeds.new.world in
    let done = c.in-Ok-Some.ensures in
    let next = subst (AreNext doc c.args.last.0 c.beats.world c.next_deeds.new.world) c.in-Ok-Some.field-0-is (done.next doc first (c.beats.invariant.runs doc first runs)).1 in
    let shown : lines_of c.names.result.now processes c.as_slice.result.now ≡ lines_of names processes c.in-Ok-Some.deeds
    = ap (λ ns. lines_of ns processes c.as_slice.result.now) (c.names.ensures ∙ done.kept.1 ∙ c.beats.invariant.names) ∙ ap (lines_of names processes) c.as_slice.ensures in
    let after = g.K.Sink.taken c.write_lines.new.sink in
    gave-next doc names processes k m before after c.in-Ok-Some.deeds (omega (arith, done.going.up_to, last)) next.printed
    (subst (λ l. Gave before after (trace_before doc names processes k ++ l)) shown
    (c.in-Err-write_lines.ensures.front before (trace_before doc names processes k) (c.beats.invariant.said doc first before runs s)))

pub returns-in-Err-write_lines-clause-counted : goal.returns-in-Err-write_lines-clause-counted
returns-in-Err-write_lines-clause-counted g c doc first runs = c.next_deeds.ensures.counted doc first (c.beats.invariant.runs doc first runs)

pub returns-in-Err-clause-written : goal.returns-in-Err-clause-written
returns-in-Err-clause-written g c doc first before runs last s =
    let k = at_of c.beats.world in
    gave-so_far doc (names_of c.args.world.now) c.args.processes.now k before (g.K.Sink.taken c.beats.sink) c.beats.buffer.text.items
    (omega (arith, c.beats.invariant.going.up_to, last)) (c.beats.invariant.said doc first before runs s)

pub returns-in-Err-clause-counted : goal.returns-in-Err-clause-counted
returns-in-Err-clause-counted g c doc first runs = c.next_deeds.ensures.counted doc first (c.beats.invariant.runs doc first runs)

-- no entry stands any more
pub returns-in-Ok-give_all-clause-written : goal.returns-in-Ok-give_all-clause-written
returns-in-Ok-give_all-clause-written g c doc first before runs last s =
    let names = names_of c.args.world.now in
    let processes = c.args.processes.now in
    let k = at_of c.beats.world in
    let taken = g.K.Sink.taken in
    let after = taken c.give_all.new.sink in
    let done = (c.in-Ok-None.ensures.next doc first (c.beats.invariant.runs doc first runs)).1 in
    let next = subst (AreNext doc c.args.last.0 c.beats.world c.next_deeds.new.world) c.in-Ok-None.field-0-is done in
    let given = subst (Gives (taken c.beats.sink) after) c.deref.ensures.value c.in-Ok-give_all.ensures.all in
    subst (Gives before after) (trace-last doc names processes k c.args.last.0 last next.0)
    (spoken-given before (taken c.beats.sink) after c.beats.buffer.text.items (trace_before doc names processes k) (c.beats.invariant.said doc first before runs s) given)

pub returns-in-Ok-give_all-clause-counted : goal.returns-in-Ok-give_all-clause-counted
returns-in-Ok-give_all-clause-counted g c doc first runs = c.next_deeds.ensures.counted doc first (c.beats.invariant.runs doc first runs)

pub returns-in-Err-give_all-clause-written : goal.returns-in-Err-give_all-clause-written
returns-in-Err-give_all-clause-written g c doc first before runs last s =
    let names = names_of c.args.world.now in
    let processes = c.args.processes.now in
    let k = at_of c.beats.world in
    let taken = g.K.Sink.taken in
    let after = taken c.give_all.new.sink in
    let gave = subst (Gave (taken c.beats.sink) after) c.deref.ensures.value c.in-Err-give_all.ensures.front in
    gave-whole doc names processes k before after (omega (arith, c.beats.invariant.going.up_to, last))
    (spoken-front before (taken c.beats.sink) after c.beats.buffer.text.items (trace_before doc names processes k) (c.beats.invariant.said doc first before runs s) gave)

pub returns-in-Err-give_all-clause-counted : goal.returns-in-Err-give_all-clause-counted
returns-in-Err-give_all-clause-counted g c doc first runs = c.next_deeds.ensures.counted doc first (c.beats.invariant.runs doc first runs)
