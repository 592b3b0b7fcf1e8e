use Rattle.std.proofs.Common.{◌≡◌, [], length, length-append, refl, sym, ap, ◌∙◌, subst, arith}
use Rattle.kube_objects.specs.Document.{Doc, processes}
use Rattle.kube_objects.specs.InFlight.{replies_due}
use Rattle.history.specs.History.{history}
use Rattle.history.specs.Sound.{AreApart}
use Rattle.beat_laws.proofs.Unticked.{first_unticked}
use Rattle.script_reader.specs.Documents.{doc_of}
use Rattle.script_reader.specs.Lawful.{AreLawfulFrom}
use Rattle.pause_times.specs.Owned.{StallsStand, AreStallsFit, stalls_of}
use Rattle.wire_calls.specs.WireStands.{WireStands}
use Rattle.world_core.specs.Worlds.{AreNoted}
use Rattle.world_core.proofs.InTime.{first-in-time}
use Rattle.world_core.proofs.Ranges.{end-most, all-fit, stalls-fit}
use Rattle.world_core.proofs.Puts.{put-plain, put-wire, put-each, put-in_force, put-requests, put-replies}
use Rattle.world_core.proofs.world.World.new.Goals as goal

pub processes_of-requires-clause-events : goal.processes_of-requires-clause-events
processes_of-requires-clause-events c = let doc = doc_of c.args.document in (doc, refl, subst (AreLawfulFrom doc 0) (sym c.as_slice.ensures) c.requires.lawful.events)

pub processes_of-requires-clause-apart : goal.processes_of-requires-clause-apart
processes_of-requires-clause-apart c = subst AreApart (sym c.as_slice.ensures) c.requires.lawful.apart

pub of-requires : goal.of-requires
of-requires c =
    let most = end-most c.args.document.settings.end_beat.0 c.args.document.settings.beat_millis c.requires.lawful.settings.beat_least c.requires.lawful.settings.end in
    subst AreStallsFit (sym c.as_slice-3.ensures) (stalls-fit (doc_of c.args.document) 0 c.args.document.events most c.requires.lawful.events)

pub returns-clause-ready : goal.returns-clause-ready
returns-clause-ready c =
    let lawful = c.requires.lawful in
    let s = lawful.settings in (
      record {
        end = end-most c.args.document.settings.end_beat.0 c.args.document.settings.beat_millis s.beat_least s.end;
        restart = (let most = s.restart in omega (arith, c.picoseconds.ensures.plain, most));
        epoch = s.epoch_most;
        micros = (let most = s.beat_most in omega (arith, most));
        events = all-fit (doc_of c.args.document) 0 c.args.document.events lawful.events;
        few = (let count = c.in_ok-processes.ensures.count in let len = c.in_ok-processes.processes.ok.0 in let few = lawful.few in let more = lawful.few_kubelets in omega (arith, count, len, few, more));
        clocks = c.in_ok-processes.ensures.clocks;
        controllers = (let count = c.in_ok-processes.ensures.count in let len = c.in_ok-processes.processes.ok.0 in let all = ap (λ xs. length xs) c.as_slice-controllers.ensures in omega (arith, count, len, all));
        kept = c.in_ok-processes.ensures.kept;
        noted = subst (λ xs. AreNoted xs c.in_ok-turn_beats.turn_beats) c.as_slice-2.ensures.value c.in_ok-turn_beats.ensures;
      },
      refl,
      refl,
    )

pub returns-clause-stands : goal.returns-clause-stands
returns-clause-stands c = record {
  within = record {
    rest = record {
      document = record { at = refl; restart = c.picoseconds.ensures.value; count = count; epoch = refl; micros = refl; events = refl; controllers = ap (λ xs. length xs) c.as_slice-controllers.ensures; stalls = stalls };
      plain = put-plain doc (processes doc) doc.objects [] (record { fresh = λ p i less. tt; all = tt });
      store = c.in_ok-store.ensures doc refl;
      wire = subst (λ ss. WireStands (processes doc) 0 ss (replies_due 0 (history doc 0)) (history doc 0) c.in_ok-wire.wire) (sym (put-requests doc 0 doc.objects []))
          (subst (λ bs. WireStands (processes doc) 0 [] bs (history doc 0) c.in_ok-wire.wire) (sym (put-replies doc 0 doc.objects []))
          (put-wire doc (processes doc) doc.objects [] c.in_ok-wire.wire (subst (λ n. WireStands n 0 [] [] [] c.in_ok-wire.wire) (c.len.ensures ∙ c.in_ok-processes.processes.ok.0 ∙ count) (c.in_ok-wire.ensures 0 [] refl))));
      in_force = put-in_force doc doc.objects [] c.in_ok-in_force.in_force (c.in_ok-in_force.ensures doc refl refl);
    };
    processes = put-each doc doc.objects [] c.in_ok-processes.processes.items (c.in_ok-processes.ensures.stands doc (record { settings = refl; controllers = refl; kubelets = refl; waits = refl; events = sym c.as_slice.ensures }));
  };
  placed = record { earlier = λ i e less is. absurd (omega (arith, less)); later = c.requires.lawful.events };
  unticked = first_unticked doc;
  in_time = first-in-time doc;
}
  where
    doc : Doc
    doc = doc_of c.args.document

    stalls : StallsStand doc c.in_ok-stalls.stalls
    stalls = record { all = c.in_ok-stalls.ensures ∙ ap stalls_of c.as_slice-3.ensures; apart = c.requires.lawful.apart }

    count : length c.in_ok-processes.processes.items ≡ processes doc
    count = c.in_ok-processes.ensures.count ∙ sym (length-append doc.controllers doc.kubelets)
