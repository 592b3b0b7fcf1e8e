use Rattle.std.proofs.Common.{◌≡◌, ◌+◌, sym, ap, ◌∙◌, refl, subst, arith}
use Rattle.std.specs.List.{AllByRecursion}
use Rattle.agenda_laws.proofs.Standing.{standing_later}
use Rattle.kube_objects.specs.Document.{processes}
use Rattle.kube_objects.specs.Writable.{IsWritable}
use Rattle.history.specs.History.{history}
use Rattle.script_reader.specs.Lawful.{IsWellNamed}
use Rattle.world_core.specs.Worlds.{WasRead, WorldStands, at_of}
use Rattle.world_core.proofs.Fewness.{few-beat, objects-most}
use Rattle.world_runs.proofs.Passed.{counts-one, next-passed, next-stands, next-told, passed}
use Rattle.world_runs.proofs.runs.next_deeds.Goals as goal

pub returns-in_default-clause-next : goal.returns-in_default-clause-next
returns-in_default-clause-next g c doc first runs =
    let going = c.requires.going in
    let next = c.in_default.ensures doc runs.own.lawful.events runs.stands runs.end in
    let past = passed doc (at_of c.args.world.now) (c.args.last.0 + 1) going.up_to (omega (arith, going.within, runs.end)) in
    (runs, ((past (λ j from less. next.quiet refl j from (omega (arith, less)))).0, refl))

pub returns-in_default-clause-counted : goal.returns-in_default-clause-counted
returns-in_default-clause-counted g c doc first runs =
    let more = standing_later doc (at_of c.args.world.now) (c.args.last.0 + 1) c.requires.going.up_to in omega (arith, more, runs.counted)

-- the next beat with an entry, of the document that is run
pub skip_to-requires-clause-ahead : goal.skip_to-requires-clause-ahead
skip_to-requires-clause-ahead g c =
    let n = c.in-Some.beat.0 in
    let runs = c.requires.runs.2 in
    let next = (c.in-Some.ensures c.requires.runs.0 runs.own.lawful.events runs.stands runs.end).there n refl in
    ((next.1.there n refl).0.from, omega (arith, next.0, c.requires.going.within))

pub beat-requires-clause-within : goal.beat-requires-clause-within
beat-requires-clause-within g c =
    let n = c.in-Some.beat.0 in
    let runs = c.requires.runs.2 in
    let next = (c.in-Some.ensures c.requires.runs.0 runs.own.lawful.events runs.stands runs.end).there n refl in
    let skip = c.skip_to.ensures.kept in
    omega (arith, next.0, c.requires.going.within, skip.1, skip.2)

pub returns-in_err-deeds-clause-counted : goal.returns-in_err-deeds-clause-counted
returns-in_err-deeds-clause-counted g c doc first runs =
    let n = c.in-Some.beat.0 in
    let next = (c.in-Some.ensures doc runs.own.lawful.events runs.stands runs.end).there n refl in
    counts-one doc (at_of c.args.world.now) n (c.args.last.0 + 1) first c.args.steps.now c.beat.new.steps next.1 (omega (arith, next.0)) runs.counted c.beat.ensures.counted

pub returns-clause-counted : goal.returns-clause-counted
returns-clause-counted g c doc first runs =
    let n = c.in-Some.beat.0 in
    let next = (c.in-Some.ensures doc runs.own.lawful.events runs.stands runs.end).there n refl in
    counts-one doc (at_of c.args.world.now) n (c.args.last.0 + 1) first c.args.steps.now c.beat.new.steps next.1 (omega (arith, next.0)) runs.counted c.beat.ensures.counted

pub returns-clause-going : goal.returns-clause-going
returns-clause-going g c =
    let n = c.in-Some.beat.0 in
    let runs = c.requires.runs.2 in
    let next = (c.in-Some.ensures c.requires.runs.0 runs.own.lawful.events runs.stands runs.end).there n refl in
    let skip = c.skip_to.ensures.kept in
    let kept = c.in_ok-deeds.ensures.kept in
    record {
      ready = kept.0;
      up_to = omega (arith, next.0, skip.1, kept.1);
      within = omega (arith, c.requires.going.within, skip.2, kept.2);
    }

pub returns-clause-next : goal.returns-clause-next
returns-clause-next g c doc first runs =
    let n = c.in-Some.beat.0 in
    let k = at_of c.args.world.now in
    let skipped = c.skip_to.new.self in
    let later = c.beat.new.self in
    let skip = c.skip_to.ensures.kept in
    let kept = c.in_ok-deeds.ensures.kept in
    let next = ((c.in-Some.ensures doc runs.own.lawful.events runs.stands runs.end).there n refl).1 in
    let ahead = (next.there n refl).0 in
    let quiet = next-passed doc k n next in
    let here = subst (λ h. WorldStands doc n h skipped) (sym quiet.0) (c.skip_to.ensures.stands doc k (history doc k) runs.stands quiet.1) in
    let lawful = runs.own.lawful in
    let few = few-beat doc n c.calls_are_numbered.ensures.few c.starts_are_few.ensures c.nodes_are_few.ensures.few
    (omega (arith, ahead.within, runs.end, c.requires.going.ready.end)) (objects-most doc.objects lawful.few_objects) lawful.few_events in
    let done = c.in_ok-deeds.ensures.stands doc n (history doc n) few here in
    let at : at_of later ≡ n + 1 = kept.1 ∙ ap (λ b. b + 1) skip.1 in
    let owned : WasRead doc skipped = record { lawful = lawful; named = subst (λ ns. IsWellNamed ns doc) (sym skip.3) runs.own.named } in (
      record {
        own = record { lawful = lawful; named = subst (λ ns. IsWellNamed ns doc) (sym (kept.3 ∙ skip.3)) runs.own.named };
        end = kept.2 ∙ skip.2 ∙ runs.end;
        stands = next-stands doc n (at_of later) later at done.0;
        counted = counts-one doc k n (at_of later) first c.args.steps.now c.beat.new.steps next (omega (arith, at)) runs.counted c.beat.ensures.counted;
      },
      record {
        later = omega (arith, ahead.from, at);
        printed = next-told doc k n (at_of later) c.in_ok-deeds.deeds quiet.0 at done.1;
        writable = subst (λ ns. AllByRecursion (IsWritable ns (processes doc)) c.in_ok-deeds.deeds) skip.3
            (c.in_ok-deeds.ensures.writable doc n owned here ahead.within);
      },
    )
