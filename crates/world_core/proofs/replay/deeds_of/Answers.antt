use Rattle.std.proofs.Common.{◌≡◌, ◌+◌, ◌++◌, suc, [], sym, ap, ◌∙◌, subst, add-one, arith}
use Rattle.kube_objects.specs.Document.{end_beat}
use Rattle.history.specs.History.{history}
use Rattle.history.specs.Printed.{printed}
use Rattle.script_reader.specs.Documents.{doc_of}
use Rattle.world_core.specs.Worlds.{at_of, end_of, WorldStands}
use Rattle.world_core.proofs.Puts.{put-printed}
use Rattle.world_core.proofs.Ranges.{not-over, over}
use Rattle.world_core.proofs.Writing.{lawful-few}
use Rattle.world_core.proofs.replay.deeds_of.Goals as goal

pub beats-init : goal.beats-init
beats-init g c =
    let doc = doc_of c.args.document in
    let w = c.in_ok-world.world in
    let ready = c.in_ok-world.ensures.ready in
    record {
      ready = ready.0;
      end = ready.2;
      within = omega (arith, ready.1);
      stands = subst (λ n. WorldStands doc n (history doc n) w) (sym ready.1) c.in_ok-world.ensures.stands;
      told = c.new-deeds.ensures ∙ sym (put-printed doc doc.objects []) ∙ ap (λ n. printed (history doc n)) (sym ready.1);
    }

pub beats-preserved : goal.beats-preserved
beats-preserved g c =
    let doc = doc_of c.args.document in
    let now = c.beats.invariant in
    let k = at_of c.beats.world in
    let next = c.beat.new.self in
    let kept = c.in_ok-printed.ensures.kept in
    let inside = not-over (end_of c.beats.world) k c.finished.result c.finished.ensures c.beats-test.true in
    let few = lawful-few doc k c.requires.lawful (omega (arith, inside, now.end)) in
    let done = c.in_ok-printed.ensures.stands doc k (history doc k) few now.stands in
    let later : suc k ≡ at_of next = sym (kept.1 ∙ add-one k) in
    record {
      ready = kept.0;
      end = kept.2 ∙ now.end;
      within = omega (arith, inside, kept.1, kept.2);
      stands = subst (λ n. WorldStands doc n (history doc n) next) later (subst (λ n. WorldStands doc n (history doc (suc k)) next) (add-one k) done.0);
      told = c.in_ok-append.ensures.ok ∙ ap (λ ds. ds ++ c.in_ok-printed.printed) now.told ∙ done.1 ∙ ap (λ n. printed (history doc n)) later;
    }

pub returns : goal.returns
returns g c =
    let doc = doc_of c.args.document in
    let now = c.beats.invariant in
    let done = over (end_of c.beats.world) (at_of c.beats.world) c.finished.result c.finished.ensures c.beats-test.false now.within in
    let last : at_of c.beats.world ≡ suc (end_beat doc) = done ∙ ap (λ n. n + 1) now.end ∙ add-one (end_beat doc) in
    now.told ∙ ap (λ n. printed (history doc n)) last
