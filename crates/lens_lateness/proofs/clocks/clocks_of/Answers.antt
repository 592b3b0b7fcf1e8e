use Rattle.std.proofs.Common.{◌≡◌, ◌<◌, ℕ, true, Some, length, slice_get, refl, sym, ap, ◌∙◌, subst, arith}
use Rattle.std.proofs.lemmas.Bool.{le-leb}
use Rattle.std.proofs.lemmas.Option.{slice_get-get_or}
use Rattle.kube_base.proofs.Lists.{every-end, get-front}
use Rattle.kube_objects.specs.Document.{is_controller, waits_or}
use Rattle.kube_objects.specs.Rules.{own_waits}
use Rattle.script_reader.specs.Documents.{doc_of}
use Rattle.skew_clock.specs.Clocking.{Clocking}
use Rattle.world_process.specs.Clocked.{ClockStands}
use Rattle.lens_lateness.proofs.clocks.clocks_of.Goals as goal

pub loop-process-preserved : goal.loop-process-preserved
loop-process-preserved c =
    let doc = doc_of c.args.document.now in
    let inv = c.loop-process.invariant in
    let xs = c.loop-process.clocks.items in
    let ps = c.as_slice-process-items.result.now in
    let n = c.loop-process.process-index in
    let given : doc.controllers ≡ ps = sym c.as_slice-process-items.ensures in
    let within = c.loop-process-test.true in
    let count = inv.count in
    let as_many = ap (λ ys. length ys) given in
    let less : length xs < length doc.controllers = omega (arith, within, count, as_many) in
    let controls : is_controller doc (length xs) ≡ true = le-leb _ _ less in
    let here = ap (λ ys. slice_get ys (length xs)) given ∙ ap (λ i. slice_get ps i) count ∙ slice_get-get_or ps n _ within in
    let place : c.len-place.result ≡ length xs = c.len-place.ensures ∙ c.loop-process.clocks.ok.0 in
    let stands = c.in_ok-controller.ensures.stands doc (length xs) (record { me = place; settings = refl; process = get-front doc.controllers doc.kubelets (length xs) _ here; events = sym c.as_slice-events.ensures }) controls (sym (ap (waits_or own_waits) (ap (slice_get doc.waits) (sym place) ∙ c.waits_at-waits.ensures.found))) in
    record {
      count = let grown = ap (λ ys. length ys) c.in_ok-push.ensures.items in grind (arith, grown, count);
      each = subst (λ ys. (p : ℕ) (clock : Clocking) → slice_get ys p ≡ Some clock → ClockStands doc p clock) (sym c.in_ok-push.ensures.items)
          (every-end (ClockStands doc) xs c.in_ok-controller.controller.clock inv.each stands.clock);
    }
