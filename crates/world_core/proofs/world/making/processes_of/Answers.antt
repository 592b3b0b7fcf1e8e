use Rattle.std.proofs.Common.{◌≡◌, ◌+◌, ◌<◌, ◌++◌, true, false, [], length, slice_get, sym, ap, ◌∙◌, subst, arith}
use Rattle.std.proofs.lemmas.Bool.{le-leb}
use Rattle.std.proofs.lemmas.Option.{slice_get-get_or}
use Rattle.kube_base.proofs.Lists.{every-end, get-front}
use Rattle.kube_objects.specs.Document.{is_controller, waits_or}
use Rattle.kube_objects.specs.Rules.{own_waits}
use Rattle.world_process.specs.Processes.{IsKept, ProcessStands, clock_of}
use Rattle.world_core.specs.Worlds.{AreKept, EachStands, GoOnTo}
use Rattle.world_core.proofs.Lists.{length-end, slice_get-back}
use Rattle.world_core.proofs.Ranges.{not-below}
use Rattle.world_core.proofs.world.making.processes_of.Goals as goal

pub loop-process-preserved : goal.loop-process-preserved
loop-process-preserved c =
    let inv = c.loop-process.invariant in
    let xs = c.loop-process.processes.items in
    let ps = c.as_slice-process-items.result.now in
    let n = length xs in
    let new = c.keep_turn_beat.new.self in
    record {
      count = ap (λ ys. length ys) c.in_ok-push.ensures.items ∙ length-end xs new ∙ ap (λ i. i + 1) inv.count;
      clocks = subst (GoOnTo c.args.settings.now.end_beat.0) (sym c.in_ok-push.ensures.items) (every-end (λ i x. (clock_of x).end ≡ c.args.settings.now.end_beat.0) xs new inv.clocks (ap (λ l. l.end) c.keep_turn_beat.ensures.same.clock ∙ c.in_ok-controller.ensures.end));
      kept = subst AreKept (sym c.in_ok-push.ensures.items) (every-end (λ i x. IsKept x) xs new inv.kept (c.keep_turn_beat.ensures.kept c.in_ok-controller.ensures.timed));
      stands = λ doc made.
          let within = c.loop-process-test.true in
          let count = inv.count in
          let given : doc.controllers ≡ ps = made.controllers ∙ sym c.as_slice-process-items.ensures in
          let length_is = ap (λ ys. length ys) given in
          let less : n < length doc.controllers = omega (arith, within, count, length_is) in
          let controls : is_controller doc n ≡ true = le-leb _ _ less in
          let place : c.len-place.result ≡ n = c.len-place.ensures ∙ c.loop-process.processes.ok.0 in
          let here = ap (λ ys. slice_get ys n) given ∙ ap (λ i. slice_get ps i) count ∙ slice_get-get_or ps c.loop-process.process-index _ within in
          subst (EachStands doc []) (sym c.in_ok-push.ensures.items)
          (every-end (λ i x. ProcessStands doc i [] x) xs new (inv.stands doc made)
          (c.keep_turn_beat.ensures.stands doc n [] (c.in_ok-controller.ensures.stands doc n (record { me = place; settings = made.settings; process = get-front doc.controllers doc.kubelets n _ here; events = made.events }) controls (sym (ap (waits_or own_waits) (ap (λ ws. slice_get ws n) made.waits ∙ ap (slice_get c.args.waits.now) (sym place) ∙ c.waits_at-own.ensures.found))))));
    }

pub loop-process-2-preserved : goal.loop-process-2-preserved
loop-process-2-preserved c =
    let inv = c.loop-process-2.invariant in
    let xs = c.loop-process-2.processes.items in
    let ps = c.as_slice-process-items-2.result.now in
    let n = length xs in
    let new = c.keep_turn_beat-in-loop-process-2.new.self in
    record {
      count = (let grown = ap (λ ys. length ys) c.in_ok-push-2.ensures.items ∙ length-end xs new in let count = inv.count in omega (arith, grown, count));
      clocks = subst (GoOnTo c.args.settings.now.end_beat.0) (sym c.in_ok-push-2.ensures.items) (every-end (λ i x. (clock_of x).end ≡ c.args.settings.now.end_beat.0) xs new inv.clocks (ap (λ l. l.end) c.keep_turn_beat-in-loop-process-2.ensures.same.clock ∙ c.in_ok-kubelet.ensures.end));
      kept = subst AreKept (sym c.in_ok-push-2.ensures.items) (every-end (λ i x. IsKept x) xs new inv.kept (c.keep_turn_beat-in-loop-process-2.ensures.kept c.in_ok-kubelet.ensures.timed));
      stands = λ doc made.
          let within = c.loop-process-2-test.true in
          let count = inv.count in
          let given : doc.kubelets ≡ ps = made.kubelets ∙ sym c.as_slice-process-items-2.ensures in
          let at : n ≡ length doc.controllers + c.loop-process-2.process-index = count ∙ ap (λ ys. length ys + c.loop-process-2.process-index) (sym made.controllers) in
          let other : is_controller doc n ≡ false = not-below n (length doc.controllers) (omega (arith, at)) in
          let process = ap (λ i. slice_get (doc.controllers ++ doc.kubelets) i) at ∙ slice_get-back doc.controllers doc.kubelets c.loop-process-2.process-index ∙ ap (λ ys. slice_get ys c.loop-process-2.process-index) given
          ∙ slice_get-get_or ps c.loop-process-2.process-index _ within in
          subst (EachStands doc []) (sym c.in_ok-push-2.ensures.items)
          (every-end (λ i x. ProcessStands doc i [] x) xs new (inv.stands doc made)
          (c.keep_turn_beat-in-loop-process-2.ensures.stands doc n [] (c.in_ok-kubelet.ensures.stands doc n (record { me = c.len.ensures ∙ c.loop-process-2.processes.ok.0; settings = made.settings; process = process; events = made.events }) other)));
    }
