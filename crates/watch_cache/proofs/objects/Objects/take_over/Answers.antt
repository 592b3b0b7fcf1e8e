use Rattle.std.proofs.Common.{◌≡◌, ◌<◌, cond, Some, length, slice_get, refl, sym, ap, ◌∙◌, subst, arith}
use Rattle.kube_base.specs.Steps.{counted}
use Rattle.kube_objects.specs.Feeds.{shown_at}
use Rattle.kube_objects.specs.Keys.{key_eq}
use Rattle.watch_cache.specs.Objects.{object_at}
use Rattle.watch_cache.proofs.Takes.{counted_more, counted_none, key_there, taken_more}
use Rattle.watch_cache.proofs.objects.Objects.take_over.Goals as goal

pub loop-place-init : goal.loop-place-init
loop-place-init g c =
    record {
      taken = λ k. refl;
      counted = counted_none c.args.steps.now (omega (arith, c.count.ensures));
      within = omega arith;
    }

pub unreachable-requires : goal.unreachable-requires
unreachable-requires g c =
    let keys = g.C.Changed.keys c.args.changed.now in
    let below : c.loop-place.place < length keys = subst (λ n. c.loop-place.place < n) c.count-count.ensures.count c.loop-place-test.true in
    key_there keys c.loop-place.place below (sym c.key.ensures ∙ c.in_default.is)

pub loop-place-preserved : goal.loop-place-preserved
loop-place-preserved g c =
    let keys = g.C.Changed.keys c.args.changed.now in
    let shown = g.C.Changed.shown c.args.changed.now in
    let place = c.loop-place.place in
    let key = c.in-Some.key in
    let is : slice_get keys place ≡ Some key = sym c.key.ensures ∙ c.in-Some.is in
    let written : c.in_ok-written.written ≡ shown key = c.in_ok-written.ensures ∙ c.object.ensures ∙ ap (shown_at shown) is in
    record {
      taken = λ k. taken_more shown keys place key k (object_at c.args.self.now k) (object_at c.loop-place.self k) (object_at c.write.new.self k) is
          (c.loop-place.invariant.taken k) (c.in_ok-write.ensures.ok k ∙ ap (λ w. cond (key_eq key k) w (object_at c.loop-place.self k)) written);
      counted = c.tick.ensures ∙ ap (λ n. counted n 1) c.loop-place.invariant.counted ∙ counted_more c.args.steps.now place;
      within = omega (arith, c.loop-place-test.true);
    }
