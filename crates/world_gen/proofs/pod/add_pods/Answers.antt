use Rattle.std.proofs.Common.{◌++◌, ◌∷◌, [], sym, ap, ◌∙◌, append-nil}
use Rattle.world_gen.proofs.Steps.{pods-start, pods-value, pods-rest}
use Rattle.world_gen.proofs.pod.add_pods.Goals as goal

pub loop-j-init : goal.loop-j-init
loop-j-init c = record {
  value = sym (ap (λ d. c.args.items.now ++ d.value) (pods-start c.args.nodes c.args.rng.now) ∙ append-nil c.args.items.now);
  rest = sym (ap (λ d. d.rest) (pods-start c.args.nodes c.args.rng.now));
}

pub loop-j-preserved : goal.loop-j-preserved
loop-j-preserved c =
    let so_far = c.loop-j.invariant in
    let drawn = c.place_pod-placing in
    record {
      value = pods-value c.args.nodes c.loop-j.j c.args.rng.now c.loop-j.rng drawn.new.rng c.args.items.now c.loop-j.items c.push.new.self
          drawn.result so_far.value so_far.rest drawn.ensures.value
          (c.in_ok-push.ensures.ok ∙ ap (λ item. c.loop-j.items ++ item ∷ []) c.in_ok-pod.ensures);
      rest = pods-rest c.args.nodes c.loop-j.j c.args.rng.now c.loop-j.rng drawn.new.rng c.args.items.now c.loop-j.items c.push.new.self
          drawn.result so_far.value so_far.rest drawn.ensures.rest;
    }
