use Rattle.std.proofs.Common.{◌≤◌, All, sym, subst, ap, ◌∙◌}
use Rattle.std.proofs.lemmas.List.Elements.{All-nil}
use Rattle.world_gen.proofs.Steps.{crashes-start, crashes-value, crashes-rest}
use Rattle.world_gen.proofs.crash.crashes.Goals as goal

pub loop-i-init : goal.loop-i-init
loop-i-init c = record {
  value = c.new-all.ensures.items ∙ sym (ap (λ d. d.value) (crashes-start c.args.beats c.args.rng.now));
  rest = sym (ap (λ d. d.rest) (crashes-start c.args.beats c.args.rng.now));
  within = subst (All (λ crash. crash.beat ≤ c.args.beats)) (sym c.new-all.ensures.items) (All-nil (λ crash. crash.beat ≤ c.args.beats));
}

pub loop-i-preserved : goal.loop-i-preserved
loop-i-preserved c =
    let so_far = c.loop-i.invariant in
    let step = c.in_ok-add_crash.ensures in
    record {
      value = crashes-value c.args.beats c.loop-i.i c.args.rng.now c.loop-i.rng c.add_crash.new.rng c.loop-i.all.items
          c.add_crash.new.all.items so_far.value so_far.rest step.crash;
      rest = crashes-rest c.args.beats c.loop-i.i c.args.rng.now c.loop-i.rng c.add_crash.new.rng c.loop-i.all.items
          c.add_crash.new.all.items so_far.value so_far.rest step.rest;
      within = step.within so_far.within;
    }
