use Rattle.std.proofs.Common.{◌∙◌, sym, subst, arith}
use Rattle.std.proofs.lemmas.Result.{on_ok_weaker}
use Rattle.kube_objects.specs.Tick.{cleaned, evicted, pass, tainted}
use Rattle.node_health.proofs.Frames.{health-same}
use Rattle.term_state.proofs.Viewing.{view_ticked}
use Rattle.controller_core.specs.Looking.{HeldStand}
use Rattle.controller_core.specs.Turning.{Looked}
use Rattle.tick_laws.proofs.Phases.{cleaned_limits, evicted_limits, tainted_known, tainted_passed, tainted_period}
use Rattle.tick_laws.proofs.Sights.{cleaned_sights, pass_sights, tainted_sights}
use Rattle.tick_laws.proofs.Ticked.{cleaned_ticked, evicted_ticked, pass_ticked, tainted_ticked}
use Rattle.controller_core.proofs.Allowed.{acting_beats, allowance_cleaned, allowance_passed, allowance_tainted}
use Rattle.controller_core.proofs.Between.{cleaned_says, evicted_says, held_stands, last_stands, limits_stand, tainted_says}
use Rattle.controller_core.proofs.FirstSync.{settles_ticked}
use Rattle.controller_core.proofs.HeadsKept.{heads_after, heads_left, held_found}
use Rattle.controller_core.proofs.term.Term.act.Goals as goal

pub returns : goal.returns
returns g c doc k q before h b v beats upto seen small =
    let self = c.args.self.now in
    let view = c.args.view.now in
    let h1 = pass doc k q h in
    let h2 = cleaned doc k q h1 in
    let h3 = tainted doc k q h2 in
    let one = c.in_ok-found.ensures.stands doc k q before h b.running b.health b.limits b.last v b.settings small in
    let found = c.in_ok-found.ensures.found doc k q before h b.running b.health b.last v b.settings small b.held in
    let looked : Looked doc k q before h c.in_ok-found.found c.pass.new.zones c.pass.new.cluster c.pass.new.store c.pass.new.told = record {
      running = one.0;
      limits = one.2;
      queues = heads_left doc k q h self.zones c.pass.new.zones c.in_ok-found.ensures.queues c.in_ok-found.ensures.pushes b.queues;
      heads = b.heads;
      passed = b.passed;
      looked = found;
    } in
    let v1 = view_ticked doc k q h h1 view (pass_ticked doc k q h) v in
    let two = c.in_ok-clean_and_taint.ensures doc k q before h b.settings looked v1 in
    let v3 = view_ticked doc k q h2 h3 view (tainted_ticked doc k q h2) (view_ticked doc k q h1 h2 view (cleaned_ticked doc k q h1) v1) in
    let allowed = allowance_tainted doc k q self.allowance h2 (allowance_cleaned doc k q self.allowance h1 (allowance_passed doc k q self.allowance h b.allowance)) in
    let order = acting_beats doc k q h (beats, upto) in
    let held : HeldStand q h1 c.hold.new.held = subst (HeldStand q h1) (sym c.hold.ensures) (held_found doc k q h c.in_ok-found.found self.held found b.held) in
    on_ok_weaker c.evict.result
    (λ five. (
      record {
        running = five.0;
        parts = record {
          allowance = five.1;
          health = health-same doc q h3 (evicted doc k q h3) c.pass.new.health (evicted_says doc k q h3)
              (health-same doc q h2 h3 c.pass.new.health (tainted_says doc k q h2) (health-same doc q h1 h2 c.pass.new.health (cleaned_says doc k q h1) one.1));
          limits = limits_stand doc q h3 (evicted doc k q h3) c.clean_and_taint.new.zones (evicted_limits doc k q h3) two.0.limits;
          queues = heads_after doc k q h3 c.clean_and_taint.new.zones two.0.queues;
          held = held_stands q h1 (evicted doc k q h3) c.hold.new.held (λ n. (evicted_limits doc k q h3).known n ∙ tainted_known doc k q h2 n ∙ (cleaned_limits doc k q h1).known n) held;
          last = last_stands doc q h1 (evicted doc k q h3) c.pass.new.last ((evicted_limits doc k q h3).passed ∙ tainted_passed doc k q h2 ∙ (cleaned_limits doc k q h1).passed)
              ((evicted_limits doc k q h3).period doc ∙ tainted_period doc k q h2 ∙ (cleaned_limits doc k q h1).period doc) one.3;
          range = c.in_ok-found.ensures.range b.range;
          settles = settles_ticked doc q k h3 (evicted doc k q h3) self.settles (evicted_ticked doc k q h3)
              (settles_ticked doc q k h2 h3 self.settles (tainted_ticked doc k q h2)
              (settles_ticked doc q k h1 h2 self.settles (cleaned_ticked doc k q h1) (settles_ticked doc q k h h1 self.settles (pass_ticked doc k q h) b.settles)));
          settings = b.settings;
        };
      },
      omega (arith, one.4, two.1, five.2),
    ))
    (c.evict.ensures doc k q before h3 order.0 order.1 (tainted_sights doc k q h2 (cleaned_sights doc k q h1 (pass_sights doc k q h seen))) two.0.running v3 allowed)
