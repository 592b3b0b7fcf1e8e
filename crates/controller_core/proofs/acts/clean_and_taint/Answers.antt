use Rattle.std.proofs.Common.{◌≡◌, ◌∙◌, List, sym, ap, subst, true, arith}
use Rattle.std.proofs.lemmas.Result.{on_ok_weaker}
use Rattle.kube_objects.specs.Entry.{Entry}
use Rattle.kube_objects.specs.Health.{before_pass}
use Rattle.kube_objects.specs.Modes.{nodes, places}
use Rattle.kube_objects.specs.Tainting.{before_tick}
use Rattle.kube_objects.specs.Tick.{cleaned, for_each, pass, push, tainted, tainted_by}
use Rattle.taint_zones.specs.Limits.{LimitsStand}
use Rattle.term_state.specs.MidTick.{MidTick}
use Rattle.term_state.specs.Sights.{spent}
use Rattle.term_state.proofs.Viewing.{view_ticked}
use Rattle.tick_laws.specs.Judged.{waits_since}
use Rattle.tick_laws.specs.Rows.{no_heads}
use Rattle.tick_laws.proofs.Phases.{cleaned_heads, cleaned_limits, pass_heads}
use Rattle.tick_laws.proofs.Ticked.{cleaned_ticked, pass_ticked, ticked_before}
use Rattle.tick_laws.proofs.Waiting.{fresh_settled}
use Rattle.controller_core.specs.Costs.{HaveCost}
use Rattle.controller_core.specs.Heading.{Heading}
use Rattle.controller_core.specs.Pushing.{PushesStand}
use Rattle.controller_core.specs.QueuesStand.{QueuesStand}
use Rattle.controller_core.proofs.Between.{limits_stand}
use Rattle.controller_core.proofs.Turning.{begun_queues, settled_pushes, settled_queues}
use Rattle.controller_core.proofs.acts.clean_and_taint.Goals as goal

pub returns-in_ok-settle-in-Tick : goal.returns-in_ok-settle-in-Tick
returns-in_ok-settle-in-Tick g c doc k q before h settings s v =
    let at_ticks = sym settings.judge ∙ c.in-Tick.is in
    let zones = c.args.zones.now in
    let h1 = pass doc k q h in
    let h2 = cleaned doc k q h1 in
    let one = c.in_ok-clean_by_pass-in-Tick.ensures doc k q before h at_ticks s.running v s.looked s.passed in
    let v2 = view_ticked doc k q h1 h2 c.args.view.now (cleaned_ticked doc k q h1) v in
    let heads : no_heads q k h2 ≡ true = cleaned_heads doc k q h1 (pass_heads doc k q h s.heads) in
    let beneath : before_tick q k h2 ≡ before_tick q k h = ticked_before q k h1 h2 (cleaned_ticked doc k q h1) ∙ ticked_before q k h h1 (pass_ticked doc k q h) in
    let queues : QueuesStand q (before_tick q k h2) zones.queues = λ place n. begun_queues doc k q h zones at_ticks s.queues place n ∙ ap (waits_since q place n) (sym beneath) in
    let two = c.in_ok-settle-in-Tick.ensures q k h2 one.0.cluster one.0.synced one.0.moved v.beat heads queues in
    let heading : Heading doc q k before h2 (record { limits = zones.limits; queues = c.settle.new.queues; pushes = zones.pushes }) c.clean_by_pass.new.cluster c.clean_by_pass.new.store c.clean_by_pass.new.told =
    record { running = one.0; limits = limits_stand doc q h1 h2 zones (cleaned_limits doc k q h1) s.limits; queues = two; fresh = λ place n. fresh_settled q k place n h2 heads } in
    on_ok_weaker c.taint.result
    (λ three. (
      record {
        running = three.0.running;
        limits = three.0.limits;
        queues = settled_queues doc k q (tainted doc k q h2) c.taint.new.zones at_ticks three.0.queues three.0.fresh;
      },
      omega (arith, one.1, three.1),
    ))
    (c.taint.ensures doc q k before h2 at_ticks heading v2)

pub returns-in_ok-judge_found-in-Pass : goal.returns-in_ok-judge_found-in-Pass
returns-in_ok-judge_found-in-Pass g c doc k q before h settings s v =
    let at_passes = sym settings.judge ∙ c.in-Pass.is in
    let h1 = pass doc k q h in
    let h2 = cleaned doc k q h1 in
    let one = c.in_ok-judge_found-in-Pass.ensures doc k q before h at_passes settings.queue s v in
    let v2 = view_ticked doc k q h1 h2 c.args.view.now (cleaned_ticked doc k q h1) v in
    let heads : for_each (push doc k q) (places (nodes q (before_pass q h2))) h2 ≡ tainted doc k q h2 = sym (ap (λ r. tainted_by r doc k q h2) at_passes) in
    let zones = c.push_heads.new.zones in
    on_ok_weaker c.push_heads.result
    (λ two. (
      record {
        running = subst (λ (f : List Entry). MidTick doc q k before f c.push_heads.new.cluster c.push_heads.new.store c.push_heads.new.told) heads two.0;
        limits = subst (λ (f : List Entry). LimitsStand doc q f zones) heads two.1;
        queues = settled_pushes doc k q (tainted doc k q h2) zones at_passes (subst (λ (f : List Entry). PushesStand doc q f zones.pushes) heads two.2);
      },
      subst (λ (f : List Entry). HaveCost q k h1 f (spent c.args.cluster.now c.args.steps.now) (spent c.push_heads.new.cluster c.push_heads.new.steps)) heads (omega (arith, one.3, two.3)),
    ))
    (c.push_heads.ensures doc q k before h2 one.0 one.1 one.2 v2)
