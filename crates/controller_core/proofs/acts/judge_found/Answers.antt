use Rattle.std.proofs.Common.{◌≡◌, ◌∙◌, false, true, ◌||◌, List, ◌∷◌, refl, ap, subst, sym, arith}
use Rattle.std.proofs.lemmas.Result.{on_ok_weaker}
use Rattle.kube_objects.specs.Entry.{Entry}
use Rattle.kube_objects.specs.Health.{is_pass_tick}
use Rattle.kube_objects.specs.Judgement.{Passed, passes, strips}
use Rattle.kube_objects.specs.Tick.{cleaned, pass}
use Rattle.taint_zones.specs.Limits.{LimitsStand}
use Rattle.term_state.specs.MidTick.{MidTick}
use Rattle.term_state.specs.Sights.{spent}
use Rattle.tick_laws.proofs.Phases.{cleaned_limits}
use Rattle.controller_core.specs.Costs.{HaveCost}
use Rattle.controller_core.specs.Looking.{IsFoundBy, are_looked_ahead, is_at_passes}
use Rattle.controller_core.specs.Pushing.{PushesStand}
use Rattle.controller_core.proofs.Between.{limits_stand}
use Rattle.controller_core.proofs.HeadsKept.{pass_none}
use Rattle.controller_core.proofs.Judgement.Begun.{begin_judging}
use Rattle.controller_core.proofs.Passing.Rated.{limited}
use Rattle.controller_core.proofs.Turning.{begun_pushes, judged_never, judged_now}
use Rattle.controller_core.proofs.acts.judge_found.Goals as goal

pub returns-in_default : goal.returns-in_default
returns-in_default g c doc k q before h at_passes rule s v =
    let zones = c.args.zones.now in
    let h1 = pass doc k q h in
    let same : h1 ≡ h = pass_none doc k q h (subst (IsFoundBy doc k q h) c.in_default.is s.looked) in
    let unpassed : is_pass_tick k q h1 ≡ false = ap (is_pass_tick k q) same ∙ s.passed in
    subst
    (λ (f : List Entry). MidTick doc q k before f c.args.cluster.now c.args.store.now c.args.told.now × LimitsStand doc q f zones × PushesStand doc q f zones.pushes
    × HaveCost q k h1 f (spent c.args.cluster.now c.args.steps.now) (spent c.args.cluster.now c.args.steps.now))
    (sym (judged_never doc k q h1 at_passes unpassed))
    (s.running, s.limits, subst (λ (f : List Entry). PushesStand doc q f zones.pushes) (sym same) (begun_pushes doc k q h zones at_passes s.queues), omega arith)

pub returns : goal.returns
returns g c doc k q before h at_passes rule s v =
    let zones = c.args.zones.now in
    let h1 = pass doc k q h in
    let found = c.in-Some.found in
    let due = subst (IsFoundBy doc k q h) c.in-Some.is s.looked in
    let stands = due.1.1 in
    let x : Passed = record { before = h; after = stands.after } in
    let ahead : are_looked_ahead doc ≡ true = ap (λ r. is_at_passes r || strips doc.settings.rules.first_sight) at_passes in
    let looks = stands.looks ahead in
    let judging = begin_judging doc q x (passes q h) found.names looks.names h zones.pushes c.forget_others.new.self zones.limits refl (begun_pushes doc k q h zones at_passes s.queues)
    (limited doc k q h zones due.0 s.limits) c.forget_others.ensures.names c.forget_others.ensures.counts in
    let now = judged_now doc k q h1 at_passes due.1.0 in
    on_ok_weaker c.judge_all.result
    (λ all. (
      subst (λ (f : List Entry). MidTick doc q k before f c.judge_all.new.cluster c.judge_all.new.store c.judge_all.new.told) now all.0,
      limits_stand doc q h1 (cleaned doc k q h1) (record zones { pushes = c.judge_all.new.pushes }) (cleaned_limits doc k q h1) s.limits,
      subst (λ (f : List Entry). PushesStand doc q f c.judge_all.new.pushes) now all.1,
      subst (λ (f : List Entry). HaveCost q k h1 f (spent c.args.cluster.now c.args.steps.now) (spent c.judge_all.new.cluster c.judge_all.new.steps)) now all.2,
    ))
    (c.judge_all.ensures doc k q before h1 x (passes q h) s.running v stands.passed looks stands.marked (λ place names. stands.turns place (x ∷ passes q h) names) rule judging)
