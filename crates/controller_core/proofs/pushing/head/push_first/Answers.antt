use Rattle.std.proofs.Common.{◌≡◌, ◌∙◌, true, false, ap, sym, subst, arith, Result, Ok, Err}
use Rattle.std.specs.Result.{OnOk}
use Rattle.kube_objects.specs.Judgement.{taken}
use Rattle.kube_objects.specs.Seen.{seen_node}
use Rattle.taint_zones.specs.Places.{entry_place}
use Rattle.taint_zones.specs.Limits.{LimitsStand}
use Rattle.taint_zones.specs.Pushing.{pushed_at}
use Rattle.taint_zones.specs.declared.zones.Zones.{Zones}
use Rattle.tick_laws.specs.Changes.{turn_of}
use Rattle.tick_laws.proofs.Pushing.{push_adds, push_no_token, push_nobody}
use Rattle.term_state.specs.MidTick.{MidTick}
use Rattle.term_state.specs.Sights.{spent}
use Rattle.controller_core.specs.Costs.{HaveCost}
use Rattle.controller_core.specs.Pushing.{PushesStand}
use Rattle.controller_core.specs.Restamping.{lets_go}
use Rattle.controller_core.proofs.Pushed.Turns.{limits_kept, limits_turned, pushes_back, pushes_taken}
use Rattle.controller_core.proofs.pushing.head.push_first.Goals as goal

-- what is so of a result by two facts
by_both : {A B : Type 0} (r : Result A B) {P Q X : Type 0} → OnOk r P → OnOk r Q → (P → Q → X) → OnOk r X
by_both (Ok a) p q f = f p q
by_both (Err b) p q f = tt

pub returns-in_default : goal.returns-in_default
returns-in_default g c doc q k before h r limits pushes v =
    subst
    (λ more. MidTick doc q k before more c.args.cluster.now c.args.store.now c.args.told.now × LimitsStand doc q more c.args.zones.now × PushesStand doc q more c.args.zones.now.pushes
    × HaveCost q k h more (spent c.args.cluster.now c.args.steps.now) (spent c.args.cluster.now c.args.steps.now))
    (sym (push_nobody doc k q (entry_place c.args.place) h (sym (pushes.names (entry_place c.args.place)) ∙ c.in_default.ensures))) (r, limits, pushes, omega arith)

pub returns-then-not-try_take : goal.returns-then-not-try_take
returns-then-not-try_take g c doc q k before h r limits pushes v =
    subst
    (λ more. MidTick doc q k before more c.args.cluster.now c.args.store.now c.args.told.now × LimitsStand doc q more c.try_take.new.self × PushesStand doc q more c.try_take.new.self.pushes
    × HaveCost q k h more (spent c.args.cluster.now c.args.steps.now) (spent c.args.cluster.now c.args.steps.now))
    (sym (push_no_token doc k q (entry_place c.args.place) h (sym (c.try_take.ensures.there doc q k h limits v.reading) ∙ c.if-not-try_take.true)))
    (r, limits_kept doc q h c.args.zones.now c.try_take.new.self limits (c.try_take.ensures.kept c.if-not-try_take.true), subst (PushesStand doc q h) (sym c.try_take.ensures.pushes) pushes, omega arith)

pub returns-then-branch : goal.returns-then-branch
returns-then-branch g c doc q k before h r limits pushes v =
    let p = c.args.place in
    let name = c.in-Some.name in
    let o = seen_node q name h in
    let token = sym (c.try_take.ensures.there doc q k h limits v.reading) ∙ c.if-not-try_take.false in
    let head = sym (pushes.names (entry_place p)) ∙ c.in-Some.ensures in
    let z : Zones = record { limits = c.try_take.new.self.limits; queues = c.try_take.new.self.queues; pushes = c.take_head.new.self } in
    let goes : lets_go (turn_of doc k q (entry_place p) name o h) ≡ true = sym (c.in_ok-turn.ensures.goes doc q k before h (entry_place p) r v) ∙ c.if-branch.true in
    subst
    (λ more. MidTick doc q k before more c.turn.new.cluster c.turn.new.store c.turn.new.told × LimitsStand doc q more z × PushesStand doc q more c.take_head.new.self
    × HaveCost q k h more (spent c.args.cluster.now c.args.steps.now) (spent c.turn.new.cluster c.turn.new.steps))
    (sym (push_adds doc k q (entry_place p) h name (taken true (pushed_at c.args.zones.now.pushes p)) token head)) (
      c.in_ok-turn.ensures.stands doc q k before h (entry_place p) r v,
      limits_turned doc k q h p name o c.args.zones.now z c.args.view.now.now.0 v.reading limits (c.try_take.ensures.taken c.if-not-try_take.false),
      pushes_taken doc k q h p name o c.try_take.new.self.pushes c.take_head.new.self (subst (PushesStand doc q h) (sym c.try_take.ensures.pushes) pushes) goes
          (taken true (pushed_at c.args.zones.now.pushes p)) (ap (λ x. pushed_at x p) c.try_take.ensures.pushes ∙ c.in-Some.ensures)
          c.take_head.ensures.some c.take_head.ensures.none c.take_head.ensures.counts,
      c.in_ok-turn.ensures.counted doc q k before h (entry_place p) r v,
    )

pub returns : goal.returns
returns g c doc q k before h r limits pushes v =
    let p = c.args.place in
    let name = c.in-Some.name in
    let o = seen_node q name h in
    let token = sym (c.try_take.ensures.there doc q k h limits v.reading) ∙ c.if-not-try_take.false in
    let head = sym (pushes.names (entry_place p)) ∙ c.in-Some.ensures in
    let z : Zones = record { limits = c.try_take.new.self.limits; queues = c.try_take.new.self.queues; pushes = c.head_to_back.new.self } in
    let stays : lets_go (turn_of doc k q (entry_place p) name o h) ≡ false = sym (c.in_ok-turn.ensures.goes doc q k before h (entry_place p) r v) ∙ c.if-branch.false in
    by_both c.head_to_back.result c.head_to_back.ensures.names c.head_to_back.ensures.counts
    (λ names counts.
    subst
    (λ more. MidTick doc q k before more c.turn.new.cluster c.turn.new.store c.turn.new.told × LimitsStand doc q more z × PushesStand doc q more c.head_to_back.new.self
    × HaveCost q k h more (spent c.args.cluster.now c.args.steps.now) (spent c.turn.new.cluster c.turn.new.steps))
    (sym (push_adds doc k q (entry_place p) h name (taken true (pushed_at c.args.zones.now.pushes p)) token head)) (
      c.in_ok-turn.ensures.stands doc q k before h (entry_place p) r v,
      limits_turned doc k q h p name o c.args.zones.now z c.args.view.now.now.0 v.reading limits (c.try_take.ensures.taken c.if-not-try_take.false),
      pushes_back doc k q h p name o c.try_take.new.self.pushes c.head_to_back.new.self (subst (PushesStand doc q h) (sym c.try_take.ensures.pushes) pushes) stays names counts,
      c.in_ok-turn.ensures.counted doc q k before h (entry_place p) r v,
    ))
