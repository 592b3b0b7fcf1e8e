use Rattle.std.proofs.Common.{◌<◌, Some, None, sym, subst, arith}
use Rattle.kube_objects.specs.Tick.{push}
use Rattle.taint_zones.specs.Limits.{LimitsStand}
use Rattle.taint_zones.specs.Places.{entry_place}
use Rattle.taint_zones.specs.Pushing.{IsNextPushed}
use Rattle.term_state.specs.MidTick.{MidTick}
use Rattle.term_state.specs.Sights.{spent}
use Rattle.controller_core.specs.Costs.{HaveCost}
use Rattle.controller_core.specs.Pushing.{PushesStand}
use Rattle.controller_core.proofs.Pushed.PushWalk.{begin_walk, end_walk, next_walk}
use Rattle.controller_core.proofs.Readying.{pushed_later}
use Rattle.controller_core.proofs.Tainting.ZoneWalk.{fewer_left, zones_left}
use Rattle.controller_core.proofs.pushing.push_heads.Goals as goal

pub loop-next-init : goal.loop-next-init
loop-next-init g c doc q k before h r limits pushes v =
    (h, None, begin_walk doc q k before h c.args.zones.now c.args.cluster.now c.args.store.now c.args.view.now c.args.told.now r limits pushes v, c.next_zone-next.ensures, omega arith)

pub loop-next-smaller : goal.loop-next-smaller
loop-next-smaller g c =
    let place = c.in-Some.place in
    let region : place.region < 4294967296 = omega arith in
    let zone : place.zone < 4294967296 = omega arith in
    let next = c.next_zone-next-in-Some.result in
    subst (λ o. zones_left next < zones_left o) (sym c.in-Some.is) (fewer_left place next region zone (pushed_later c.push_first.new.zones.pushes (Some place) next c.next_zone-next-in-Some.ensures))

pub loop-next-preserved : goal.loop-next-preserved
loop-next-preserved g c doc q k before h r limits pushes v =
    let i = c.loop-next.invariant doc q k before h r limits pushes v in
    let p = c.in-Some.place in
    let next = subst (IsNextPushed c.loop-next.zones.pushes i.1) c.in-Some.is i.3 in
    let more = c.in_ok-push_first.ensures doc q k before i.0 i.2.running i.2.limits i.2.pushes i.2.view in (
      push doc k q (entry_place p) i.0,
      Some p,
      next_walk doc q k before h i.0 i.1 c.loop-next.zones c.loop-next.cluster c.loop-next.store c.args.view.now c.loop-next.told i.2 p c.push_first.new.zones c.push_first.new.cluster c.push_first.new.store
          c.push_first.new.told next more.0 more.1 more.2,
      c.next_zone-next-in-Some.ensures,
      omega (arith, i.4, more.3),
    )

pub returns : goal.returns
returns g c doc q k before h r limits pushes v =
    let i = c.loop-next.invariant doc q k before h r limits pushes v in
    let none = subst (IsNextPushed c.loop-next.zones.pushes i.1) c.in_default.is i.3 in
    subst
    (λ now. MidTick doc q k before now c.loop-next.cluster c.loop-next.store c.loop-next.told × LimitsStand doc q now c.loop-next.zones × PushesStand doc q now c.loop-next.zones.pushes
    × HaveCost q k h now (spent c.args.cluster.now c.args.steps.now) (spent c.loop-next.cluster c.loop-next.steps))
    (end_walk doc q k before h i.0 i.1 c.loop-next.zones c.loop-next.cluster c.loop-next.store c.args.view.now c.loop-next.told i.2 none) (i.2.running, i.2.limits, i.2.pushes, i.4)
