use Rattle.std.proofs.Common.{Some, None, subst, arith}
use Rattle.kube_objects.specs.Tick.{taint}
use Rattle.taint_zones.specs.Places.{entry_place}
use Rattle.taint_zones.specs.Waiting.{IsNextZone}
use Rattle.term_state.specs.Sights.{spent}
use Rattle.controller_core.specs.Costs.{HaveCost}
use Rattle.controller_core.specs.Heading.{Heading}
use Rattle.controller_core.proofs.Tainting.ZoneWalk.{begin_walk, end_walk, next_walk}
use Rattle.controller_core.proofs.taint.taint.Goals as goal

pub loop-next-init : goal.loop-next-init
loop-next-init g c doc q k before h at_ticks s v =
    (h, None, begin_walk doc q k before h c.args.zones.now c.args.cluster.now c.args.store.now c.args.view.now c.args.told.now at_ticks s v, c.next_zone-next.ensures, omega arith)

pub loop-next-preserved : goal.loop-next-preserved
loop-next-preserved g c doc q k before h at_ticks s v =
    let i = c.loop-next.invariant doc q k before h at_ticks s v in
    let p = c.in-Some.place in
    let next = subst (IsNextZone c.loop-next.zones.queues i.1) c.in-Some.is i.3 in
    let more = c.in_ok-taint_first.ensures doc q k before i.0 i.2.heading i.2.view in (
      taint doc k q (entry_place p) i.0,
      Some p,
      next_walk doc q k before h i.0 i.1 p c.loop-next.zones c.taint_first.new.zones c.loop-next.cluster c.taint_first.new.cluster c.loop-next.store c.taint_first.new.store c.args.view.now c.loop-next.told c.taint_first.new.told
          i.2 next more.0,
      c.next_zone-next-in-Some.ensures,
      omega (arith, i.4, more.1),
    )

pub returns : goal.returns
returns g c doc q k before h at_ticks s v =
    let i = c.loop-next.invariant doc q k before h at_ticks s v in
    let none = subst (IsNextZone c.loop-next.zones.queues i.1) c.in_default.is i.3 in
    subst (λ now. Heading doc q k before now c.loop-next.zones c.loop-next.cluster c.loop-next.store c.loop-next.told × HaveCost q k h now (spent c.args.cluster.now c.args.steps.now) (spent c.loop-next.cluster c.loop-next.steps))
    (end_walk doc q k before h i.0 i.1 c.loop-next.zones c.loop-next.cluster c.loop-next.store c.args.view.now c.loop-next.told i.2 none) (i.2.heading, i.4)
