use Rattle.std.proofs.Common.{Some, None, subst, ap, arith}
use Rattle.kube_objects.specs.Tick.{clean}
use Rattle.kube_objects.specs.Newest.{has}
use Rattle.tick_laws.specs.Judged.{is_dirty}
use Rattle.tick_laws.proofs.Cleaning.{dirty_seen}
use Rattle.term_state.specs.Queues.{IsNextAfter}
use Rattle.term_state.specs.MidTick.{MidTick}
use Rattle.term_state.specs.Sights.{spent}
use Rattle.controller_core.specs.Costs.{HaveCost}
use Rattle.controller_core.proofs.Cleaning.CleanWalk.{begin_walk, end_walk, next_dirty, next_walk}
use Rattle.controller_core.proofs.clean.clean.Goals as goal

pub loop-next-init : goal.loop-next-init
loop-next-init g c doc k q before h at_ticks kept r v =
    (h, None, begin_walk doc k q before h c.args.cluster.now c.args.store.now c.args.view.now c.args.told.now at_ticks kept r v, c.next_unclean-next.ensures.dirty q h r.cluster, omega arith)

pub loop-next-preserved : goal.loop-next-preserved
loop-next-preserved g c doc k q before h at_ticks kept r v =
    let i = c.loop-next.invariant doc k q before h at_ticks kept r v in
    let n = c.in-Some.name in
    let next = subst (IsNextAfter (λ n. is_dirty q n i.0) i.1) c.in-Some.is i.3 in
    let dirty = next_dirty q i.0 i.1 n next in
    let one = c.in_ok-tried.ensures doc k q i.0 i.2.running.cluster i.2.running.synced i.2.view.time dirty (i.2.kept n (ap has (dirty_seen q n i.0 dirty).1)) in
    let more = c.in_ok-write_if.ensures doc k q before i.0 (clean doc k q n i.0) i.2.running i.2.view one in (
      clean doc k q n i.0,
      Some n,
      next_walk doc k q before h i.0 i.1 n c.loop-next.cluster c.write_if.new.cluster c.loop-next.store c.write_if.new.store c.args.view.now c.loop-next.told c.write_if.new.told i.2 next more.0,
      c.next_unclean-next-in-Some.ensures.dirty q (clean doc k q n i.0) more.0.cluster,
      omega (arith, i.4, more.1),
    )

pub returns : goal.returns
returns g c doc k q before h at_ticks kept r v =
    let i = c.loop-next.invariant doc k q before h at_ticks kept r v in
    let none = subst (IsNextAfter (λ n. is_dirty q n i.0) i.1) c.in_default.is i.3 in
    subst (λ now. MidTick doc q k before now c.loop-next.cluster c.loop-next.store c.loop-next.told × HaveCost q k h now (spent c.args.cluster.now c.args.steps.now) (spent c.loop-next.cluster c.loop-next.steps))
    (end_walk doc k q before h i.0 i.1 c.loop-next.cluster c.loop-next.store c.args.view.now c.loop-next.told i.2 none) (i.2.running, i.4)
