use Rattle.std.proofs.Common.{None, Some, subst}
use Rattle.term_state.specs.ClusterStands.{has_moved}
use Rattle.term_state.specs.Queues.{IsNextAfter}
use Rattle.controller_core.proofs.Tainting.Settles.{begin_settling, end_settling, next_settled}
use Rattle.controller_core.proofs.taint.settling.settle.Goals as goal

pub loop-next-init : goal.loop-next-init
loop-next-init c q k h s synced moved beat none queues = (None, begin_settling q k h c.args.cluster.now none moved c.args.queues.now queues, c.next_moved-next.ensures)

pub loop-next-preserved : goal.loop-next-preserved
loop-next-preserved c q k h s synced moved beat none queues =
    let i = c.loop-next.invariant q k h s synced moved beat none queues in
    let n = c.in-Some.name in
    let next = subst (IsNextAfter (has_moved c.args.cluster.now) i.0) c.in-Some.is i.2 in (
      Some n,
      next_settled q k h c.args.cluster.now none moved i.0 n c.args.beat.0 c.place_of.result c.loop-next.queues c.settle.new.self i.1 next (c.place_of.ensures q h s synced) beat c.in_ok-settle.ensures,
      c.next_moved-next-in-Some.ensures,
    )

pub returns : goal.returns
returns c q k h s synced moved beat none queues =
    let i = c.loop-next.invariant q k h s synced moved beat none queues in
    end_settling q k h c.args.cluster.now none moved i.0 c.loop-next.queues i.1 (subst (IsNextAfter (has_moved c.args.cluster.now) i.0) c.in_default.is i.2)
