use Rattle.std.proofs.Common.{◌≡◌, ℕ, true, List, Option}
use Rattle.kube_objects.specs.Entry.{Entry, Identity}
use Rattle.kube_objects.specs.Seen.{is_synced}
use Rattle.kube_objects.specs.Tainting.{before_tick}
use Rattle.term_state.specs.ClusterStands.{ClusterStands, has_moved}
use Rattle.term_state.specs.Queues.{IsNextAfter}
use Rattle.term_state.specs.MidTick.{IsMoved}
use Rattle.tick_laws.specs.Rows.{no_heads}
use Rattle.controller_core.specs.QueuesStand.{QueuesStand}
use Rattle.controller_core.proofs.Cursors.{names_left}
use Rattle.controller_core.proofs.Tainting.Settles.{AreSettled}
use Rattle.controller_core.proofs.taint.settling.settle.Given as goal

abbrev pub invariant-loop-next : goal.invariant-loop-next
invariant-loop-next l =
    (q : Identity) (k : ℕ) (h : List Entry) → ClusterStands q h l.cluster → is_synced q h ≡ true → IsMoved q k h l.cluster → l.beat.0 ≡ k → no_heads q k h ≡ true
    → QueuesStand q (before_tick q k h) l.fn.queues → (c : Option ℕ) × AreSettled q k h c l.queues × IsNextAfter (has_moved l.cluster) c l.next

abbrev pub decreases-loop-next : goal.decreases-loop-next
decreases-loop-next l = names_left l.next
