use Rattle.std.proofs.Common.{rules, leb}
use Rattle.std.proofs.lemmas.List.Sorted.{IsPartitionPoint-from_clause, IsPartitionedBy-leb}
use Rattle.skew_clock.specs.declared.clock.Segment.{Segment}
use Rattle.skew_clock.proofs.SegmentsLemmas.{AreBegun, begun-some, begun-last, begun-rate, kept-at}
use Rattle.skew_clock.proofs.clock.Clock.segment_at.Goals as goal

pub overflow_sub-begun : goal.overflow_sub-begun
overflow_sub-begun c =
    let ordered = IsPartitionedBy-leb (λ (s : Segment). s.beat.0) c.self.inside.segments.items c.args.beat.0 c.self.invariant.ordered in
    let point : AreBegun c.deref.result.now c.args.beat.0 c.partition_point-begun.result =
    IsPartitionPoint-from_clause (λ (s : Segment). leb s.beat.0 c.args.beat.0) _ _ c.partition_point-begun.ensures.partitioned
    (rw c.deref.ensures.value ordered) (λ a r q k. search rules) in
    begun-some _ _ _ c.self.invariant.some c.self.invariant.first (rw c.deref.ensures.value at point)

pub returns : goal.returns
returns c =
    let ordered = IsPartitionedBy-leb (λ (s : Segment). s.beat.0) c.self.inside.segments.items c.args.beat.0 c.self.invariant.ordered in
    let point : AreBegun c.deref.result.now c.args.beat.0 c.partition_point-begun.result =
    IsPartitionPoint-from_clause (λ (s : Segment). leb s.beat.0 c.args.beat.0) _ _ c.partition_point-begun.ensures.partitioned
    (rw c.deref.ensures.value ordered) (λ a r q k. search rules) in
    let begun : AreBegun c.self.inside.segments.items c.args.beat.0 c.partition_point-begun.result = rw c.deref.ensures.value at point in
    let some = begun-some _ _ _ c.self.invariant.some c.self.invariant.first begun in
    let inside = rw c.deref.ensures.value at c.partition_point-begun.ensures.bound in
    let keeps = kept-at c.self.inside _ _ c.self.invariant some inside c.index.ensures in
    record {
      begins = rw (← c.self.view_is) keeps.at_reading;
      begun = begun-last _ _ _ _ begun some c.index.ensures;
      rate = rw (← c.self.view_is) (begun-rate _ _ _ _ begun some inside c.index.ensures);
    }
