use Rattle.std.proofs.Common.{rules, ltb, arith}
use Rattle.std.proofs.lemmas.List.Sorted.{IsPartitionPoint-from_clause, IsPartitionedBy-ltb}
use Rattle.skew_clock.specs.declared.clock.Segment.{Segment}
use Rattle.skew_clock.proofs.SegmentsLemmas.{AreBefore, before-some, before-last, before-rate, readings-ordered, kept-at}
use Rattle.skew_clock.proofs.clock.Clock.segment_before.Goals as goal

pub overflow_sub-below : goal.overflow_sub-below
overflow_sub-below c =
    let ordered = IsPartitionedBy-ltb (λ (s : Segment). s.reading.0) c.self.inside.segments.items c.args.at.0 (readings-ordered c.self.inside c.self.invariant) in
    let point : AreBefore c.deref.result.now c.args.at.0 c.partition_point-below.result =
    IsPartitionPoint-from_clause (λ (s : Segment). ltb s.reading.0 c.args.at.0) _ _ c.partition_point-below.ensures.partitioned
    (rw c.deref.ensures.value ordered) (λ a r q k. search rules) in
    before-some c.self.inside _ _ c.self.invariant c.requires (rw c.deref.ensures.value at point)

pub returns : goal.returns
returns c =
    let ordered = IsPartitionedBy-ltb (λ (s : Segment). s.reading.0) c.self.inside.segments.items c.args.at.0 (readings-ordered c.self.inside c.self.invariant) in
    let point : AreBefore c.deref.result.now c.args.at.0 c.partition_point-below.result =
    IsPartitionPoint-from_clause (λ (s : Segment). ltb s.reading.0 c.args.at.0) _ _ c.partition_point-below.ensures.partitioned
    (rw c.deref.ensures.value ordered) (λ a r q k. search rules) in
    let below : AreBefore c.self.inside.segments.items c.args.at.0 c.partition_point-below.result = rw c.deref.ensures.value at point in
    let some = before-some c.self.inside _ _ c.self.invariant c.requires below in
    let inside = rw c.deref.ensures.value at c.partition_point-below.ensures.bound in
    let keeps = kept-at c.self.inside _ _ c.self.invariant some inside c.index.ensures in
    record {
      begins = rw (← c.self.view_is) keeps.at_reading;
      before = before-last _ _ _ _ below some c.index.ensures;
      within = rw (← c.self.view_is) (omega (arith, keeps.within, c.self.invariant.last));
      runs = omega (arith, keeps.in_range);
      rate = rw (← c.self.view_is) (before-rate c.self.inside _ _ _ c.self.invariant below some inside c.index.ensures);
    }
