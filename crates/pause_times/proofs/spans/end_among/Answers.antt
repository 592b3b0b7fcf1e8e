use Rattle.std.proofs.Common.{rules, ◌≤◌, sym, ◌∙◌, arith}
use Rattle.pause_times.proofs.Ends.{begun-found, none-begun, has-begun, last-begun, end-over, end-inside}
use Rattle.pause_times.proofs.spans.end_among.Goals as goal

pub returns-then-begun-eq0 : goal.returns-then-begun-eq0
returns-then-begun-eq0 c order =
    let point = rw c.deref.ensures.value at c.partition_point-begun.ensures.partitioned in
    let begun = begun-found _ c.args.beat.0 _ order point (λ a r q k. search rules) in
    sym (none-begun _ _ _ begun c.if-begun-eq0.true)

pub returns-then-beat-last : goal.returns-then-beat-last
returns-then-beat-last c order =
    let point = rw c.deref.ensures.value at c.partition_point-begun.ensures.partitioned in
    let begun = begun-found _ c.args.beat.0 _ order point (λ a r q k. search rules) in
    let inside = rw c.deref.ensures.value at c.partition_point-begun.ensures.bound in
    let some : 1 ≤ c.partition_point-begun.result = omega (arith, c.if-begun-eq0.false) in
    sym (end-inside _ _ (has-begun _ _ _ _ begun some inside c.index-last.ensures) c.if-beat-last.true)
    ∙ sym (last-begun _ _ _ _ order begun some inside c.index-last.ensures)

pub returns-else-beat-last : goal.returns-else-beat-last
returns-else-beat-last c order =
    let point = rw c.deref.ensures.value at c.partition_point-begun.ensures.partitioned in
    let begun = begun-found _ c.args.beat.0 _ order point (λ a r q k. search rules) in
    let inside = rw c.deref.ensures.value at c.partition_point-begun.ensures.bound in
    let some : 1 ≤ c.partition_point-begun.result = omega (arith, c.if-begun-eq0.false) in
    sym (end-over _ _ c.if-beat-last.false)
    ∙ sym (last-begun _ _ _ _ order begun some inside c.index-last.ensures)
