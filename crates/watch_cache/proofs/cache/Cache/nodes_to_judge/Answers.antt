use Rattle.std.proofs.Common.{◌≡◌, ◌∙◌, ◌⊎◌, ◌&&◌, true, false, Some, slice_get, sym, arith}
use Rattle.std.specs.BTreeSet.{contains}
use Rattle.std.specs.Ordering.{nat_cmp}
use Rattle.watch_cache.specs.TaintChanges.{IsSettled, appears}
use Rattle.watch_cache.proofs.Settling.{settled_more, unsettled_more}
use Rattle.watch_cache.proofs.cache.Cache.nodes_to_judge.Goals as goal

pub loop-place-preserved : goal.loop-place-preserved
loop-place-preserved g c =
    let keys = g.C.Changed.keys c.args.changed.now in
    let shown = g.C.Changed.shown c.args.changed.now in
    let place = c.loop-place.place in
    let key = c.in-Some.key in
    let is : slice_get keys place ≡ Some key = sym c.key.ensures ∙ c.in-Some.is in
    let cache = c.args.self.now in
    record {
      settled = settled_more (IsSettled cache) shown keys place key (contains nat_cmp c.loop-place.names) (contains nat_cmp c.add_change.new.names) is c.loop-place.invariant.settled
          c.in_ok-add_change.ensures.more c.in_ok-add_change.ensures.settled;
      unsettled = unsettled_more (λ n x. (IsSettled cache n x → ⊥) ⊎ ((c.args.new && appears cache n x) ≡ true)) shown keys place key (contains nat_cmp c.loop-place.names) (contains nat_cmp c.add_change.new.names) is c.loop-place.invariant.unsettled
          c.in_ok-add_change.ensures.unsettled;
      appeared = λ wanted. settled_more (λ n x. appears cache n x ≡ false) shown keys place key (contains nat_cmp c.loop-place.names) (contains nat_cmp c.add_change.new.names) is (c.loop-place.invariant.appeared wanted)
          c.in_ok-add_change.ensures.more (c.in_ok-add_change.ensures.appeared wanted);
      within = omega (arith, c.loop-place-test.true);
    }
