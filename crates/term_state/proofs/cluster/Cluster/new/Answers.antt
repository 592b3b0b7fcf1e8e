use Rattle.std.proofs.Common.{refl, ap}
use Rattle.std.specs.BTreeMap.{is_at}
use Rattle.std.specs.List.{list_any}
use Rattle.std.specs.Ordering.{nat_cmp}
use Rattle.kube_objects.specs.Keys.{key_cmp}
use Rattle.term_state.proofs.Closing.{new_stands, new_unseen}
use Rattle.term_state.proofs.Settling.{new_settled}
use Rattle.term_state.proofs.cluster.Cluster.new.Goals as goal

pub returns-clause-stands : goal.returns-clause-stands
returns-clause-stands c q h none =
    new_stands q h (record { alloc = c.args.alloc; cache = c.new.result; mode = _; unclean = c.new-2.result; dues = c.new-3.result; moved = c.new-4.result; evict_from = c.args.evict_from; rows = c.new-5.result; touched = c.new-6.result }) none
    (c.new.ensures.stands q h none) c.new.ensures.kept refl (λ n. ap (list_any (is_at (nat_cmp n))) c.new-2.ensures.empty) c.new-3.ensures

pub returns-clause-sights : goal.returns-clause-sights
returns-clause-sights c doc q h none =
    new_settled c.args.evict_from doc q h
    (record { alloc = c.args.alloc; cache = c.new.result; mode = _; unclean = c.new-2.result; dues = c.new-3.result; moved = c.new-4.result; evict_from = c.args.evict_from; rows = c.new-5.result; touched = c.new-6.result })
    (new_unseen q h c.new.result (c.new.ensures.stands q h none) c.new.ensures.kept) c.new-5.ensures c.new-3.ensures (λ key. ap (list_any (is_at (key_cmp key))) c.new-6.ensures.empty)
