use Rattle.std.proofs.Common.{◌≡◌, ℕ, List, [], subst, sym}
use Rattle.std.specs.List.Sorted.{IsStrictlySortedBy}
use Rattle.std.specs.Ordering.{nat_cmp}
use Rattle.term_state.proofs.cluster.Cluster.nodes.Goals as goal

nothing_ascends : IsStrictlySortedBy nat_cmp []
unfolding IsStrictlySortedBy
nothing_ascends = tt

pub returns-in-Err-NotSynced-clause-ascend : goal.returns-in-Err-NotSynced-clause-ascend
returns-in-Err-NotSynced-clause-ascend c = subst (IsStrictlySortedBy nat_cmp) (sym c.new.ensures) nothing_ascends
