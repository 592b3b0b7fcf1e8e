use Rattle.std.proofs.Common.{◌≤◌, rules}
use Rattle.std.proofs.lemmas.List.Sorted.{answers_always, IsNonDecreasingBy-from_sort, All-permutation}
use Rattle.world_gen.proofs.Sorting.{sorted-is}
use Rattle.world_gen.proofs.crash.sort.Goals as goal

pub returns : goal.returns
returns c =
    let keys = answers_always _ _ _ (λ f a r g h. search rules) in
    let within = All-permutation (λ crash. crash.beat ≤ c.args.last) _ _ c.sort_by_key.ensures.permutation c.requires in
    sorted-is c.args.last _ _
    (IsNonDecreasingBy-from_sort (λ crash. crash.beat) _ (c.in_ok-sort_by_key.ensures.sorted (λ crash. crash.beat) keys))
    (c.sort_by_key.ensures.stable (λ crash. crash.beat) keys) within
