use Rattle.std.proofs.Common.{◌<◌, map, rules, ap, ◌∙◌}
use Rattle.std.proofs.lemmas.List.Sorted.{answers_always, IsNonDecreasingBy-from_sort, All-permutation, length_permutation}
use Rattle.lens_terms.specs.Acting.{shown}
use Rattle.lens_terms.proofs.Sorting.{beat_of, sorted-is, by_beat-shown}
use Rattle.lens_terms.proofs.StretchLaws.{below-each}
use Rattle.lens_terms.proofs.acting.sort.Goals as goal

pub returns : goal.returns
returns c =
    let keys = answers_always _ _ _ (λ f a r g h. search rules) in
    let within = All-permutation (λ s. s.from < c.args.stop) _ _ c.sort_by_key.ensures.permutation (below-each c.args.stop c.args.found.now.items c.requires) in
    ap (λ ss. map shown ss)
    (sorted-is c.args.stop _ _ (length_permutation _ _ c.sort_by_key.ensures.permutation)
    (IsNonDecreasingBy-from_sort beat_of _ (c.in_ok-sort_by_key.ensures.sorted beat_of keys))
    (c.sort_by_key.ensures.stable beat_of keys) within)
    ∙ by_beat-shown c.args.stop c.args.found.now.items
