use Rattle.std.proofs.Common.{◌++◌, ◌∷◌, [], sym, ap₂, ◌∙◌, arith}
use Rattle.std.proofs.lemmas.List.FromFn.{map-range_with_len_more}
use Rattle.world_gen.specs.Generated.{node_item}
use Rattle.world_gen.proofs.node.node_items.Goals as goal

pub loop-i-preserved : goal.loop-i-preserved
loop-i-preserved c =
    c.in_ok-push.ensures.ok ∙ ap₂ (λ xs x. xs ++ x ∷ []) c.loop-i.invariant c.node_item.ensures
    ∙ sym (map-range_with_len_more (node_item c.args.nodes) 0 c.loop-i.i c.loop-i.i (omega arith))
