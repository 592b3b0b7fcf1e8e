use Rattle.std.proofs.Common.{◌++◌, ◌∷◌, [], sym, ap, ap₂, ◌∙◌, arith}
use Rattle.std.proofs.lemmas.List.FromFn.{map-range_with_len_more}
use Rattle.world_gen.specs.Generated.{process, kubelet}
use Rattle.world_gen.proofs.process.kubelets.Goals as goal

pub loop-i-preserved : goal.loop-i-preserved
loop-i-preserved c =
    c.in_ok-push.ensures.ok ∙ ap₂ (λ xs x. xs ++ x ∷ []) c.loop-i.invariant
    (c.process.ensures ∙ ap (λ name. process name 1_000_000) c.node_number.ensures)
    ∙ sym (map-range_with_len_more kubelet 0 c.loop-i.i c.loop-i.i (omega arith))
