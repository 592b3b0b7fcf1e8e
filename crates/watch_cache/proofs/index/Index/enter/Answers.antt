use Rattle.std.proofs.Common.{◌||◌, sym, ap, ◌∙◌}
use Rattle.watch_cache.specs.Listed.{has_pod, lists_pod}
use Rattle.key_map.proofs.Pairs.{added}
use Rattle.watch_cache.proofs.index.Index.enter.Goals as goal

pub returns-in_ok-insert-in-Pod-clause-pods : goal.returns-in_ok-insert-in-Pod-clause-pods
returns-in_ok-insert-in-Pod-clause-pods c n k =
    added c.args.self.now.pods c.insert-in-Pod.new.self (c.in-Pod.node, c.in-Pod.key) c.in_ok-insert-in-Pod.ensures.updates (n, k)
    ∙ ap (λ l. lists_pod l n k || has_pod c.args.self.now n k) (sym c.in-Pod.is)
