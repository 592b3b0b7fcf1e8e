use Rattle.std.proofs.Common.{◌&&◌, not, sym, ap, ◌∙◌}
use Rattle.watch_cache.specs.Listed.{has_pod, lists_pod}
use Rattle.key_map.proofs.Pairs.{taken}
use Rattle.watch_cache.proofs.index.Index.leave.Goals as goal

pub returns-in-Pod-clause-pods : goal.returns-in-Pod-clause-pods
returns-in-Pod-clause-pods c n k =
    taken c.args.self.now.pods c.remove-in-Pod.new.self (c.in-Pod.node, c.in-Pod.key) c.remove-in-Pod.ensures.updates (n, k)
    ∙ ap (λ l. not (lists_pod l n k) && has_pod c.args.self.now n k) (sym c.in-Pod.is)
