use Rattle.std.proofs.Common.{◌∙◌}
use Rattle.watch_cache.proofs.Orders.{key_there}
use Rattle.watch_cache.proofs.cache.Cache.is_stale.Goals as goal

pub returns-clause-answer : goal.returns-clause-answer
returns-clause-answer c q h s = c.contains.ensures ∙ key_there c.args.self.now.stale c.args.key.now ∙ s.stale c.args.key.now
