use Rattle.std.proofs.Common.{◌∙◌, sym}
use Rattle.watch_cache.proofs.Orders.{key_there}
use Rattle.watch_cache.proofs.cache.Cache.has_stale.Goals as goal

pub returns-in-Some-clause-some : goal.returns-in-Some-clause-some
returns-in-Some-clause-some c is = (c.in-Some.field-0.now, sym (key_there c.args.self.now.stale c.in-Some.field-0.now) ∙ c.in-Some.ensures.member)
