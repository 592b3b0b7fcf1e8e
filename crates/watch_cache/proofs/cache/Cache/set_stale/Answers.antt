use Rattle.std.proofs.Common.{refl}
use Rattle.watch_cache.proofs.Frames.{stands_refused}
use Rattle.watch_cache.proofs.Orders.{added_key}
use Rattle.watch_cache.proofs.cache.Cache.set_stale.Goals as goal

pub returns-clause-stale : goal.returns-clause-stale
returns-clause-stale c = added_key c.args.self.now.stale c.insert.new.self c.args.key c.in_ok-insert.ensures.updates

pub returns-clause-stands : goal.returns-clause-stands
returns-clause-stands c q h k tick s is = stands_refused q h k tick c.args.self.now _ c.args.key s is (returns-clause-stale c) (λ p. refl) refl refl
