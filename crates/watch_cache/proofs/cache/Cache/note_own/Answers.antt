use Rattle.std.proofs.Common.{refl}
use Rattle.watch_cache.proofs.Frames.{noted_result}
use Rattle.watch_cache.proofs.cache.Cache.note_own.Goals as goal

pub returns-clause-stands : goal.returns-clause-stands
returns-clause-stands c q h k tick s is next = noted_result q h k tick c.args.self.now _ c.args.key c.args.written c.write.result s is next c.write.ensures.ok (λ p. refl) refl refl
