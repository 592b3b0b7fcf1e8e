-- What a verdict says of a premise.
use Rattle.std.proofs.Common.{◌≡◌, Bool, true, false, refl}
use Rattle.run_edge.specs.declared.status.Verdict.TheVariants.{Safe, Unsafe}
use Rattle.lens_room.specs.Replies.{verdict_of}

pub verdict-safe : (b : Bool) → Safe ≡ verdict_of b → b ≡ true
verdict-safe true is = refl
verdict-safe false is = absurd (let never : Safe ≡ Unsafe = is in cc)

pub verdict-unsafe : (b : Bool) → Unsafe ≡ verdict_of b → b ≡ false
verdict-unsafe true is = absurd (let never : Unsafe ≡ Safe = is in cc)
verdict-unsafe false is = refl
