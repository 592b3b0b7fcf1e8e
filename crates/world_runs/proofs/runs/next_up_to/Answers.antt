use Rattle.std.proofs.Common.{◌≡◌, ℕ, None, Some, refl, arith}
use Rattle.std.proofs.lemmas.Bool.{lt-ltb}
use Rattle.world_runs.proofs.runs.next_up_to.Goals as goal

none_some : (n : ℕ) → None ≡ Some n → ⊥
none_some n same = cc

some_same : (n m : ℕ) → Some n ≡ Some m → n ≡ m
some_same n m same = cc

pub returns-then-beat-last : goal.returns-then-beat-last
returns-then-beat-last c doc events stands end =
    let n = c.in-Some.beat.0 in
    let next = c.in-Some.ensures doc events stands end in
    let within = c.if-beat-last.true in
    record {
      quiet = λ none. absurd (let never : Some n ≡ None = none in cc);
      there = λ m is. (let same = some_same n m is in omega (arith, same, within), next);
    }

pub returns-else-beat-last : goal.returns-else-beat-last
returns-else-beat-last c doc events stands end =
    let n = c.in-Some.beat.0 in
    let next = c.in-Some.ensures doc events stands end in
    let past = c.if-beat-last.false in
    record {
      quiet = λ none j from most. next.quiet j from (omega (arith, most, c.requires.within, end)) (lt-ltb j n (omega (arith, most, past)));
      there = λ m is. absurd (none_some m is);
    }

pub returns-in-None : goal.returns-in-None
returns-in-None c doc events stands end =
    let next = c.in-None.ensures doc events stands end in
    record {
      quiet = λ none j from most. next.quiet j from (omega (arith, most, c.requires.within, end)) refl;
      there = λ m is. absurd (none_some m is);
    }
