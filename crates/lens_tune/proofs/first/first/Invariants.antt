use Rattle.std.proofs.Common.{◌≡◌, ℕ, ◌-◌, ◌≤◌, true}
use Rattle.lens_tune.specs.Searches.{asked}
use Rattle.lens_tune.proofs.first.first.Given as goal

-- it is so at the end, and nowhere before the beginning
abbrev pub invariant-loop-from : goal.invariant-loop-from
invariant-loop-from l = record {
  so : asked l.w l.question l.so ≡ true;
  from : (n : ℕ) → asked l.w l.question n ≡ true → l.from ≤ n;
  order : l.from ≤ l.so;
  within : l.so ≤ l.most;
}

abbrev pub decreases-loop-from : goal.decreases-loop-from
decreases-loop-from l = l.so - l.from
