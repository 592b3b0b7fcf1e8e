use Rattle.std.proofs.Common.{◌≡◌, ◌⊎◌, ℕ, ◌+◌, ◌-◌, ◌/◌, ◌<◌, ◌≤◌, true, false, inl, inr, sym, ◌∙◌, arith}
use Rattle.std.proofs.lemmas.Bool.{both_ways, cases_lt}
use Rattle.lens_tune.specs.declared.first.Question.{Question}
use Rattle.lens_tune.specs.declared.wish.Wish.{Wish}
use Rattle.lens_tune.specs.Searches.{asked}
use Rattle.lens_tune.specs.Wishes.{IsWish}
use Rattle.lens_tune.proofs.Closed.{asked-more}
use Rattle.lens_tune.proofs.first.first.Goals as goal

-- where it isn't so it is only beyond
beyond : (w : Wish) → IsWish w → (question : Question) (middle : ℕ) → asked w question middle ≡ false → (n : ℕ) → asked w question n ≡ true → middle + 1 ≤ n
beyond w range question middle isnt n is = by_size (cases_lt middle n)
  where
    by_size : (middle < n) ⊎ (n ≤ middle) → middle + 1 ≤ n
    by_size (inl more) = omega (arith, more)
    by_size (inr less) = absurd (both_ways (asked w question middle) isnt (asked-more w range question n middle less is))

half-below : (from so : ℕ) → from < so → from + (so - from) / 2 + 1 ≤ so
half-below from so less = omega (arith, less)

pub loop-from-preserved : goal.loop-from-preserved
loop-from-preserved c =
    let l = c.loop-from in
    let middle = l.from + (l.so - l.from) / 2 in
    record {
      so = l.invariant.so;
      from = beyond c.args.w c.requires.wish c.args.question middle (sym c.asked.ensures ∙ c.if-asked.false);
      order = half-below l.from l.so c.loop-from-test.true;
      within = l.invariant.within;
    }
