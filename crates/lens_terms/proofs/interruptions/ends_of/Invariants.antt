use Rattle.std.proofs.Common.{◌≡◌, ◌≤◌, ℕ, List, length, drop, map, reverse, Bor}
use Rattle.trace_lines.specs.Reads.{seen}
use Rattle.lens_terms.specs.Acting.{interrupted}
use Rattle.lens_terms.specs.Gathered.{ends, interruption}
use Rattle.lens_terms.proofs.interruptions.ends_of.Given as goal

-- what interrupts whom in the lines from the place on, and the ends so far
abbrev pub invariant-lines : goal.invariant-lines
invariant-lines l = record {
  within : l.at ≤ length l.fn.lines;
  known : (who : Bor (List ℕ)) → interruption l.stop l.interruptions who ≡ interrupted l.stop who.now (map seen (drop l.at l.fn.lines));
  ends_are : l.found.items ≡ reverse (ends l.stop (map seen (drop l.at l.fn.lines)));
}

abbrev pub decreases-lines : goal.decreases-lines
decreases-lines l = l.at
