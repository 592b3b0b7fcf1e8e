use Rattle.std.proofs.Common.{◌≡◌, ◌≤◌, ◌+◌, map, drop}
use Rattle.lens_terms.specs.Acting.{shown}
use Rattle.lens_terms.specs.Together.{beats_from, latest_shown, none_yet}
use Rattle.lens_terms.proofs.together.beats_of_two.Given as goal

-- those so far and those of the rest
abbrev pub invariant-loop-stretch : goal.invariant-loop-stretch
invariant-loop-stretch l = record {
  few : l.beats ≤ l.since;
  counted : l.beats + beats_from l.stop l.since (latest_shown l.latest) (map shown (drop l.stretch-index l.found)) ≡ beats_from l.stop 0 none_yet (map shown l.found);
}
