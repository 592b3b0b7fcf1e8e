-- Processes beside the places of their names' numbers.
use Rattle.std.specs.Prelude.{◌≡◌, ℕ, ◌==◌, ◌≤◌, length, position}
use Rattle.std.specs.BTreeMap.{get}
use Rattle.std.specs.Ordering.{nat_cmp}
use Rattle.script_reader.specs.declared.cast.Named.{Named}
use Rattle.script_reader.specs.declared.cast.Players.{Players}
use Rattle.script_reader.specs.Walk.{Cast, cast_of, numbers_of}

-- the numbers of the names in order, and the place of each
pub record Stands (n : Named) : Type 0 where
  pub numbers : n.numbers ≡ numbers_of n.procs
  pub places : (q : ℕ) → get nat_cmp n.places q ≡ position (λ other. q == other) (numbers_of n.procs)
  pub few : length n.procs ≤ 15000

-- the processes that events may name
abbrev pub seen : Players → Cast
seen p = cast_of p.controllers.procs p.kubelets.procs

pub record AreNamed (p : Players) : Type 0 where
  pub controllers : Stands p.controllers
  pub kubelets : Stands p.kubelets
