use Rattle.std.proofs.Common.{◌≡◌, ◌≤◌, drop}
use Rattle.history.specs.Premise.{longest_below, second_below}
use Rattle.script_reader.proofs.premise.longest_pauses.Given as goal

-- the two longest of the pauses that the events from this place on begin
abbrev pub invariant-loop-place : goal.invariant-loop-place
invariant-loop-place l =
    (l.pauses.0 ≡ longest_below l.controller (drop l.place l.events)) × (l.pauses.1.0 ≡ second_below l.controller (drop l.place l.events))
    × (l.pauses.0 ≤ 4294967296) × (l.pauses.1.0 ≤ 4294967296)
