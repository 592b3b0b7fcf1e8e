-- The number told of beats at which two act.
use Rattle.std.specs.Prelude.{◌≡◌, ℕ, ◌+◌, List, count_by}
use Rattle.std.specs.List.{range_with_len}
use Rattle.lens_terms.specs.Acting.{acting}
use Rattle.lens_terms.specs.Beats.{two_act}
use Rattle.lens_terms.specs.Together.{beats_of_two}
use Rattle.trace_lines.specs.declared.line.Line.{Line}

-- in a trace up to its last beat, it is as many beats as there are at which two identities act
abbrev pub BeatsOfTwoAreCounted : Type 0
BeatsOfTwoAreCounted =
    (end : ℕ) (ls : List (Line (List ℕ))) → beats_of_two (end + 1) (acting (end + 1) ls) ≡ count_by (λ beat. two_act beat (acting (end + 1) ls)) (range_with_len 0 (end + 1))
