-- Beat by beat: who acts, and when nobody does.
use Rattle.std.specs.Prelude.{◌≡◌, ℕ, ◌+◌, ◌≤◌, not, List, filter_map, None}
use Rattle.std.specs.List.{list_any}
use Rattle.lens_terms.specs.Acting.{acts, acting}
use Rattle.lens_terms.specs.Beats.{is_led, is_of, lies_in}
use Rattle.lens_terms.specs.Spans.{leaderless}
use Rattle.trace_audit.specs.Entries.{first_wrong}
use Rattle.trace_lines.specs.Forms.{line_of}
use Rattle.trace_lines.specs.declared.line.Line.{Line}

-- in a trace up to its last beat, a beat lies in one of the spans without a leader exactly where nobody acts
abbrev pub SpansAreLeaderless : Type 0
SpansAreLeaderless =
    (end : ℕ) (ls : List (Line (List ℕ))) (beat : ℕ) → beat ≤ end
    → lies_in beat (leaderless 0 (end + 1) (acting (end + 1) ls)) ≡ not (is_led beat (acting (end + 1) ls))

-- in every trace without a wrong line a beat lies in a stretch of an identity exactly where that identity acts: where it leads and isn't paused
abbrev pub StretchesAreActs : Type 0
StretchesAreActs =
    (end : ℕ) (texts : List (List ℕ)) → first_wrong end 2 0 texts ≡ None → (beat : ℕ) → beat ≤ end → (who : List ℕ)
    → list_any (is_of beat who) (acting (end + 1) (filter_map line_of texts)) ≡ acts (end + 1) beat who (filter_map line_of texts)
