-- Who acts in a trace.
use Rattle.std.specs.Prelude.{◌≡◌, ℕ, true, List, [], slice_get, Option, Some, None}
use Rattle.trace_lines.specs.Grammar.{cut}
use Rattle.trace_terms.specs.Entries.{Entry}
use Rattle.trace_terms.specs.Terms.{is_acting}
use Rattle.trace_audit.specs.Entries.{lines_of, entries_of}

abbrev pub entries_behind : Option (List ℕ × List ℕ) → List Entry
entries_behind None = []
entries_behind (Some parts) = entries_of 2 (lines_of parts.1)

-- the lines of a text behind its first one, where they are of a form
abbrev pub entries_in : List ℕ → List Entry
entries_in text = entries_behind (cut 10 text)

-- at each beat all acting lines are by one identity
abbrev pub OneActs : List Entry → Type 0
OneActs es =
    (i j : ℕ) (a b : Entry) → slice_get es i ≡ Some a → slice_get es j ≡ Some b → is_acting a.role ≡ true → is_acting b.role ≡ true
    → a.beat ≡ b.beat → a.actor ≡ b.actor
