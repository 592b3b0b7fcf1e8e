-- What a reader of the objects relies on.
use Rattle.std.specs.Prelude.{◌≡◌, ℕ, ◌++◌, Bool, true, false, List, [], ◌∷◌, codes, map, if◌then◌else◌}
use Rattle.std.specs.Str.{bytes_eq}
use Rattle.trace_audit.specs.Entries.{lines_of}
use Rattle.trace_lines.specs.declared.header.Header.{Header}
use Rattle.trace_lines.specs.declared.line.Line.{Line}
use Rattle.lens_trace.specs.Lines.{header_json, line_json, told}
use Rattle.lens_trace.specs.LineMembers.{line_members}

-- cut at its line feeds, the text is the objects: the first line's, and that of each further line
abbrev pub OneObjectALine : Type 0
OneObjectALine =
    (header : Header) (ls : List (Line (List ℕ))) → lines_of (told header ls) ≡ header_json header ∷ map line_json ls ++ [] ∷ []

-- the names of all members that a line may have
abbrev pub all_names : List (List ℕ)
all_names =
    codes "beat" ∷ codes "actor" ∷ codes "kind" ∷ codes "object" ∷ codes "key" ∷ codes "pod" ∷ codes "due" ∷ codes "node" ∷ codes "ready"
    ∷ codes "reason" ∷ codes "taint" ∷ codes "mode" ∷ codes "zone" ∷ codes "state" ∷ codes "rate" ∷ codes "beats" ∷ codes "answer"
    ∷ codes "v" ∷ codes "t" ∷ []

-- some of the others are left out, and those that stay are in the same order
abbrev pub are_some_of : List (List ℕ) → List (List ℕ) → Bool
are_some_of all [] = true
are_some_of [] (name ∷ names) = false
are_some_of (one ∷ all) (name ∷ names) = if bytes_eq one name then are_some_of all names else are_some_of all (name ∷ names)

-- so no name stands twice in an object, and any two stand in the same order in all objects
abbrev pub MembersInOrder : Type 0
MembersInOrder = (l : Line (List ℕ)) → are_some_of all_names (map (λ m. m.0) (line_members l)) ≡ true
