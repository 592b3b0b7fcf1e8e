-- How many beats a run does at most.
use Rattle.std.specs.Prelude.{ℕ, ◌+◌, List, Option, Some, None, option_map, Result, Ok, Err}
use Rattle.agenda_laws.specs.Standing.{standing_beats, standing_below}
use Rattle.manifest_json.specs.declared.fault.Refusal.{Refusal}
use Rattle.script_reader.specs.declared.document.Document.{Document}
use Rattle.script_reader.specs.Documents.{doc_of}
use Rattle.script_reader.specs.Walk.{document_walk}
use Rattle.replay_top.specs.declared.command.Command.{Command}
use Rattle.replay_top.specs.declared.command.Command.TheVariants.{Runs, Generates}
use Rattle.replay_top.specs.declared.command.Run.{Run}
use Rattle.replay_top.specs.declared.command.Run.TheVariants.{Replay, State}
use Rattle.replay_top.specs.Generated.{document_of}
use Rattle.replay_top.specs.Replays.{IsUnread}

-- as many as have entries, for a state up to its beat
abbrev pub most_for : Run → Document → ℕ
most_for Replay d = standing_beats (doc_of d)
most_for (State beat) d = standing_below (doc_of d) (beat.0 + 1)

-- none of a document that is refused
abbrev pub most_read : Run → Result Document Refusal → ℕ
most_read run (Ok d) = most_for run d
most_read run (Err r) = 0

-- not known where the source that is read doesn't tell its bytes; questions and other words do none
abbrev pub most_steps : Option Command → Option (List ℕ) → Option ℕ
most_steps (Some (Runs run)) left = option_map (λ bytes. most_read run (document_walk bytes)) left
most_steps (Some (Generates sizes)) left = Some (standing_beats (document_of sizes))
most_steps _ left = Some 0

-- the source tells bytes that are no document that is read
abbrev pub TellsNone : Option (List ℕ) → Type 0
TellsNone None = ⊥
TellsNone (Some bytes) = IsUnread bytes

-- no document is run: none is asked for, or the source tells that there is none
abbrev pub IsIdle : Option Command → Option (List ℕ) → Type 0
IsIdle (Some (Runs run)) left = TellsNone left
IsIdle (Some (Generates sizes)) left = ⊥
IsIdle _ left = Unit {0}
