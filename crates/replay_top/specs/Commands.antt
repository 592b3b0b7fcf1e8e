-- What the words after the program's name ask for.
use Rattle.std.specs.Prelude.{ℕ, List, [], ◌∷◌, codes, Option, Some, None, if◌then◌else◌}
use Rattle.std.specs.Option.{option_map, option_or}
use Rattle.std.specs.Str.{bytes_eq}
use Rattle.replay_top.specs.declared.asked.Asked.{Asked}
use Rattle.replay_top.specs.declared.asked.Asked.TheVariants.{Check, Audit, Collect, Place}
use Rattle.replay_top.specs.declared.command.Command.{Command}
use Rattle.replay_top.specs.declared.command.Command.TheVariants.{Asks, Runs, Generates}
use Rattle.replay_top.specs.declared.command.Run.{Run}
use Rattle.replay_top.specs.declared.command.Run.TheVariants.{Replay, State}
use Rattle.replay_top.specs.Sizes.{AreWithin, number, sizes_of}

-- each question is a word
abbrev pub by_word : List ℕ → Option Asked
by_word word =
    if bytes_eq word (codes "check") then Some Check
    else (if bytes_eq word (codes "audit") then Some Audit
    else (if bytes_eq word (codes "collect") then Some Collect
    else (if bytes_eq word (codes "place") then Some Place else None)))

abbrev pub asked_of : List (List ℕ) → Option Asked
asked_of (word ∷ []) = by_word word
asked_of _ = None

-- the state after the beat that the word is
abbrev pub state_by : List ℕ → Option Run
state_by word = option_map (λ n. State (record { 0 = n })) (number 0 604800000 word)

-- `replay` alone, and `state` with a beat
abbrev pub run_of : List (List ℕ) → Option Run
run_of (word ∷ []) = if bytes_eq word (codes "replay") then Some Replay else None
run_of (word ∷ beat ∷ []) = if bytes_eq word (codes "state") then state_by beat else None
run_of _ = None

-- a question, `generate` with its four numbers, or what is done with a document
abbrev pub command_of : List (List ℕ) → Option Command
command_of words = option_or (option_map Asks (asked_of words)) (option_or (option_map Generates (sizes_of words)) (option_map Runs (run_of words)))

-- the sizes of a generated document are in their ranges
abbrev pub IsWithin : Command → Type 0
IsWithin (Generates sizes) = AreWithin sizes
IsWithin _ = Unit {0}
