-- A document that is replayed or generated, and the steps that a run counts.
use Rattle.std.specs.Prelude.{◌≡◌, ◌⊎◌, ◌<◌, ℕ, true, List, length, Option, Some, Ok, Err}
use Rattle.kube_base.specs.declared.numbers.Beat.{Beat}
use Rattle.kube_objects.specs.Document.{Doc}
use Rattle.history.specs.Premise.{lease_premise}
use Rattle.manifest_json.specs.declared.fault.Refusal.{Refusal}
use Rattle.script_reader.specs.declared.document.Document.{Document}
use Rattle.script_reader.specs.Documents.{doc_of}
use Rattle.script_reader.specs.Walk.{document_walk}
use Rattle.replay_top.specs.declared.command.Command.TheVariants.{Runs, Generates}
use Rattle.replay_top.specs.declared.command.Run.TheVariants.{Replay, State}
use Rattle.replay_top.specs.declared.sizes.Sizes.{Sizes}
use Rattle.replay_top.specs.Commands.{command_of}
use Rattle.replay_top.specs.Generated.{document_of}

-- the words are `replay`, and the source tells bytes that are this document
pub record Replays (words : List (List ℕ)) (left : Option (List ℕ)) (d : Document) : Type 0 where
  pub bytes : List ℕ
  pub told : left ≡ Some bytes
  pub command : command_of words ≡ Some (Runs Replay)
  pub read : document_walk bytes ≡ Ok d

-- the words are `state` with this beat, and the source tells bytes that are this document
pub record Shows (words : List (List ℕ)) (left : Option (List ℕ)) (d : Document) (beat : Beat) : Type 0 where
  pub bytes : List ℕ
  pub told : left ≡ Some bytes
  pub command : command_of words ≡ Some (Runs (State beat))
  pub read : document_walk bytes ≡ Ok d

-- this holds of every document that is replayed where the lease premise holds
abbrev pub WhereReplayedUnderPremise : List (List ℕ) → Option (List ℕ) → (Doc → Type 0) → Type 0
WhereReplayedUnderPremise words left P = (d : Document) → Replays words left d → lease_premise (doc_of d) ≡ true → P (doc_of d)

-- this holds of every document that can be read where the lease premise holds
abbrev pub WhereReadUnderPremise : (Doc → Type 0) → Type 0
WhereReadUnderPremise P = (bytes : List ℕ) (d : Document) → document_walk bytes ≡ Ok d → lease_premise (doc_of d) ≡ true → P (doc_of d)

-- this holds of every document that can be read
abbrev pub WhereRead : (Doc → Type 0) → Type 0
WhereRead P = (bytes : List ℕ) (d : Document) → document_walk bytes ≡ Ok d → P (doc_of d)

-- these bytes are no document that is read: there are more than a document may have, or they are refused
abbrev pub IsUnread : List ℕ → Type 0
IsUnread bytes = (16777216 < length bytes) ⊎ ((r : Refusal) × (document_walk bytes ≡ Err r))

-- this holds of the document that is generated where the words ask for one
abbrev pub WhereGenerated : List (List ℕ) → (Doc → Type 0) → Type 0
WhereGenerated words P = (sizes : Sizes) → command_of words ≡ Some (Generates sizes) → P (document_of sizes)
