-- What is claimed of the history of a document, and of what was written of it.
use Rattle.std.specs.Prelude.{◌≡◌, ℕ, true, List, Option, Some, Ok}
use Rattle.kube_base.specs.declared.numbers.Beat.{Beat}
use Rattle.kube_objects.specs.Document.{Doc}
use Rattle.history.specs.Evictions.{Limit, NotEarly, Prompt}
use Rattle.history.specs.Premise.{lease_part, lease_premise}
use Rattle.history.specs.Safe.{Holder, Exclusive, ExclusiveUntilEmptied}
use Rattle.history.specs.Spacing.{Spacing, SpacingInRows}
use Rattle.script_reader.specs.declared.document.Document.{Document}
use Rattle.script_reader.specs.Documents.{doc_of}
use Rattle.script_reader.specs.Lawful.{IsLawfulDoc}
use Rattle.script_reader.specs.Walk.{document_walk}
use Rattle.trace_audit.specs.Alone.{entries_in, OneActs}
use Rattle.replay_top.specs.declared.asked.Asked.TheVariants.{Audit}
use Rattle.replay_top.specs.declared.command.Command.TheVariants.{Asks}
use Rattle.replay_top.specs.Commands.{command_of}
use Rattle.replay_top.specs.Replays.{Replays, Shows, WhereGenerated, WhereRead, WhereReadUnderPremise, WhereReplayedUnderPremise}
use Rattle.replay_top.specs.State.{ReadsBack}
use Rattle.replay_top.specs.Timely.{IsTimely}

-- whoever acts is the stored holder, or has emptied its Lease where leaders act in their releases; only one identity acts at a beat, queued
-- taints are spaced, and pods are evicted when they are due, no earlier and no later than by the first tick that reaches the store and is within
-- the limit of deletes, which each term keeps
pub record IsSafe (doc : Doc) : Type 0 where
  pub holder : Holder doc
  pub exclusive : Exclusive doc
  pub spacing : Spacing doc
  pub not_early : NotEarly doc
  pub prompt : Prompt doc
  pub limit : Limit doc

-- where the leases are long enough, whatever becomes of replies: whoever acts is the stored holder or, where leaders act in their releases,
-- has emptied its Lease, and where two identities act at one beat one of them has
pub record IsSafeUntilEmptied (doc : Doc) : Type 0 where
  pub holder : Holder doc
  pub exclusive : ExclusiveUntilEmptied doc

-- of every lawful document: the first where its lease premise holds, until_emptied where its leases are long enough, all others always. That
-- evictions are never early, are prompt and keep the limit asks for nothing
pub record LawfulAreSafe : Type 0 where
  pub safe : (doc : Doc) → IsLawfulDoc doc → lease_premise doc ≡ true → IsSafe doc
  pub until_emptied : (doc : Doc) → IsLawfulDoc doc → lease_part doc ≡ true → IsSafeUntilEmptied doc
  pub spacing_in_rows : (doc : Doc) → IsLawfulDoc doc → SpacingInRows doc
  pub not_early : (doc : Doc) → NotEarly doc
  pub prompt : (doc : Doc) → Prompt doc
  pub limit : (doc : Doc) → Limit doc
  pub timely : (doc : Doc) → IsLawfulDoc doc → IsTimely doc

-- of every document that can be read: the first three where its lease premise holds, until_emptied where its leases are long enough, all others
-- always. That evictions are never early and keep the limit needs no reading
pub record AreSafe : Type 0 where
  pub holder : WhereReadUnderPremise Holder
  pub exclusive : WhereReadUnderPremise Exclusive
  pub spacing : WhereReadUnderPremise Spacing
  pub until_emptied : (bytes : List ℕ) (d : Document) → document_walk bytes ≡ Ok d → lease_part (doc_of d) ≡ true → IsSafeUntilEmptied (doc_of d)
  pub spacing_in_rows : WhereRead SpacingInRows
  pub not_early : (d : Document) → NotEarly (doc_of d)
  pub prompt : WhereRead Prompt
  pub limit : (d : Document) → Limit (doc_of d)
  pub timely : WhereRead IsTimely

-- of the history of the document that these words replay, show a state of, or generate, with these bytes in the source
pub record Claims (words : List (List ℕ)) (left : Option (List ℕ)) : Type 0 where
  -- where the lease premise holds, whoever acts is the stored holder and wasn't stopped; where leaders act in their releases it may also have
  -- emptied its Lease
  pub holder : WhereReplayedUnderPremise words left Holder
  -- only one identity acts at a beat
  pub exclusive : WhereReplayedUnderPremise words left Exclusive
  -- where the leases are long enough, whatever becomes of replies, nobody acts beside another one unless one of them has emptied its Lease
  pub until_emptied : (d : Document) → Replays words left d → lease_part (doc_of d) ≡ true → IsSafeUntilEmptied (doc_of d)
  -- from each queued taint of a zone to each in a later beat a token of the zone grows; where buckets start full, as many come beside as rows
  -- of terms' passes begin at which the zone is one
  pub spacing : WhereReplayedUnderPremise words left Spacing
  -- always, within such a row, a token grows from each to the next
  pub spacing_in_rows : (d : Document) → Replays words left d → SpacingInRows (doc_of d)
  -- always, a controller evicts a pod only when it is due on the controller's clock
  pub not_early : (d : Document) → Replays words left d → NotEarly (doc_of d)
  -- and by its first tick that reaches the store and is within the limit
  pub prompt : (d : Document) → Replays words left d → Prompt (doc_of d)
  -- where deletes have a limit, each term keeps it
  pub limit : (d : Document) → Replays words left d → Limit (doc_of d)
  -- how long nobody leads is bounded in calm spans, and always from below
  pub timely : (d : Document) → Replays words left d → IsTimely (doc_of d)
  -- of a generated document all of these always: its lease premise holds
  pub safe : WhereGenerated words IsSafe
  pub timely_generated : WhereGenerated words IsTimely
  -- of a document whose state is shown all of these: six where its lease premise holds, one where its leases are long enough
  pub safe_state : (d : Document) (beat : Beat) → Shows words left d beat → lease_premise (doc_of d) ≡ true → IsSafe (doc_of d)
  pub until_emptied_state : (d : Document) (beat : Beat) → Shows words left d beat → lease_part (doc_of d) ≡ true → IsSafeUntilEmptied (doc_of d)
  pub timely_state : (d : Document) (beat : Beat) → Shows words left d beat → IsTimely (doc_of d)

-- of what was written whole
pub record IsWell (words : List (List ℕ)) (left : Option (List ℕ)) : Type 0 where
  -- a state is read as what is stored after the beat
  pub reads_back : (d : Document) (beat : Beat) → Shows words left d beat → ReadsBack d beat.0
  -- in a trace that `audit` lets pass all acting lines of a beat are by one identity
  pub alone : (bytes : List ℕ) → left ≡ Some bytes → command_of words ≡ Some (Asks Audit) → OneActs (entries_in bytes)
