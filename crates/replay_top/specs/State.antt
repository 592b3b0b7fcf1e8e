-- What is stored after a beat, as a manifest.
use Rattle.std.specs.Prelude.{◌≡◌, ℕ, ◌+◌, List, [], ◌∷◌, ◌++◌, Option, Some, None, Ok, codes}
use Rattle.std.specs.BTreeMap.{insert_entry}
use Rattle.serde_json.specs.Data.{Data}
use Rattle.serde_json.specs.Read.{read}
use Rattle.serde_json.specs.Written.{compact_text}
use Rattle.kube_objects.specs.declared.key.Key.{Key}
use Rattle.kube_objects.specs.declared.object.Object.{Object}
use Rattle.kube_objects.specs.Document.{Doc}
use Rattle.kube_objects.specs.Entry.{Entry}
use Rattle.kube_objects.specs.Keys.{key_cmp}
use Rattle.kube_objects.specs.Stored.{Held, Write, stored, write_of}
use Rattle.history.specs.History.{history}
use Rattle.manifest_json.specs.declared.scale.Scale.{Scale}
use Rattle.manifest_json.specs.Fields.{Texts}
use Rattle.manifest_json.specs.Readable.{IsReadable}
use Rattle.manifest_json.specs.Walk.{list_walk}
use Rattle.manifest_json.specs.Written.{list_of}
use Rattle.naming_laws.specs.WellFormed.{AreWithinLimits}
use Rattle.script_reader.specs.declared.document.Document.{Document}
use Rattle.script_reader.specs.Documents.{doc_of}
use Rattle.script_reader.specs.Walk.{numbers_of}

-- ---- the stored objects

-- what is stored at a key, among others in the order of keys
abbrev pub and_stored : Key → Option Held → List (Key × Object) → List (Key × Object)
and_stored key None items = items
and_stored key (Some held) items = insert_entry key_cmp items key held.object

abbrev pub and_written : List Entry → Option Write → List (Key × Object) → List (Key × Object)
and_written h None items = items
and_written h (Some write) items = and_stored write.0 (stored write.0 h) items

-- what is stored after history h at the keys that these entries wrote
abbrev pub stored_at : List Entry → List Entry → List (Key × Object)
stored_at h [] = []
stored_at h (e ∷ rest) = and_written h (write_of e.fact) (stored_at h rest)

-- all that is stored after a history, in the order of keys
abbrev pub stored_after : List Entry → List (Key × Object)
stored_after h = stored_at h h

-- all that is stored after a beat
unfoldable pub state : Doc → ℕ → List (Key × Object)
state doc b = stored_after (history doc (b + 1))

-- ---- the text

-- as a `v1` List
unfoldable pub state_list : Document → ℕ → Data
state_list d b = list_of d.names (numbers_of d.controllers) (state (doc_of d) b)

-- one line, with no space
unfoldable pub line_of : Data → List ℕ
line_of list = compact_text list ++ codes "\n"

abbrev pub state_text : Document → ℕ → List ℕ
state_text d b = line_of (state_list d b)

-- The line of the List of these objects is read as the List, and the List, where a manifest can give them, as these objects, with nothing
-- skipped and no new name, wherever it stands in a document with the same names
pub record IsReadAgain (names : Texts) (known : List ℕ) (items : List (Key × Object)) : Type 0 where
  pub text : read (compact_text (list_of names known items)) ≡ Some (list_of names known items)
  pub list : (scale : Scale) → IsReadable scale names known items → (path : List ℕ)
      → list_walk scale names known path (list_of names known items) ≡ Ok ((items, 0), names)

-- The line of a state is read so too, at a scale whose limits on objects it doesn't pass, nor those on taints and tolerations
pub record IsReadBack (names : Texts) (known : List ℕ) (items : List (Key × Object)) : Type 0 where
  pub text : read (compact_text (list_of names known items)) ≡ Some (list_of names known items)
  pub list : (scale : Scale) → AreWithinLimits scale items → (path : List ℕ)
      → list_walk scale names known path (list_of names known items) ≡ Ok ((items, 0), names)

abbrev pub ReadsBack : Document → ℕ → Type 0
ReadsBack d b = IsReadBack d.names (numbers_of d.controllers) (state (doc_of d) b)
