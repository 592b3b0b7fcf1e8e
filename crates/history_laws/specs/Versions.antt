-- Which write gave what is stored.
use Rattle.std.specs.Prelude.{◌≡◌, ◌≤◌, List, ◌∷◌, Some}
use Rattle.kube_objects.specs.declared.key.Key.{Key}
use Rattle.kube_objects.specs.Entry.{Entry}
use Rattle.kube_objects.specs.Identities.{identity_of}
use Rattle.kube_objects.specs.Stored.{Held, stored, writes, next_version, at_key, write_of}
use Rattle.history_laws.specs.Tails.{IsTail}

-- an entry of the history wrote what is stored at the key, and the version is its number among the accepted writes
pub record IsWritten (key : Key) (h : List Entry) (x : Held) : Type 0 where
  pub e : Entry
  pub before : List Entry
  pub position : IsTail (e ∷ before) h
  pub write : at_key key (write_of e.fact) ≡ Some (Some x.object)
  pub version : x.version ≡ next_version before
  pub beat : x.beat ≡ e.beat
  pub by : x.by ≡ identity_of e.actor

-- what is stored was written by an entry, and its version isn't above the number of accepted writes
abbrev pub VersionsAreGiven : Type 0
VersionsAreGiven = (h : List Entry) (key : Key) (x : Held) → stored key h ≡ Some x → IsWritten key h x × (x.version.0 ≤ writes h)

-- at a later position of a history a key's version isn't lower
abbrev pub VersionsRise : Type 0
VersionsRise = (g h : List Entry) → IsTail g h → (key : Key) (x y : Held)
    → stored key g ≡ Some x → stored key h ≡ Some y → x.version.0 ≤ y.version.0

-- equal versions of a key at two positions of a history are one write, with one content
abbrev pub VersionsAreContents : Type 0
VersionsAreContents = (g h : List Entry) → IsTail g h → (key : Key) (x y : Held)
    → stored key g ≡ Some x → stored key h ≡ Some y → x.version ≡ y.version → x ≡ y
