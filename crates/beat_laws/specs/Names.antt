-- How many nodes were ever written.
use Rattle.std.specs.Prelude.{◌≤◌, ◌+◌, ℕ, List, length}
use Rattle.kube_objects.specs.Document.{Doc}
use Rattle.kube_objects.specs.Entry.{Entry, Identity}
use Rattle.kube_objects.specs.Modes.{nodes}
use Rattle.kube_objects.specs.Seen.{node_names}
use Rattle.kube_objects.specs.Tick.{sync}
use Rattle.history.specs.History.{history}
use Rattle.history_laws.specs.Tails.{IsTail}

-- processes write no node under a new name: each name is of an object of the document or of a put of its script
abbrev pub NodesAreFew : Type 0
NodesAreFew = (doc : Doc) (k : ℕ) → length (node_names (history doc k)) ≤ length doc.objects + length doc.events

-- and so it is at each position of a history
abbrev pub NodesAreFewThroughout : Type 0
NodesAreFewThroughout = (doc : Doc) (k : ℕ) (g : List Entry) → IsTail g (history doc k)
    → length (node_names g) ≤ length doc.objects + length doc.events

-- a name that was written stays written
abbrev pub NamesOnlyGrow : Type 0
NamesOnlyGrow = (g h : List Entry) → IsTail g h → length (node_names g) ≤ length (node_names h)

-- a term has no more nodes than names, also after a sync
abbrev pub NodesAreNamed : Type 0
NodesAreNamed = (doc : Doc) (k : ℕ) (q : Identity) (h : List Entry) → length (nodes q (sync doc k q h)) ≤ length (node_names h)
