-- A process starts only while it is down. Source: profile.
use Rattle.std.specs.Prelude.{◌≡◌, ℕ, List, ◌∷◌, None}
use Rattle.kube_objects.specs.Document.{Doc}
use Rattle.kube_objects.specs.Entry.{Entry, Identity, Starts, actor_of}
use Rattle.kube_objects.specs.Process.{alive}
use Rattle.kube_objects.specs.Own.{ReleasesByStop}
use Rattle.history.specs.History.{history}
use Rattle.history_laws.specs.Tails.{IsTail}

-- where the entry is a start, its process is down before it
abbrev pub StartsDown : Entry → List Entry → Type 0
StartsDown x before = x.fact ≡ Starts → (q : Identity) → x.actor ≡ actor_of q → alive q.process before ≡ None

abbrev pub StartsAreDown : Type 0
StartsAreDown = (doc : Doc) → ReleasesByStop doc → (k : ℕ) (x : Entry) (before : List Entry) → IsTail (x ∷ before) (history doc k) → StartsDown x before
