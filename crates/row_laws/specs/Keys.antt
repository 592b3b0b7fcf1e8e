-- By which beat a node has its place in its zone's queue, by the row of ticks at which it waits. Source: the node lifecycle controller of
-- Kubernetes, its rate limited queues; the order of the queue is the profile's.
use Rattle.std.specs.Prelude.{◌≡◌, ◌⊎◌, ℕ, ◌==◌, ◌&&◌, Bool, true, false, List, ◌∷◌}
use Rattle.kube_objects.specs.declared.deed.Actor.{Actor}
use Rattle.kube_objects.specs.Entry.{Entry, Identity, Place, Fact, Ticks, Head}
use Rattle.kube_objects.specs.Identities.{is_by}
use Rattle.kube_objects.specs.Newest.{has}
use Rattle.kube_objects.specs.Tainting.{waits, before_tick, queued}
use Rattle.history_laws.specs.Tails.{IsTail}

-- an entry of the term's tick
abbrev pub is_ticking : Identity → Actor → Fact → Bool
is_ticking q who (Ticks tick) = is_by q who
is_ticking q who _ = false

-- an entry of the term's tick but a queued taint
abbrev pub is_plain_tick : Identity → Actor → Fact → Bool
is_plain_tick q who (Ticks (Head at node wanted given written tried)) = false
is_plain_tick q who (Ticks tick) = is_by q who
is_plain_tick q who _ = false

-- the node's own queued taint, whatever its answer
abbrev pub is_taint_of : Identity → ℕ → Actor → Fact → Bool
is_taint_of q name who (Ticks (Head at node wanted given written tried)) = (node == name) && is_by q who
is_taint_of q name who _ = false

abbrev pub is_waiting : Identity → Place → ℕ → List Entry → Bool
is_waiting q place name h = has (waits q place name h)

-- whether the node waited before the tick of an entry; h is the history before the entry
abbrev pub waited : Identity → Place → ℕ → Entry → List Entry → Bool
waited q place name e h = is_waiting q place name (before_tick q e.beat h)

-- at an entry of a tick before which the node didn't wait, and with which it does
pub record Begins (q : Identity) (place : Place) (name : ℕ) (x : Entry) (before : List Entry) : Type 0 where
  pub tick : is_plain_tick q x.actor x.fact ≡ true
  pub new : waited q place name x before ≡ false
  pub waits : is_waiting q place name (x ∷ before) ≡ true

-- at the beat the row of ticks begins at which the node waits, or it was tried to be tainted
pub record IsKey (q : Identity) (place : Place) (name : ℕ) (h : List Entry) (k : ℕ) : Type 0 where
  pub x : Entry
  pub before : List Entry
  pub stands : IsTail (x ∷ before) h
  pub begins : (is_taint_of q name x.actor x.fact ≡ true) ⊎ Begins q place name x before
  -- since then it wasn't tried to be tainted, and it waited before each tick
  pub untried : (f : Entry) (T : List Entry) → IsTail (f ∷ T) h → IsTail (x ∷ before) T → is_taint_of q name f.actor f.fact ≡ false
  pub waits : (f : Entry) (T : List Entry) → IsTail (f ∷ T) h → IsTail (x ∷ before) T → is_plain_tick q f.actor f.fact ≡ true
      → waited q place name f T ≡ true
  pub beat : k ≡ x.beat

-- what isn't of the term's ticks changes nothing of who waits, so a node that waits with a tick waits before the next one
abbrev pub WaitsStay : Type 0
WaitsStay =
    (q : Identity) (place : Place) (name : ℕ) (e : Entry) (h : List Entry) → is_ticking q e.actor e.fact ≡ false
    → waits q place name (e ∷ h) ≡ waits q place name h

-- a waiting node's key is the first beat of the longest row of ticks up to now at which it waits, or that of its last queued taint in it
abbrev pub KeysAreOfRows : Type 0
KeysAreOfRows =
    (q : Identity) (place : Place) (name : ℕ) (h : List Entry) → is_waiting q place name h ≡ true → IsKey q place name h (queued q place name h)
