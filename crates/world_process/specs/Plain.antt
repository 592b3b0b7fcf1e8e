-- What holds of every history, at any point of a beat, that the world keeps in mind.
use Rattle.std.specs.Prelude.{◌≡◌, Bool, ℕ, ◌+◌, ◌<◌, ◌≤◌, ◌^◌, true, false, List, [], ◌∷◌, length, IfSome}
use Rattle.kube_objects.specs.Entry.{Entry, Identity, Fact, Crashes, Stops, Stalls, Ends, ReleaseBegins, ReleaseEnds, StepsDown, ReleaseStops, Delivers, Expires, Leads, entry}
use Rattle.kube_objects.specs.Identities.{identity, is_by, identity_of}
use Rattle.kube_objects.specs.Process.{starts, begun}
use Rattle.kube_objects.specs.Seen.{node_names}
use Rattle.kube_objects.specs.Wire.{Sent, Back}

-- no entry of the history is by the identity
abbrev pub IsUnheard : Identity → List Entry → Type 0
IsUnheard q [] = Unit {0}
IsUnheard q (e ∷ h) = (is_by q e.actor ≡ false) × IsUnheard q h

-- every process's entry is by one of n processes
abbrev pub IsOf : ℕ → List Entry → Type 0
IsOf n [] = Unit {0}
IsOf n (e ∷ h) = IfSome (identity_of e.actor) (λ q. q.process < n) × IsOf n h

-- the identity is of one of n processes, and its incarnation was started
pub record IsKnown (n : ℕ) (h : List Entry) (q : Identity) : Type 0 where
  pub within : q.process < n
  pub started : q.incarnation ≤ starts q.process h

-- only incarnations that were started of the n processes have entries
pub record IsPlain (n : ℕ) (h : List Entry) : Type 0 where
  pub fresh : (p i : ℕ) → starts p h < i → IsUnheard (identity p i) h
  pub all : IsOf n h

-- whose requests and replies these are is known
abbrev pub SentByKnown : ℕ → List Entry → List Sent → Type 0
SentByKnown n h [] = Unit {0}
SentByKnown n h (s ∷ ss) = IsKnown n h s.who × SentByKnown n h ss

abbrev pub BackToKnown : ℕ → List Entry → List Back → Type 0
BackToKnown n h [] = Unit {0}
BackToKnown n h (b ∷ bs) = IsKnown n h b.who × BackToKnown n h bs

-- the calls and starts that a history counts, and the nodes that it names, stay within their types
pub record IsFew (h : List Entry) : Type 0 where
  pub calls : (q : Identity) → begun q h + 1 < 2 ^ 64
  pub starts : (p : ℕ) → starts p h < 2 ^ 32
  pub nodes : length (node_names h) < 2 ^ 32

-- facts of a process that write nothing, send nothing, start nothing and change nothing in force
abbrev pub is_quiet : Fact → Bool
is_quiet Crashes = true
is_quiet (Stalls beats) = true
is_quiet Stops = true
is_quiet Ends = true
is_quiet (Delivers call reply counted) = true
is_quiet (Expires call) = true
is_quiet (Leads version) = true
is_quiet (ReleaseBegins at_deadline) = true
is_quiet ReleaseEnds = true
is_quiet StepsDown = true
is_quiet ReleaseStops = true
is_quiet _ = false

abbrev pub AreQuiet : List Fact → Type 0
AreQuiet [] = Unit {0}
AreQuiet (d ∷ ds) = (is_quiet d ≡ true) × AreQuiet ds

-- the history with entries of one identity, the newest fact first
abbrev pub with_facts : ℕ → ℕ → Identity → List Fact → List Entry → List Entry
with_facts k step q [] h = h
with_facts k step q (d ∷ ds) h = entry k step q d ∷ with_facts k step q ds h
