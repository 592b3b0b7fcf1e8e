-- At which beats entries stand. Source: profile.
use Rattle.std.specs.Prelude.{◌≡◌, ◌↔◌, ℕ, zero, suc, ◌==◌, ◌&&◌, ◌||◌, nat_lt, ◌<◌, ◌≤◌, Bool, true, false, ◌++◌, List, [], ◌∷◌}
use Rattle.kube_objects.specs.Document.{Doc, processes, end_beat}
use Rattle.kube_objects.specs.Entry.{Entry}
use Rattle.kube_objects.specs.InFlight.{requests_due, replies_due}
use Rattle.kube_objects.specs.Newest.{added}
use Rattle.history.specs.History.{beat, history, whole_history}
use Rattle.history.specs.Steps.{step_one, turn}
use Rattle.history_laws.specs.Tails.{In}

-- an entry of a beat's steps stands in the history of all beats
pub record StandsAt (doc : Doc) (k : ℕ) : Type 0 where
  pub e : Entry
  pub stands : In e (whole_history doc)
  pub beat : e.beat ≡ k
  pub within : 1 ≤ e.step

-- each part of a beat, done on the history by itself, adds nothing to it
pub record IsQuiet (doc : Doc) (k : ℕ) (h : List Entry) : Type 0 where
  pub events : step_one doc k h ≡ h
  pub requests : requests_due k h ≡ []
  pub replies : replies_due k h ≡ []
  pub turns : (p : ℕ) → p < processes doc → turn doc k p h ≡ h

-- an entry of the steps of the beats from k to j
pub record IsFrom (k j : ℕ) (e : Entry) : Type 0 where
  pub least : k ≤ e.beat
  pub most : e.beat ≤ j
  pub within : 1 ≤ e.step

abbrev pub AreFrom : ℕ → ℕ → List Entry → Type 0
AreFrom k j [] = Unit {0}
AreFrom k j (e ∷ es) = IsFrom k j e × AreFrom k j es

-- a history with entries of these beats more
pub record Added (k j : ℕ) (g h : List Entry) : Type 0 where
  pub entries : List Entry
  pub is : h ≡ entries ++ g
  pub from : AreFrom k j entries

-- a beat adds nothing exactly where each of its parts adds nothing
abbrev pub BeatsAddByParts : Type 0
BeatsAddByParts = (doc : Doc) (k : ℕ) (h : List Entry) → beat doc h k ≡ h ↔ IsQuiet doc k h

-- a beat adds entries of its own steps alone
abbrev pub BeatsAddTheirs : Type 0
BeatsAddTheirs = (doc : Doc) (k : ℕ) (h : List Entry) → Added k k h (beat doc h k)

-- an entry stands at a beat up to the end exactly where the beat adds one
abbrev pub EntriesStandWhereAdded : Type 0
EntriesStandWhereAdded = (doc : Doc) (k : ℕ) → k ≤ end_beat doc → StandsAt doc k ↔ ¬ (beat doc (history doc k) k ≡ history doc k)

-- ---- how many beats have entries

abbrev pub is_of : ℕ → Entry → Bool
is_of k e = (e.beat == k) && nat_lt 0 e.step

-- whether an entry of a beat's steps stands in a history
abbrev pub stands_in : ℕ → List Entry → Bool
stands_in k [] = false
stands_in k (e ∷ h) = is_of k e || stands_in k h

-- at how many of the beats below k an entry of the history of all beats stands
abbrev pub standing_below : Doc → ℕ → ℕ
standing_below doc zero = 0
standing_below doc (suc k) = added (stands_in k (whole_history doc)) (standing_below doc k)

-- at how many beats an entry stands
abbrev pub standing_beats : Doc → ℕ
standing_beats doc = standing_below doc (suc (end_beat doc))

-- the test tells where an entry stands
abbrev pub StandingIsTested : Type 0
StandingIsTested = (doc : Doc) (k : ℕ) → stands_in k (whole_history doc) ≡ true ↔ StandsAt doc k
