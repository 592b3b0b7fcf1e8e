-- What arrives at a beat is answered or delivered in it. Source: profile.
use Rattle.std.specs.Prelude.{◌≡◌, ℕ, suc, List, Some}
use Rattle.kube_objects.specs.Document.{Doc}
use Rattle.kube_objects.specs.Entry.{Entry}
use Rattle.kube_objects.specs.Wire.{Sent, Back, sent_of, back_of}
use Rattle.history.specs.History.{history}
use Rattle.history.specs.Steps.{step_one, step_two, answered, delivered}
use Rattle.history_laws.specs.Tails.{In, IsTail}

-- the history with a beat's events, and with the answers to what arrives in the beat
abbrev pub with_events : Doc → ℕ → List Entry
with_events doc k = step_one doc k (history doc k)

abbrev pub with_answers : Doc → ℕ → List Entry
with_answers doc k = step_two doc k (with_events doc k)

-- a request is answered in a beat, from what was stored before the answer
pub record IsAnswered (doc : Doc) (k : ℕ) (s : Sent) : Type 0 where
  pub before : List Entry
  pub after : IsTail (with_events doc k) before
  pub position : IsTail (answered doc k s before) (history doc (suc k))

-- a reply is delivered in a beat, with what it causes
pub record IsDelivered (doc : Doc) (k : ℕ) (b : Back) : Type 0 where
  pub before : List Entry
  pub after : IsTail (with_answers doc k) before
  pub position : IsTail (delivered doc k b before) (history doc (suc k))

-- a request that was sent before and arrives at a beat is answered in it
abbrev pub RequestsAreAnswered : Type 0
RequestsAreAnswered = (doc : Doc) (k : ℕ) (e : Entry) (s : Sent) → In e (with_events doc k) → sent_of e.actor e.fact ≡ Some s → s.arrives ≡ Some k → IsAnswered doc k s

-- a reply that was given before and comes at a beat is delivered in it
abbrev pub RepliesAreDelivered : Type 0
RepliesAreDelivered = (doc : Doc) (k : ℕ) (e : Entry) (b : Back) → In e (with_answers doc k) → back_of e.actor e.fact ≡ Some b → b.comes ≡ Some k → IsDelivered doc k b
