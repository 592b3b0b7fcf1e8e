-- In which beat an entry stands, what is in force there, and when what is sent and answered there arrives. Source: profile.
use Rattle.std.specs.Prelude.{◌≡◌, ◌≤◌, ℕ, suc, Bool, List, ◌∷◌, Option, IfSome}
use Rattle.kube_objects.specs.declared.script.What.{What}
use Rattle.kube_objects.specs.Document.{Doc}
use Rattle.kube_objects.specs.Entry.{Entry}
use Rattle.kube_objects.specs.Wire.{in_force, request_arrival, reply_arrival, sent_of, back_of}
use Rattle.kube_objects.specs.Own.{ReleasesByStop}
use Rattle.history.specs.History.{history}
use Rattle.history_laws.specs.Tails.{IsTail}
use Rattle.call_laws.specs.Answering.{with_events}

-- an entry stands in the history with its beat, and above the history before it
abbrev pub EntriesStandInBeats : Type 0
EntriesStandInBeats = (doc : Doc) (m : ℕ) (e : Entry) (before : List Entry) → IsTail (e ∷ before) (history doc m)
    → IsTail (e ∷ before) (history doc (suc e.beat)) × (1 ≤ e.step → IsTail (history doc e.beat) before)

-- from the second step of a beat on, in force is what its events left in force
abbrev pub ForcesStand : Type 0
ForcesStand = (doc : Doc) → ReleasesByStop doc → (m : ℕ) (e : Entry) (before : List Entry) → IsTail (e ∷ before) (history doc m) → 2 ≤ e.step
    → ((f : What → Option ℕ) → in_force f before ≡ in_force f (with_events doc e.beat))
    × ((f : What → Option Bool) → in_force f before ≡ in_force f (with_events doc e.beat))

-- a request arrives, and a reply comes, after the delay in force as it is sent or given; what is being lost comes nowhere, a request
-- waits for the end of the store's stall, and a reply for that of its receiver's pause
abbrev pub MessagesTravel : Type 0
MessagesTravel = (doc : Doc) → ReleasesByStop doc → (m : ℕ) (e : Entry) (before : List Entry) → IsTail (e ∷ before) (history doc m)
    → IfSome (sent_of e.actor e.fact) (λ s. (s.call.sent ≡ e.beat) × (s.arrives ≡ request_arrival doc s.who.process e.beat before))
    × IfSome (back_of e.actor e.fact) (λ b. b.comes ≡ reply_arrival doc b.who.process e.beat before)
