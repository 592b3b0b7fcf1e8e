-- What a term's deletes owe to the limit: so much a rate has still to make up at a reading, in units of 10^-15 deletes, before as many may go
-- at once as at first. Source: client-go, `flowcontrol`, a client's limit of requests.
use Rattle.std.specs.Prelude.{◌≡◌, ℕ, ◌+◌, ◌-◌, ◌*◌, ◌≤◌, nat_le, true, false, List, [], ◌∷◌}
use Rattle.kube_objects.specs.Clocks.{local}
use Rattle.kube_objects.specs.Document.{Doc}
use Rattle.kube_objects.specs.Entry.{Entry, Identity}
use Rattle.kube_objects.specs.Tick.{has_room, spends}
use Rattle.kube_objects.specs.Tokens.{token_size}
use Rattle.history_laws.specs.Tails.{In}

abbrev pub owed : Doc → Identity → ℕ → List Entry → ℕ
owed doc q now [] = 0
owed doc q now (e ∷ h) =
    elim (spends q e.actor e.fact) [
      | true ↦ owed doc q (local doc q.process e.beat) h + token_size - (now - local doc q.process e.beat) * doc.settings.rules.evict_rate
      | false ↦ owed doc q now h
    ]

-- no entry is of a later beat
abbrev pub AreUpTo : ℕ → List Entry → Type 0
AreUpTo k h = (e : Entry) → In e h → e.beat ≤ k

-- no entry stands above one of a later beat
abbrev pub AreInBeats : List Entry → Type 0
AreInBeats [] = Unit {0}
AreInBeats (e ∷ h) = AreUpTo e.beat h × AreInBeats h

-- at a beat that isn't before those of the history a further delete is within a limit exactly where no more than the rest of the burst is owed
abbrev pub RoomIsOwed : Type 0
RoomIsOwed =
    (doc : Doc) (k : ℕ) (q : Identity) (h : List Entry) → 1 ≤ doc.settings.rules.evict_burst → AreInBeats h → AreUpTo k h
    → has_room doc q k 0 h ≡ nat_le (owed doc q (local doc q.process k) h + token_size) (doc.settings.rules.evict_burst * token_size)
