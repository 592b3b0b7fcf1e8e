-- What a write on the stored record comes to. Source: client-go, package `leaderelection`; profile.
use Rattle.std.specs.Prelude.{◌≡◌, ◌≤◌, ℕ, ◌+◌, ◌*◌, true, List, ◌∷◌, Option, Some, None}
use Rattle.kube_objects.specs.declared.call.Request.{Request}
use Rattle.kube_objects.specs.declared.call.Request.TheVariants.{Create, Update}
use Rattle.kube_objects.specs.Document.{Doc, end_beat, is_controller}
use Rattle.kube_objects.specs.Entry.{Entry, Identity, Call, Sends, actor_of}
use Rattle.kube_objects.specs.Own.{ReleasesByStop}
use Rattle.kube_objects.specs.Stored.{Held, election, stored}
use Rattle.history.specs.History.{history}
use Rattle.history.specs.Sound.{IsSound}
use Rattle.history_laws.specs.Tails.{IsTail}
use Rattle.takeover_laws.specs.Acting.{AreInTime, NobodyActs}
use Rattle.takeover_laws.specs.Calm.{IsSteady, IsCalm}

-- an update of the election Lease on the version that is stored, or its creation where none is
abbrev pub FitsStored : Option Held → Request → Type 0
FitsStored (Some x) (Update key version lease) = (key ≡ election) × (version ≡ x.version)
FitsStored None (Create key lease) = key ≡ election
FitsStored _ request = ⊥

-- in a calm, a steady controller that sends such a write on what is stored one way after the calm began, and at a beat from which a way leads
-- beyond that, doesn't do so while nobody acts up to two ways later
abbrev pub TakeoversEndInActing : Type 0
TakeoversEndInActing =
    (doc : Doc) (near far a e n : ℕ) → IsSound doc → ReleasesByStop doc → IsCalm doc near far a e → AreInTime doc near far a e → 1 ≤ near → near ≤ far → e ≤ end_beat doc → n ≤ e → NobodyActs doc near far a e n
    → (q : Identity) → is_controller doc q.process ≡ true → IsSteady doc near far a e q.process
    → (m : ℕ) (x : Entry) (before : List Entry) (call : Call) (arrives : Option ℕ) → IsTail (x ∷ before) (history doc m) → x.actor ≡ actor_of q → x.fact ≡ Sends call arrives → 2 ≤ x.step
    → a + far ≤ x.beat + near → x.beat + 2 * far ≤ n → a ≤ x.beat → FitsStored (stored election (history doc (a + far))) call.request → ⊥
