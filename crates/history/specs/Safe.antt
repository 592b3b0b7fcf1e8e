-- The claims on leaders: whoever acts is the stored holder, and only one identity acts at a beat.
use Rattle.std.specs.Prelude.{ℕ, ◌≤◌, ◌≡◌, ◌⊎◌, ◌&&◌, Bool, true, false, List, Option, Some, None}
use Rattle.std.specs.List.{list_any}
use Rattle.kube_objects.specs.declared.deed.Actor.{Actor}
use Rattle.kube_objects.specs.declared.object.Object.{Object}
use Rattle.kube_objects.specs.declared.object.Object.TheVariants as object
use Rattle.kube_objects.specs.declared.rules.ReleaseActing.{ReleaseActing}
use Rattle.kube_objects.specs.declared.rules.ReleaseActing.TheVariants.{Still, Acts as ActsOn}
use Rattle.kube_objects.specs.Document.{Doc, end_beat, is_controller}
use Rattle.kube_objects.specs.Elector.{acts}
use Rattle.kube_objects.specs.Entry.{Entry, Identity, CallKind, Emptying, Fact, Answers}
use Rattle.kube_objects.specs.Identities.{is_by, holder_of}
use Rattle.kube_objects.specs.Newest.{has}
use Rattle.kube_objects.specs.Process.{stops}
use Rattle.kube_objects.specs.Stored.{Held, election, stored}
use Rattle.history.specs.History.{at_turn}
use Rattle.history.specs.Steps.{elector_turn}

-- a controller acts as the leader as its turn in beat k begins
abbrev pub Acts : Doc → Identity → ℕ → Type 0
Acts doc q k = (is_controller doc q.process ≡ true) × (acts doc q k (at_turn doc q.process k) ≡ true)

-- it does so at its tick in beat k: its turn has ended by then what was over, and begun the release that was due
abbrev pub IsActing : Doc → Identity → ℕ → Type 0
IsActing doc q k = (is_controller doc q.process ≡ true) × (acts doc q k (elector_turn doc k q.process (at_turn doc q.process k)) ≡ true)

abbrev pub IsHeldBy : Identity → Object → Type 0
IsHeldBy q (object.Lease lease) = lease.holder ≡ holder_of q
IsHeldBy q _ = ⊥

abbrev pub IsStoredHolder : Identity → Option Held → Type 0
IsStoredHolder q None = ⊥
IsStoredHolder q (Some x) = IsHeldBy q x.object

-- the stored holder that hasn't been stopped
abbrev pub Holds : Identity → List Entry → Type 0
Holds q h = IsStoredHolder q (stored election h) × (stops q h ≡ 0)

abbrev pub is_emptying : CallKind → Bool
is_emptying (Emptying begun) = true
is_emptying _ = false

abbrev pub empties : Identity → Actor → Fact → Bool
empties q who (Answers call reply comes written) = is_by q who && (is_emptying call.kind && has written)
empties q who _ = false

-- an emptying of its Lease was accepted
abbrev pub HasEmptied : Identity → List Entry → Type 0
HasEmptied q h = list_any (λ e. empties q e.actor e.fact) h ≡ true

-- a leader that acts in its release may have handed its Lease on
abbrev pub MayAct : ReleaseActing → Identity → List Entry → Type 0
MayAct Still q h = Holds q h
MayAct ActsOn q h = Holds q h ⊎ HasEmptied q h

-- whoever acts is the holder in the stored election Lease, and hasn't been stopped
abbrev pub Holder : Doc → Type 0
Holder doc =
    (q : Identity) (k : ℕ) → k ≤ end_beat doc → IsActing doc q k
    → MayAct doc.settings.rules.in_release q (at_turn doc q.process k)

-- two identities that act at one beat are the same
abbrev pub Exclusive : Doc → Type 0
Exclusive doc = (p q : Identity) (k : ℕ) → k ≤ end_beat doc → IsActing doc p k → IsActing doc q k → p ≡ q

-- with releases in which leaders act, where two identities act at one beat one of them has emptied its Lease
abbrev pub ExclusiveUntilEmptied : Doc → Type 0
ExclusiveUntilEmptied doc = (p q : Identity) (k : ℕ) → k ≤ end_beat doc → IsActing doc p k → IsActing doc q k
    → (p ≡ q) ⊎ (HasEmptied p (at_turn doc p.process k) ⊎ HasEmptied q (at_turn doc q.process k))
