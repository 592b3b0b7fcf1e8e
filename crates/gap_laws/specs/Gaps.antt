-- How long it takes at least from a write of the election Lease to the lead of somebody else.
-- Source: client-go, package `leaderelection`; profile.
use Rattle.std.specs.Prelude.{◌≡◌, ◌≤◌, ℕ, ◌+◌, ◌*◌, true, List, ◌∷◌, Some}
use Rattle.kube_base.specs.declared.numbers.Version.{Version}
use Rattle.kube_objects.specs.declared.lease.Holder.TheVariants as holder
use Rattle.kube_objects.specs.declared.lease.Lease.{Lease}
use Rattle.kube_objects.specs.declared.object.Object.TheVariants as object
use Rattle.kube_objects.specs.Document.{Doc, end_beat, is_controller, call_timeout, retry_period, renew_deadline}
use Rattle.kube_objects.specs.Elector.{lead_says}
use Rattle.kube_objects.specs.Entry.{Entry, Identity}
use Rattle.kube_objects.specs.Identities.{identity_of, is_other}
use Rattle.kube_objects.specs.Own.{ReleasesByStop}
use Rattle.kube_objects.specs.Stored.{Held, election, stored, at_key, write_of, next_version}
use Rattle.kube_objects.specs.Wire.{request_delay, reply_delay}
use Rattle.history.specs.History.{whole_history, at_turn}
use Rattle.history.specs.Premise.{longest, waited_by, lease_premise}
use Rattle.history.specs.Safe.{Acts}
use Rattle.history.specs.Sound.{IsSound}
use Rattle.history_laws.specs.Tails.{IsTail}
use Rattle.lease_laws.specs.Respects.{respected_time}
use Rattle.span_laws.specs.Spans.{RunsAtLeast, RunsAtMost, IsEnough, IsNeeded}

-- from a beat on, and in each beat once the script's events have happened, the delays of a process are at least so many beats
abbrev pub IsDelayed : Doc → ℕ → ℕ → ℕ → Type 0
IsDelayed doc p from least =
    (x : Entry) (h : List Entry) → IsTail (x ∷ h) (whole_history doc) → from ≤ x.beat → 2 ≤ x.step
    → (least ≤ request_delay p h) × (least ≤ reply_delay p h)

-- the accepted write of the election Lease with a version that stands in a history; before is the history before it
pub record IsWriteOf (version : Version) (h before : List Entry) : Type 0 where
  pub x : Entry
  pub stands : IsTail (x ∷ before) h
  pub lease : Lease
  pub writes : at_key election (write_of x.fact) ≡ Some (Some (object.Lease lease))
  pub given : next_version before ≡ version

-- what was stored before a write is the record of somebody other than q
pub record IsTakenFrom (q : Identity) (before : List Entry) (y : Held) (lease : Lease) : Type 0 where
  pub stored : stored election before ≡ Some y
  pub object : y.object ≡ object.Lease lease
  pub other : is_other q lease.holder ≡ true

-- where leaders give up their Leases at stops alone: whoever comes to lead at beat k by a write over the record of somebody else, which was written at beat w and isn't given up, does so no sooner
-- than the time that it waits for such a record takes on its own clock since then, and the way of a reply, of a request and of a reply
abbrev pub GapLasts : Doc → Type 0
GapLasts doc =
    IsSound doc → ReleasesByStop doc → (q : Identity) → is_controller doc q.process ≡ true
    → (e : Entry) (earlier before : List Entry) (version : Version) → IsTail (e ∷ earlier) (whole_history doc) → lead_says q e.actor e.fact ≡ Some version → IsWriteOf version earlier before
    → (y : Held) (lease : Lease) → IsTakenFrom q before y lease
    → (fast needed : ℕ) → RunsAtMost doc q.process y.beat e.beat fast → IsNeeded fast (respected_time doc q.process lease) needed
    → (y.beat + needed + 3 ≤ e.beat) × ((least : ℕ) → IsDelayed doc q.process y.beat least → y.beat + needed + 3 * least ≤ e.beat)

abbrev pub GapsLast : Type 0
GapsLast = (doc : Doc) → GapLasts doc

-- from a position of the history on no write of p is accepted that gives up its lead
abbrev pub KeepsLead : Doc → Identity → List Entry → Type 0
KeepsLead doc p from =
    (x : Entry) (before : List Entry) (lease : Lease) → IsTail (x ∷ before) (whole_history doc) → IsTail from before → identity_of x.actor ≡ Some p
    → at_key election (write_of x.fact) ≡ Some (Some (object.Lease lease)) → lease.holder ≡ holder.Nobody → ⊥

-- under the lease premise: where p acts at beat j and gives up no lead from then on, nobody else acts at a beat k before what others wait for its
-- lease has passed on every controller's clock, and three messages have, since its last success can have been sent: its call timeout, retry
-- period and renew deadline on its own clock before j, and its longest pause. They wait for its lease duration, or, where each goes by its own, at
-- least for the least of all
abbrev pub OtherWaits : Doc → Type 0
OtherWaits doc =
    lease_premise doc ≡ true → IsSound doc → ReleasesByStop doc → (p q : Identity) (j k : ℕ) → k ≤ end_beat doc → j ≤ k → Acts doc p j → Acts doc q k → (p ≡ q → ⊥)
    → KeepsLead doc p (at_turn doc p.process j)
    → (slow lasts : ℕ) → RunsAtLeast doc p.process 0 j slow → IsEnough slow (call_timeout doc p.process + retry_period doc p.process + renew_deadline doc p.process) lasts
    → (fast needed : ℕ) → ((c : ℕ) → is_controller doc c ≡ true → RunsAtMost doc c 0 k fast) → IsNeeded fast (waited_by doc.settings.rules.respect doc p.process) needed
    → j + needed + 5 ≤ k + lasts + longest doc p.process

abbrev pub OthersWait : Type 0
OthersWait = (doc : Doc) → OtherWaits doc
