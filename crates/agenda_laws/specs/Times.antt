-- The reading from which each part of a turn but for the tick adds something; it is read from the history alone.
-- Source: profile; for the elector client-go, package `leaderelection`, for a kubelet's rounds KEP-589.
use Rattle.std.specs.Prelude.{◌≡◌, ◌↔◌, ℕ, ◌+◌, nat_lt, min, not, Bool, true, false, List, Option, Some, None}
use Rattle.kube_objects.specs.declared.rules.ReleaseRule.{ReleaseRule}
use Rattle.kube_objects.specs.declared.rules.ReleaseRule.TheVariants.{Stop}
use Rattle.kube_objects.specs.Clocks.{local}
use Rattle.kube_objects.specs.Document.{Doc, call_timeout, renew_deadline, restart_delay}
use Rattle.kube_objects.specs.Elector.{deadline, timer}
use Rattle.kube_objects.specs.Entry.{Entry, Identity, Call}
use Rattle.kube_objects.specs.Identities.{identity}
use Rattle.kube_objects.specs.Kubelet.{has_round, round_timer, is_post_call}
use Rattle.kube_objects.specs.Newest.{only_if}
use Rattle.kube_objects.specs.Process.{alive, call_in, ended, is_releasing, release_begun}
use Rattle.kube_objects.specs.Turns.{just_expired, is_fast_call}
use Rattle.history.specs.Steps.{restart, expire, finish, attempts, elector_turn, rounds, kubelet_turn}

-- whether a reading, a time of day or a beat is before another; None is never reached
abbrev pub is_early : ℕ → Option ℕ → Bool
is_early now None = true
is_early now (Some at) = nat_lt now at

-- the sooner of two
abbrev pub sooner : Option ℕ → Option ℕ → Option ℕ
sooner None other = other
sooner (Some one) None = Some one
sooner (Some one) (Some other) = Some (min one other)

-- what an identity waits for, of a process that is up in this incarnation
abbrev pub if_up : ℕ → (Identity → Option ℕ) → Option ℕ → Option ℕ
if_up p f None = None
if_up p f (Some i) = f (identity p i)

-- ---- a restart

abbrev pub restart_after : Doc → ℕ → Option ℕ → Option ℕ
restart_after doc p None = None
restart_after doc p (Some at) = Some (local doc p at + restart_delay doc)

abbrev pub restart_if_down : Doc → ℕ → Option ℕ → List Entry → Option ℕ
restart_if_down doc p (Some i) h = None
restart_if_down doc p None h = restart_after doc p (ended doc p h)

-- of a controller that ended and is down
abbrev pub restart_at : Doc → ℕ → List Entry → Option ℕ
restart_at doc p h = restart_if_down doc p (alive p h) h

abbrev pub RestartsWake : Type 0
RestartsWake = (doc : Doc) (k p : ℕ) (h : List Entry) → restart doc k p h ≡ h ↔ is_early (local doc p k) (restart_at doc p h) ≡ true

-- ---- an expiry

-- the reading at which the release is over that a call is of
abbrev pub release_at : Doc → Identity → Option ℕ → Option ℕ
release_at doc q None = None
release_at doc q (Some begun) = Some (local doc q.process begun + renew_deadline doc q.process)

-- the least reading at which a call that waits has expired, or its release is over
abbrev pub late_at : Doc → Identity → Option Call → Option ℕ
late_at doc q None = None
late_at doc q (Some call) =
    sooner (release_at doc q (release_begun doc.settings.rules.release call.kind))
    (Some (local doc q.process call.sent + call_timeout doc q.process + 1))

abbrev pub expiry_at : Doc → ℕ → List Entry → Option ℕ
expiry_at doc p h = if_up p (λ q. late_at doc q (call_in q h)) (alive p h)

abbrev pub ExpiriesWake : Type 0
ExpiriesWake = (doc : Doc) → (k p : ℕ) (h : List Entry) → expire doc k p h ≡ h ↔ is_early (local doc p k) (expiry_at doc p h) ≡ true

-- ---- the end of a term

-- not while its release runs
abbrev pub ends_at : ReleaseRule → (releasing : Bool) → Option ℕ → Option ℕ
ends_at Stop releasing at = at
ends_at _ releasing at = only_if (not releasing) at

abbrev pub deadline_at : Doc → ℕ → List Entry → Option ℕ
deadline_at doc p h = if_up p (λ q. ends_at doc.settings.rules.release (is_releasing q h) (deadline doc q h)) (alive p h)

abbrev pub DeadlinesWake : Type 0
DeadlinesWake = (doc : Doc) → (k p : ℕ) (h : List Entry) → finish doc k p h ≡ h ↔ is_early (local doc p k) (deadline_at doc p h) ≡ true

-- ---- an attempt

-- no update without a Get of the process has expired at this beat, as before the beat is done
abbrev pub LostNoUpdate : ℕ → ℕ → List Entry → Type 0
LostNoUpdate k p h = (i : ℕ) → alive p h ≡ Some i → is_fast_call (just_expired (identity p i) k h) ≡ false

-- no attempt starts while a call waits
abbrev pub unless_waiting : Option Call → ℕ → Option ℕ
unless_waiting None at = Some at
unless_waiting (Some call) at = None

abbrev pub attempt_at : Doc → ℕ → List Entry → Option ℕ
attempt_at doc p h = if_up p (λ q. unless_waiting (call_in q h) (timer doc q h)) (alive p h)

abbrev pub AttemptsWake : Type 0
AttemptsWake =
    (doc : Doc) (k p : ℕ) (h : List Entry) → LostNoUpdate k p h
    → attempts doc k p h ≡ h ↔ is_early (local doc p k) (attempt_at doc p h) ≡ true

-- ---- an elector's whole turn

-- the soonest of all, whatever the process is
abbrev pub elector_reading : Doc → ℕ → List Entry → Option ℕ
elector_reading doc p h = sooner (restart_at doc p h) (sooner (expiry_at doc p h) (sooner (deadline_at doc p h) (attempt_at doc p h)))

abbrev pub ElectorsWake : Type 0
ElectorsWake =
    (doc : Doc) → (k p : ℕ) (h : List Entry) → LostNoUpdate k p h
    → elector_turn doc k p h ≡ h ↔ is_early (local doc p k) (elector_reading doc p h) ≡ true

-- ---- a kubelet's round

-- no status post of the process has expired at this beat, as before the beat is done
abbrev pub LostNoPost : ℕ → ℕ → List Entry → Type 0
LostNoPost k p h = (i : ℕ) → alive p h ≡ Some i → is_post_call (just_expired (identity p i) k h) ≡ false

-- none begins while one runs
abbrev pub unless_running : Bool → ℕ → Option ℕ
unless_running true at = None
unless_running false at = Some at

abbrev pub round_at : Doc → ℕ → List Entry → Option ℕ
round_at doc p h = if_up p (λ q. unless_running (has_round q h) (round_timer doc q h)) (alive p h)

abbrev pub RoundsWake : Type 0
RoundsWake =
    (doc : Doc) (k p : ℕ) (h : List Entry) → LostNoPost k p h
    → rounds doc k p h ≡ h ↔ is_early (local doc p k) (round_at doc p h) ≡ true

-- ---- a kubelet's whole turn

abbrev pub kubelet_reading : Doc → ℕ → List Entry → Option ℕ
kubelet_reading doc p h = sooner (expiry_at doc p h) (round_at doc p h)

abbrev pub KubeletsWake : Type 0
KubeletsWake =
    (doc : Doc) → (k p : ℕ) (h : List Entry) → LostNoPost k p h
    → kubelet_turn doc k p h ≡ h ↔ is_early (local doc p k) (kubelet_reading doc p h) ≡ true
