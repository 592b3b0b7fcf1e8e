-- What a process adds to the history at a reply and in its turn. Source: client-go, package `leaderelection`; profile.
use Rattle.std.specs.Prelude.{ℕ, ◌==◌, ◌&&◌, if◌then◌else◌, not, nat_lt, Bool, true, false, List, ◌∷◌, Option, Some, None}
use Rattle.kube_objects.specs.declared.call.Reply.{Reply}
use Rattle.kube_objects.specs.declared.call.Request.TheVariants.{Get}
use Rattle.kube_objects.specs.declared.rules.ReleaseRule.{ReleaseRule}
use Rattle.kube_objects.specs.declared.rules.ReleaseRule.TheVariants.{Stop}
use Rattle.kube_objects.specs.Clocks.{local}
use Rattle.kube_objects.specs.Document.{Doc}
use Rattle.kube_objects.specs.Elector.{Follow, Fails, Asks, Succeeds, timer, attempt, is_fast, acts_by}
use Rattle.kube_objects.specs.Entry.{Entry, Identity, Call, Plain, Fact, Ends, Delivers, Expires, Leads, entry}
use Rattle.kube_objects.specs.Identities.{is_by}
use Rattle.kube_objects.specs.Newest.{newest, when, join, has}
use Rattle.kube_objects.specs.Process.{call_in, is_releasing, is_late, release_begun}
use Rattle.kube_objects.specs.Releases.{and_end, begin_release, end_release}
use Rattle.kube_objects.specs.Stored.{election}
use Rattle.kube_objects.specs.Wire.{send}

-- ---- at a counted reply

-- the history with a counted reply
abbrev pub with_reply : ℕ → Identity → Call → Reply → List Entry → List Entry
with_reply k q call reply h = entry k 3 q (Delivers call reply true) ∷ h

-- led says whether the controller leads before
abbrev pub react : Doc → ℕ → Identity → Bool → Follow → List Entry → List Entry
react doc k q led Fails h = h
react doc k q led (Asks request) h = send doc k 3 q Plain request h
react doc k q led (Succeeds version) h = if led then h else entry k 3 q (Leads version) ∷ h

-- ---- in its turn

-- with a call of a release ends the release, and any other one expires
abbrev pub expire_as : Doc → ℕ → Identity → Call → Option ℕ → List Entry → List Entry
expire_as doc k q call None h = entry k 4 q (Expires call) ∷ h
expire_as doc k q call (Some begun) h = end_release doc k 4 q h

abbrev pub expire_call : Doc → ℕ → Identity → Option Call → List Entry → List Entry
expire_call doc k q None h = h
expire_call doc k q (Some call) h = if is_late doc q k call then expire_as doc k q call (release_begun doc.settings.rules.release call.kind) h else h

-- the history after the expiry of a turn
abbrev pub expired : Doc → ℕ → Identity → List Entry → List Entry
expired doc k q h = expire_call doc k q (call_in q h) h

-- the release at a deadline; the end is there where the leader doesn't act until the release has ended
abbrev pub end_released : Doc → ℕ → Identity → (releasing : Bool) → List Entry → List Entry
end_released doc k q true h = h
end_released doc k q false h = begin_release doc k 4 q true (and_end k 4 q (not (acts_by doc.settings.rules.in_release true)) h)

-- at its deadline a leader ends, or begins to release its Lease
abbrev pub end_as : ReleaseRule → Doc → ℕ → Identity → List Entry → List Entry
end_as Stop doc k q h = entry k 4 q Ends ∷ h
end_as _ doc k q h = end_released doc k q (is_releasing q h) h

abbrev pub end_term : Doc → ℕ → Identity → Option ℕ → List Entry → List Entry
end_term doc k q None h = h
end_term doc k q (Some at) h = if nat_lt (local doc q.process k) at then h else end_as doc.settings.rules.release doc k q h

-- the call whose expiry at this beat is the last own entry
abbrev pub expired_in : ℕ → ℕ → Fact → Option Call
expired_in k at (Expires call) = when (at == k) call
expired_in k at _ = None

abbrev pub just_expired : Identity → ℕ → List Entry → Option Call
just_expired q k h = join (newest (λ e T. when (is_by q e.actor) (expired_in k e.beat e.fact)) h)

abbrev pub is_fast_call : Option Call → Bool
is_fast_call None = false
is_fast_call (Some call) = is_fast call.kind

-- an update without a Get that expired is followed by the Get; else an attempt starts where it is time
abbrev pub attempt_if : Doc → ℕ → Identity → Bool → Bool → List Entry → List Entry
attempt_if doc k q true due h = send doc k 4 q Plain (Get election) h
attempt_if doc k q false true h = send doc k 4 q (attempt doc q k h).0 (attempt doc q k h).1 h
attempt_if doc k q false false h = h

-- while a release runs its call waits, so no attempt starts
abbrev pub try : Doc → ℕ → Identity → List Entry → List Entry
try doc k q h =
    attempt_if doc k q (is_fast_call (just_expired q k h))
    (not (has (call_in q h)) && not (nat_lt (local doc q.process k) (timer doc q h))) h
