-- What an elector does by what it keeps, whatever the document: at every reading, and in every state.
-- Source: client-go, package `leaderelection`; the timeout of a call is the profile's.
use Rattle.std.specs.Prelude.{◌≡◌, ℕ, ◌+◌, ◌&&◌, not, nat_lt, Bool, true, cond, List, Option, Some, None, option_map}
use Rattle.kube_objects.specs.declared.call.Ask.{Ask}
use Rattle.kube_objects.specs.declared.call.Reply.{Reply}
use Rattle.kube_objects.specs.declared.call.Request.{Request}
use Rattle.kube_objects.specs.declared.call.Request.TheVariants.{Get}
use Rattle.kube_objects.specs.CallSlots.{calls_of, held_call, is_overdue, next_number}
use Rattle.kube_objects.specs.Elector.{Shown, Follow, Fails, Asks, Succeeds, Moment, attempt_from, follow, newly, told}
use Rattle.kube_objects.specs.Entry.{Identity, CallKind, Plain}
use Rattle.kube_objects.specs.Identities.{identity}
use Rattle.kube_objects.specs.Kinds.{keeps_kind}
use Rattle.kube_objects.specs.Newest.{has, or_else, when}
use Rattle.kube_objects.specs.Stored.{election}
use Rattle.leader_elector.specs.declared.elector.Elector.{Elector}
use Rattle.leader_elector.specs.declared.follow.Follow as code
use Rattle.leader_elector.specs.declared.timing.Timing.{Timing}
use Rattle.leader_elector.specs.Attempts.{AttemptState, after_failure, attempts_of, none_yet, waits_until, with_begin, with_success}
use Rattle.leader_elector.specs.Stands.{Wait, follow_of, is_fast_wait, observed_of, shown_of, waiting_of}
use Rattle.leader_elector.specs.Moves.{last_of}

-- how many calls were begun; number and sending of the call that waits, and what it asked; the version and record last
-- shown, and the reading at which this version was first seen; the reading at which the next attempt starts, and how attempts went
pub record ElectorState : Type 0 where
  pub calls : ℕ
  pub held : Option (ℕ × ℕ)
  pub wait : Option Wait
  pub shown : Option Shown
  pub observed : ℕ
  pub timer : ℕ
  pub attempts : AttemptState

abbrev pub state_of : Elector → ElectorState
state_of e = record {
  calls = calls_of e.slot;
  held = held_call e.slot;
  wait = waiting_of e.waiting;
  shown = shown_of e.seen;
  observed = observed_of e.seen;
  timer = e.timer.0;
  attempts = attempts_of e.attempts;
}

-- that of an elector that starts at a reading
abbrev pub started_at : ℕ → ElectorState
started_at now = record { calls = 0; held = None; wait = None; shown = None; observed = 0; timer = now; attempts = none_yet }

abbrev pub identity_of : Elector → Identity
identity_of e = identity e.me.0 e.incarnation

abbrev pub moment_of : Elector → (now wall : ℕ) → Moment
moment_of e now wall = record { seconds = e.timing.lease_seconds; now = now; wall = wall; respect = e.timing.respect }

-- who it is and its timings stay
pub record IsSame (old new : Elector) : Type 0 where
  pub me : new.me ≡ old.me
  pub incarnation : new.incarnation ≡ old.incarnation
  pub timing : new.timing ≡ old.timing

-- ---- requests

-- number and request
abbrev pub asked_of : Option Ask → Option (ℕ × Request)
asked_of = option_map (λ ask. (ask.number, ask.request))

-- a request gets the next number
abbrev pub numbered : ElectorState → Option (CallKind × Request) → Option (ℕ × Request)
numbered k = option_map (λ x. (next_number k.calls, x.1))

-- a call has begun, where one is sent
abbrev pub with_call : Timing → ℕ → ElectorState → Option (CallKind × Request) → ElectorState
with_call t now k None = k
with_call t now k (Some x) = record k {
  calls = next_number k.calls;
  held = Some (next_number k.calls, now);
  wait = Some (record { request = x.1; kind = x.0; late = now + t.timeout + 1 });
  attempts = with_begin now k.attempts;
}

-- this call has begun
pub record BeginsCall (old : Elector) (now : ℕ) (x : CallKind × Request) (new : Elector) (ask : Ask) : Type 0 where
  pub number : ask.number ≡ next_number (calls_of old.slot)
  pub request : ask.request ≡ x.1
  pub kept : state_of new ≡ with_call old.timing now (state_of old) (Some x)

-- ---- a turn

-- whether an update without a Get has expired
abbrev pub has_lost_update : Timing → ℕ → ElectorState → Bool
has_lost_update t now k = is_overdue now t.timeout k.held && is_fast_wait k.wait

-- a call that has expired is forgotten, which is a failure but for an update without a Get
abbrev pub after_expiry : Timing → (waits : List ℕ) → (led : Bool) → ℕ → ElectorState → ElectorState
after_expiry t waits led now k =
    cond (is_overdue now t.timeout k.held)
    (record k {
      held = None;
      wait = None;
      timer = cond (is_fast_wait k.wait) k.timer (waits_until t waits led now k.attempts);
      attempts = cond (is_fast_wait k.wait) k.attempts (after_failure t.retries waits led now k.attempts);
    })
    k

-- what begins an attempt: a leader may renew without a Get
abbrev pub begun_in : Elector → Moment → (led : Bool) → ElectorState → CallKind × Request
begun_in e m led k = cond (e.timing.fast && led) (attempt_from (identity_of e) m k.observed k.shown) (Plain, Get election)

-- an attempt begins where no call waits and it is time
abbrev pub attempt_in : Elector → Moment → (led : Bool) → ElectorState → Option (CallKind × Request)
attempt_in e m led k = when (not (has k.held) && not (nat_lt m.now k.timer)) (begun_in e m led k)

-- what is sent after the expiry; after an update without a Get that has expired, the Get
abbrev pub turn_in : Elector → Moment → (lost led : Bool) → ElectorState → Option (CallKind × Request)
turn_in e m lost led k = cond lost (Some (Plain, Get election)) (attempt_in e m led k)

-- the least reading at which a turn does anything
abbrev pub wake_in : ElectorState → ℕ
wake_in k = elim k.wait [ None ↦ k.timer | Some w ↦ w.late ]

-- ---- a reply that counts

abbrev pub observed_after : ℕ → Wait → Reply → ElectorState → ℕ
observed_after now w reply k = or_else k.observed (newly (told w.request reply) k.shown now)

abbrev pub follow_in : Elector → Moment → Wait → Reply → ElectorState → Follow
follow_in e m w reply k = follow (identity_of e) m (observed_after m.now w reply k) w.kind w.request reply

-- the reading at which the next attempt starts: after a failure that until which is waited, after a leader's success one a retry period on
abbrev pub timer_after : Timing → (waits : List ℕ) → (led : Bool) → ℕ → Follow → AttemptState → ℕ → ℕ
timer_after t waits led now Fails a timer = waits_until t waits led now a
timer_after t waits led now (Asks request) a timer = timer
timer_after t waits led now (Succeeds version) a timer = cond led (now + t.retry) timer

abbrev pub attempts_after : Timing → (waits : List ℕ) → (led : Bool) → ℕ → Follow → AttemptState → AttemptState
attempts_after t waits led now Fails a = after_failure t.retries waits led now a
attempts_after t waits led now (Asks request) a = a
attempts_after t waits led now (Succeeds version) a = with_success a

abbrev pub after_reply : Elector → Moment → (waits : List ℕ) → (led : Bool) → Wait → Reply → ElectorState → ElectorState
after_reply e m waits led w reply k = record k {
  held = None;
  wait = None;
  shown = last_of (told w.request reply) k.shown;
  observed = observed_after m.now w reply k;
  timer = timer_after e.timing waits led m.now (follow_in e m w reply k) k.attempts k.timer;
  attempts = attempts_after e.timing waits led m.now (follow_in e m w reply k) k.attempts;
}

-- the request that follows at once
abbrev pub asked_next : Follow → Option (CallKind × Request)
asked_next Fails = None
asked_next (Asks request) = Some (Plain, request)
asked_next (Succeeds version) = None

-- a Lease is written under the key of a Lease alone
abbrev pub follow_keeps_kind : Follow → Bool
follow_keeps_kind Fails = true
follow_keeps_kind (Asks request) = keeps_kind request
follow_keeps_kind (Succeeds version) = true

-- a reply counted that answers what waited
pub record Receives (old : Elector) (m : Moment) (waits : List ℕ) (led : Bool) (w : Wait) (reply : Reply) (new : Elector)
    (answered : Option code.Follow) : Type 0 where
  pub same : IsSame old new
  pub follow : option_map follow_of answered ≡ Some (follow_in old m w reply (state_of old))
  pub kept : state_of new ≡ after_reply old m waits led w reply (state_of old)
