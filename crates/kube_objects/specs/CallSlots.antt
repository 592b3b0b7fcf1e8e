-- A call slot stands for an identity's calls in a history.
use Rattle.std.specs.Prelude.{◌≡◌, ℕ, ◌+◌, ◌==◌, ◌&&◌, not, nat_lt, min, Bool, true, false, List, Option, Some, None}
use Rattle.kube_objects.specs.declared.call_slot.CallSlot.{CallSlot}
use Rattle.kube_objects.specs.declared.call_slot.Waiting.{Waiting}
use Rattle.kube_objects.specs.Clocks.{local}
use Rattle.kube_objects.specs.Document.{Doc}
use Rattle.kube_objects.specs.Entry.{Entry, Identity, Call, CallKind, Plain, Fast, Release, Look, Emptying}
use Rattle.kube_objects.specs.Process.{begun, call_in, release_begun, is_late}

-- a call by its number and the reading at which it was sent
abbrev pub waiting_as : Doc → Identity → Option Call → Option Waiting
waiting_as doc q None = None
waiting_as doc q (Some call) = Some (record { number = call.number; sent = record { 0 = local doc q.process call.sent } })

-- the beat at which the release of a call began that waits
abbrev pub release_of : Doc → Option Call → Option ℕ
release_of doc None = None
release_of doc (Some call) = release_begun doc.settings.rules.release call.kind

-- a slot's call is of no release, whose time would end it too
pub record CallSlotStands (doc : Doc) (q : Identity) (h : List Entry) (slot : CallSlot) : Type 0 where
  pub begun : slot.begun ≡ begun q h
  pub waiting : slot.waiting ≡ waiting_as doc q (call_in q h)
  pub ordinary : release_of doc (call_in q h) ≡ None

-- ---- what a slot holds, whatever the document

-- how many calls a slot has begun
abbrev pub calls_of : CallSlot → ℕ
calls_of slot = slot.begun

-- the number of a further call. It stands still at the greatest u64.
abbrev pub next_number : ℕ → ℕ
next_number begun = min (begun + 1) 18446744073709551615

-- the call that is held: its number, and the reading at which it was sent
abbrev pub held_as : Option Waiting → Option (ℕ × ℕ)
held_as None = None
held_as (Some call) = Some (call.number, call.sent.0)

abbrev pub held_call : CallSlot → Option (ℕ × ℕ)
held_call slot = held_as slot.waiting

-- whether the timeout of a call that was sent at a reading is over
abbrev pub is_over : (sent now timeout : ℕ) → Bool
is_over sent now timeout = nat_lt (sent + timeout) now

-- whether a reply with this number counts: the held call has it, and its timeout isn't over
abbrev pub is_awaited : (number now timeout : ℕ) → Option (ℕ × ℕ) → Bool
is_awaited number now timeout None = false
is_awaited number now timeout (Some held) = (held.0 == number) && not (is_over held.1 now timeout)

-- whether a call is held whose timeout is over
abbrev pub is_overdue : (now timeout : ℕ) → Option (ℕ × ℕ) → Bool
is_overdue now timeout None = false
is_overdue now timeout (Some held) = is_over held.1 now timeout

-- ---- kinds of calls

-- whether a call of this kind waits for its reply, for its timeout and no longer
abbrev pub waits : CallKind → Bool
waits Plain = true
waits Fast = true
waits Release = false
waits (Look begun) = false
waits (Emptying begun) = false

-- whether a call waits whose timeout is over
abbrev pub is_late_call : Doc → Identity → ℕ → Option Call → Bool
is_late_call doc q k None = false
is_late_call doc q k (Some call) = is_late doc q k call
