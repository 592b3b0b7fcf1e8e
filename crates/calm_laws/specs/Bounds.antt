-- By when somebody leads in a calm span, whatever was before it. Source: client-go, package `leaderelection`; profile.
use Rattle.std.specs.Int.{div_ceil}
use Rattle.std.specs.Prelude.{◌≡◌, ◌⊎◌, ◌≤◌, ◌<◌, ℕ, suc, ◌+◌, ◌-◌, ◌*◌, ◌/◌, max, nat_lt, true, List, Option, Some, None}
use Rattle.kube_objects.specs.declared.lease.Holder.TheVariants as holder
use Rattle.kube_objects.specs.declared.object.Object.{Object}
use Rattle.kube_objects.specs.declared.object.Object.TheVariants as object
use Rattle.kube_objects.specs.Document.{Doc, end_beat, is_controller, call_timeout}
use Rattle.kube_objects.specs.Entry.{Entry, Identity, Fact, First, Answers}
use Rattle.kube_objects.specs.Newest.{newest, only_if, join, has}
use Rattle.kube_objects.specs.Own.{ReleasesByStop}
use Rattle.kube_objects.specs.Process.{alive}
use Rattle.kube_objects.specs.Stored.{election, request_write, at_key}
use Rattle.history.specs.History.{history, at_turn}
use Rattle.history.specs.Sound.{IsSound}
use Rattle.span_laws.specs.Looks.{IsGreatest}
use Rattle.span_laws.specs.Quotients.{most_beats}
use Rattle.span_laws.specs.Spans.{RunsAtLeast, RunsAtMost, IsEnough, IsNeeded}
use Rattle.takeover_laws.specs.Acting.{ActsBetween, AreInTime}
use Rattle.takeover_laws.specs.Calm.{IsSteady, IsCalm}
use Rattle.lease_laws.specs.Respects.{respected_time}
use Rattle.takeover_laws.specs.Waits.{longest_wait, shortest_wait}

-- what an entry writes to the election Lease as an object of the document, or by a call that was sent before beat a
abbrev pub early_write : ℕ → Fact → Option (Option Object)
early_write a (First key object) = at_key election (Some (key, Some object))
early_write a (Answers call reply comes wrote) = only_if (nat_lt call.sent a) (at_key election (request_write call.request wrote))
early_write a _ = None

-- the last such record
abbrev pub early_record : ℕ → List Entry → Option Object
early_record a h = join (newest (λ e before. early_write a e.fact) h)

-- a record blocks a process for no longer than a time: it is a Lease that nobody holds, or one that it respects for so long or less. Where there is
-- none, nobody is blocked
abbrev pub LastsFor : Doc → ℕ → ℕ → Option Object → Type 0
LastsFor doc p time None = Unit {0}
LastsFor doc p time (Some (object.Lease lease)) = (lease.holder ≡ holder.Nobody) ⊎ (respected_time doc p lease ≤ time)
LastsFor doc p time (Some (object.Node node)) = ⊥
LastsFor doc p time (Some (object.Pod pod)) = ⊥

-- an identity of a controller whose messages pass acts at a beat from a to n
pub record SomebodyActs (doc : Doc) (near far a e n : ℕ) : Type 0 where
  pub q : Identity
  pub role : is_controller doc q.process ≡ true
  pub steady : IsSteady doc near far a e q.process
  pub acts : ActsBetween doc q a n

-- a candidate in a calm from beat a to e: a controller whose messages pass, that is up after its turn at beat a + later, and whose clock goes
-- from slow to fast in a beat, one before a too
pub record IsCandidate (doc : Doc) (near far a e p later slow fast : ℕ) : Type 0 where
  pub role : is_controller doc p ≡ true
  pub steady : IsSteady doc near far a e p
  pub waits : 1 ≤ longest_wait doc p
  pub up : has (alive p (at_turn doc (suc p) (a + later))) ≡ true
  pub runs_least : RunsAtLeast doc p (a - 1) e slow
  pub runs_most : RunsAtMost doc p (a - 1) e fast

-- in more than lost beats a call that was lost expires, wait is enough beats for the longest wait, and needed no more than the shortest one needs
pub record AreBeats (doc : Doc) (p slow fast lost wait needed : ℕ) : Type 0 where
  pub lost_is : call_timeout doc p < suc lost * slow
  pub wait_is : IsEnough slow (longest_wait doc p) wait
  pub needed_is : IsNeeded fast (shortest_wait doc p) needed

-- first is enough beats for the candidate to be up, free of what it had begun, and to ask; most is enough for its looks to find the record
-- over that was there as the calm began; and of four ways two bring the first look, and two the write and its reply
abbrev pub TakeoversAreBounded : Type 0
TakeoversAreBounded =
    (doc : Doc) (near far a e : ℕ) → IsSound doc → ReleasesByStop doc → IsCalm doc near far a e → AreInTime doc near far a e → 1 ≤ near → near ≤ far → e ≤ end_beat doc
    → (p later slow fast lost wait needed : ℕ) → IsCandidate doc near far a e p later slow fast → AreBeats doc p slow fast lost wait needed
    → (first : ℕ) → later ≤ first → lost + wait ≤ first → (4 * far - 1) + wait ≤ first
    → (time enough most : ℕ) → LastsFor doc p time (early_record a (history doc (a + far))) → IsEnough slow time enough → IsGreatest (needed + 2 * near) (wait + 2 * far) enough most
    → a + first + most + 4 * far ≤ e → SomebodyActs doc near far a e (a + first + most + 4 * far)

-- the same bound in whole beats, as a program finds it: lost is the call timeout, and wait the longest wait at the clock's least speed, needed
-- the shortest one at its greatest, and enough the record's duration at its least
abbrev pub takeover_beats : (near far later lost wait needed enough : ℕ) → ℕ
takeover_beats near far later lost wait needed enough = max later (max lost (4 * far - 1) + wait) + most_beats (needed + 2 * near) (wait + 2 * far) enough + 4 * far

abbrev pub takeover_bound : Doc → (near far p later slow fast time : ℕ) → ℕ
takeover_bound doc near far p later slow fast time =
    takeover_beats near far later (call_timeout doc p / slow) (div_ceil (longest_wait doc p) slow) (div_ceil (shortest_wait doc p) fast) (div_ceil time slow)

abbrev pub TakesOver : Doc → Type 0
TakesOver doc =
    (near far a e : ℕ) → IsSound doc → ReleasesByStop doc → IsCalm doc near far a e → AreInTime doc near far a e → 1 ≤ near → near ≤ far → e ≤ end_beat doc
    → (p later slow fast : ℕ) → IsCandidate doc near far a e p later slow fast → 1 ≤ slow → 1 ≤ fast
    → (time : ℕ) → LastsFor doc p time (early_record a (history doc (a + far)))
    → a + takeover_bound doc near far p later slow fast time ≤ e → SomebodyActs doc near far a e (a + takeover_bound doc near far p later slow fast time)

abbrev pub TakeoversAreTold : Type 0
TakeoversAreTold = (doc : Doc) → TakesOver doc
