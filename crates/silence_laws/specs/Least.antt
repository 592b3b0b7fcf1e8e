-- How long nobody leads at least after a leader in a calm has fallen silent. Source: client-go, package `leaderelection`; profile.
use Rattle.std.specs.Int.{div_ceil}
use Rattle.std.specs.Prelude.{◌≡◌, ◌≤◌, ℕ, suc, ◌+◌, ◌*◌, Bool, true, cond, List, ◌∷◌, Some}
use Rattle.kube_base.specs.declared.numbers.Version.{Version}
use Rattle.kube_objects.specs.Document.{Doc, is_controller}
use Rattle.kube_objects.specs.Elector.{lead_says}
use Rattle.kube_objects.specs.Entry.{Entry, Identity}
use Rattle.history.specs.History.{history}
use Rattle.history_laws.specs.Tails.{IsTail}
use Rattle.span_laws.specs.Looks.{IsAtLeast}
use Rattle.span_laws.specs.Quotients.{least_beats}
use Rattle.span_laws.specs.Spans.{RunsAtLeast, RunsAtMost, IsEnough, IsNeeded}
use Rattle.takeover_laws.specs.Calm.{IsQuiet}
use Rattle.takeover_laws.specs.Waits.{longest_wait, shortest_wait, blocked_for}
use Rattle.silence_laws.specs.Silence.{LeadsUntil, Bears, ActsAlone, IsReleased, IsStopped}

-- an identity other than q comes to lead at beat k, which is b or later
pub record IsLead (doc : Doc) (b e : ℕ) (q : Identity) (k : ℕ) : Type 0 where
  pub c : Identity
  pub x : Entry
  pub before : List Entry
  pub version : Version
  pub position : IsTail (x ∷ before) (history doc (suc e))
  pub leads : lead_says c x.actor x.fact ≡ Some version
  pub other : c ≡ q → ⊥
  pub at : x.beat ≡ k
  pub from : b ≤ k

-- a number of beats that the looks of a candidate take at least until they find a record over that lasts for a time: wait is enough beats for its
-- longest wait, needed no more than its shortest one needs, and lasting no more than the time needs, on its clock
pub record TakesAtLeast (doc : Doc) (near far e p time least : ℕ) : Type 0 where
  pub slow : ℕ
  pub fast : ℕ
  pub wait : ℕ
  pub needed : ℕ
  pub lasting : ℕ
  pub runs_least : RunsAtLeast doc p 0 e slow
  pub runs_most : RunsAtMost doc p 0 e fast
  pub wait_is : IsEnough slow (longest_wait doc p) wait
  pub needed_is : IsNeeded fast (shortest_wait doc p) needed
  pub lasting_is : IsNeeded fast time lasting
  pub least_is : (beats : ℕ) → IsAtLeast (needed + 2 * near) (wait + 2 * far) lasting beats → least ≤ beats

-- the ways of a renewal: a Get, its reply and the update, or the update alone where leaders renew without a Get
abbrev pub renewal_ways : Bool → ℕ → ℕ
renewal_ways quick far = cond quick far (3 * far)

abbrev pub last_renewal : Doc → ℕ → ℕ
last_renewal doc far = renewal_ways doc.settings.fast_renew far

-- where a leader in a calm falls silent at beat b, each lead of another identity from then on comes no sooner than the looks of each other
-- candidate take at least, and three ways, after its last write: that came no earlier before b than its renewals come apart
abbrev pub SilenceLasts : Doc → Type 0
SilenceLasts doc =
    (near far b e : ℕ) (q : Identity) → LeadsUntil doc near far b e q → (s : Bears doc near far b e q) → ActsAlone doc near far b q → IsQuiet doc b e q.process
    → (least : ℕ) → ((p : ℕ) → is_controller doc p ≡ true → (p ≡ q.process → ⊥) → TakesAtLeast doc near far e p (blocked_for doc p q.process) least)
    → (k : ℕ) → IsLead doc b e q k → b + least + 3 * near ≤ k + s.renews.wait + last_renewal doc far

abbrev pub SilencesLast : Type 0
SilencesLast = (doc : Doc) → SilenceLasts doc

-- the same in whole beats, as a program finds it: each quotient rounded up
abbrev pub takes_beats : (near far needed wait lasting : ℕ) → ℕ
takes_beats near far needed wait lasting = least_beats (needed + 2 * near) (wait + 2 * far) lasting

pub record RunsWithin (doc : Doc) (e p slow fast : ℕ) : Type 0 where
  pub some : 1 ≤ slow
  pub least : RunsAtLeast doc p 0 e slow
  pub most : RunsAtMost doc p 0 e fast

abbrev pub takes_least : Doc → (near far p slow fast time : ℕ) → ℕ
takes_least doc near far p slow fast time = takes_beats near far (div_ceil (shortest_wait doc p) fast) (div_ceil (longest_wait doc p) slow) (div_ceil time fast)

abbrev pub SilenceIsTold : Doc → Type 0
SilenceIsTold doc =
    (near far b e : ℕ) (q : Identity) → LeadsUntil doc near far b e q → (s : Bears doc near far b e q) → ActsAlone doc near far b q → IsQuiet doc b e q.process
    → (slow fast : ℕ → ℕ) → ((p : ℕ) → is_controller doc p ≡ true → (p ≡ q.process → ⊥) → RunsWithin doc e p (slow p) (fast p))
    → (least : ℕ) → ((p : ℕ) → is_controller doc p ≡ true → (p ≡ q.process → ⊥) → least ≤ takes_least doc near far p (slow p) (fast p) (blocked_for doc p q.process))
    → (k : ℕ) → IsLead doc b e q k → b + least + 3 * near ≤ k + s.renews.wait + last_renewal doc far

abbrev pub SilencesAreTold : Type 0
SilencesAreTold = (doc : Doc) → SilenceIsTold doc

-- and where it is stopped and its release is accepted, four ways after the stop or later
abbrev pub ReleaseLasts : Doc → Type 0
ReleaseLasts doc =
    (near far b e : ℕ) (q : Identity) → LeadsUntil doc near far b e q → Bears doc near far b e q → IsStopped doc b e q → IsReleased doc near far b e q
    → (k : ℕ) → IsLead doc b e q k → b + 4 * near ≤ k

abbrev pub ReleasesLast : Type 0
ReleasesLast = (doc : Doc) → ReleaseLasts doc
