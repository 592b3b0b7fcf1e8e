-- By when one leads in a calm span that stays, whatever was before it. Source: client-go, package `leaderelection`; profile.
use Rattle.std.specs.Int.{div_ceil}
use Rattle.std.specs.Prelude.{◌≡◌, ◌≤◌, ℕ, ◌+◌, ◌-◌, ◌*◌, ◌/◌, max, true}
use Rattle.kube_objects.specs.Document.{Doc, end_beat, is_controller, lease_duration, call_timeout, retry_period, renew_deadline}
use Rattle.kube_objects.specs.Entry.{Identity}
use Rattle.kube_objects.specs.Own.{ReleasesByStop}
use Rattle.history.specs.History.{history}
use Rattle.history.specs.Sound.{IsSound}
use Rattle.span_laws.specs.Looks.{IsGreatest}
use Rattle.span_laws.specs.Quotients.{most_beats}
use Rattle.span_laws.specs.Spans.{RunsAtLeast, IsEnough}
use Rattle.takeover_laws.specs.Acting.{AreInTime}
use Rattle.takeover_laws.specs.Calm.{IsSteady, IsCalm}
use Rattle.takeover_laws.specs.Waits.{longest_wait, shortest_wait}
use Rattle.calm_laws.specs.Bounds.{early_record, LastsFor, IsCandidate, AreBeats}
use Rattle.stay_laws.specs.Stays.{RenewsInTime, Stays}

-- each steady controller that leads renews in time
abbrev pub AreRenewed : Doc → ℕ → ℕ → ℕ → ℕ → Type 0
AreRenewed doc near far a e = (q : Identity) → is_controller doc q.process ≡ true → IsSteady doc near far a e q.process → RenewsInTime doc near far a e q

-- a term without a success by a call of the span is over old beats after the span's first one: its last success may come two ways later, less a
-- beat, and beats are enough for a retry period and a renew deadline from there
pub record EndsBy (doc : Doc) (far a e old p : ℕ) : Type 0 where
  pub slow : ℕ
  pub beats : ℕ
  pub runs : RunsAtLeast doc p a e slow
  pub beats_is : IsEnough slow (retry_period doc p + renew_deadline doc p) beats
  pub in_old : 2 * far - 1 + beats ≤ old

-- and so for each steady controller
abbrev pub AllEndBy : Doc → ℕ → ℕ → ℕ → ℕ → ℕ → Type 0
AllEndBy doc near far a e old = (p : ℕ) → is_controller doc p ≡ true → IsSteady doc near far a e p → EndsBy doc far a e old p

-- no steady controller's records last longer than a time
abbrev pub AllLastFor : Doc → ℕ → ℕ → ℕ → ℕ → ℕ → Type 0
AllLastFor doc near far a e time = (p : ℕ) → is_controller doc p ≡ true → IsSteady doc near far a e p → lease_duration doc p ≤ time

-- an identity of a steady controller stays from beat n on
pub record IsSettled (doc : Doc) (near far a e n : ℕ) : Type 0 where
  pub q : Identity
  pub role : is_controller doc q.process ≡ true
  pub steady : IsSteady doc near far a e q.process
  pub stays : Stays doc q n e

-- first is enough beats for the terms of before to be over, and for the candidate to be up, free of what it had begun, and to ask; most is enough
-- for its looks to find the record over that was there as the calm began, or one that a term of before left; and of four ways two bring the first
-- look, and two the write and its reply. The candidate is up after a turn at which the terms of before are over
abbrev pub CalmSpansSettle : Type 0
CalmSpansSettle =
    (doc : Doc) (near far a e : ℕ) → IsSound doc → ReleasesByStop doc → IsCalm doc near far a e → AreInTime doc near far a e → 1 ≤ near → near ≤ far → e ≤ end_beat doc → AreRenewed doc near far a e
    → (old : ℕ) → AllEndBy doc near far a e old
    → (p later slow fast lost wait needed : ℕ) → IsCandidate doc near far a e p later slow fast → AreBeats doc p slow fast lost wait needed → old ≤ later
    → (first : ℕ) → later ≤ first → lost + wait ≤ first → (old + 4 * far - 1) + wait ≤ first
    → (time enough most : ℕ) → LastsFor doc p time (early_record a (history doc (a + far))) → AllLastFor doc near far a e time → IsEnough slow time enough → IsGreatest (needed + 2 * near) (wait + 2 * far) enough most
    → a + first + most + 4 * far ≤ e → IsSettled doc near far a e (a + first + most + 4 * far)

-- the same in whole beats, as a program finds it: old is two ways less a beat and the greatest of the quotients of the retry periods and renew
-- deadlines by the clocks' least speeds; lost, wait, needed and enough are those of a takeover
abbrev pub settle_beats : (near far later old lost wait needed enough : ℕ) → ℕ
settle_beats near far later old lost wait needed enough = max later (max lost (old + 4 * far - 1) + wait) + most_beats (needed + 2 * near) (wait + 2 * far) enough + 4 * far

abbrev pub settle_bound : Doc → (near far p later slow fast old time : ℕ) → ℕ
settle_bound doc near far p later slow fast old time =
    settle_beats near far later old (call_timeout doc p / slow) (div_ceil (longest_wait doc p) slow) (div_ceil (shortest_wait doc p) fast) (div_ceil time slow)

-- a term without a success by a call of the span is over by then, by the quotient
pub record EndsInBeats (doc : Doc) (far a e old p : ℕ) : Type 0 where
  pub slow : ℕ
  pub some : 1 ≤ slow
  pub runs : RunsAtLeast doc p a e slow
  pub in_old : 2 * far - 1 + div_ceil (retry_period doc p + renew_deadline doc p) slow ≤ old

abbrev pub AllEndInBeats : Doc → ℕ → ℕ → ℕ → ℕ → ℕ → Type 0
AllEndInBeats doc near far a e old = (p : ℕ) → is_controller doc p ≡ true → IsSteady doc near far a e p → EndsInBeats doc far a e old p

abbrev pub Settles : Doc → Type 0
Settles doc =
    (near far a e : ℕ) → IsSound doc → ReleasesByStop doc → IsCalm doc near far a e → AreInTime doc near far a e → 1 ≤ near → near ≤ far → e ≤ end_beat doc → AreRenewed doc near far a e
    → (old : ℕ) → AllEndInBeats doc near far a e old
    → (p later slow fast : ℕ) → IsCandidate doc near far a e p later slow fast → 1 ≤ slow → 1 ≤ fast → old ≤ later
    → (time : ℕ) → LastsFor doc p time (early_record a (history doc (a + far))) → AllLastFor doc near far a e time
    → a + settle_bound doc near far p later slow fast old time ≤ e → IsSettled doc near far a e (a + settle_bound doc near far p later slow fast old time)

abbrev pub SettlingIsTold : Type 0
SettlingIsTold = (doc : Doc) → Settles doc
