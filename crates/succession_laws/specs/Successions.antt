-- By when somebody else leads after a leader in a calm has fallen silent, or is stopped, and how long the leader itself acts on.
-- Source: client-go, package `leaderelection`; profile.
use Rattle.std.specs.Int.{div_ceil}
use Rattle.std.specs.Prelude.{◌≡◌, ◌≤◌, ◌<◌, ℕ, suc, ◌+◌, ◌-◌, ◌*◌, Bool, true, false, cond, IfSome}
use Rattle.kube_objects.specs.Document.{Doc, end_beat, is_controller, retry_period, renew_deadline}
use Rattle.kube_objects.specs.Entry.{Entry, Identity}
use Rattle.kube_objects.specs.Identities.{of_process}
use Rattle.kube_objects.specs.Newest.{has}
use Rattle.kube_objects.specs.Own.{ReleasesByStop}
use Rattle.kube_objects.specs.Pauses.{is_paused}
use Rattle.kube_objects.specs.Process.{alive}
use Rattle.kube_objects.specs.Wire.{back_of, reply_delay}
use Rattle.history.specs.History.{history, at_turn}
use Rattle.history.specs.Safe.{Acts}
use Rattle.history.specs.Sound.{IsSound}
use Rattle.history_laws.specs.Tails.{In}
use Rattle.span_laws.specs.Looks.{IsGreatest}
use Rattle.span_laws.specs.Quotients.{most_beats}
use Rattle.span_laws.specs.Spans.{RunsAtLeast, RunsAtMost, IsEnough, IsNeeded}
use Rattle.call_laws.specs.Answering.{with_events}
use Rattle.takeover_laws.specs.Calm.{IsQuiet}
use Rattle.takeover_laws.specs.Waits.{longest_wait, shortest_wait, blocked_for}
use Rattle.stay_laws.specs.Stays.{RenewsInTime, HasSuccess, Stays}
use Rattle.silence_laws.specs.Silence.{LeadsUntil, Bears, OthersRenewBefore}

-- each other controller renews in time where it leads, before beat b and from b on
pub record OthersRenew (doc : Doc) (near far b e : ℕ) (q : Identity) : Type 0 where
  pub before : OthersRenewBefore doc near far b q
  pub since : (c : Identity) → is_controller doc c.process ≡ true → (c.process ≡ q.process → ⊥) → RenewsInTime doc near far b e c

-- a reply that was given to a process before beat b is lost or comes within far beats
abbrev pub RepliesCome : Doc → ℕ → ℕ → ℕ → Type 0
RepliesCome doc far b p = (x : Entry) → In x (history doc b) → has (of_process p x.actor) ≡ true → IfSome (back_of x.actor x.fact) (λ s. IfSome s.comes (λ m. m < b + far))

-- a rival of q: another controller that is up after its turn at beat b, and whose clock goes from slow to fast in a beat from then on
pub record IsRival (doc : Doc) (b e : ℕ) (q : Identity) (p slow fast : ℕ) : Type 0 where
  pub role : is_controller doc p ≡ true
  pub other : p ≡ q.process → ⊥
  pub up : has (alive p (at_turn doc (suc p) b)) ≡ true
  pub runs_least : RunsAtLeast doc p b e slow
  pub runs_most : RunsAtMost doc p b e fast

-- an identity of another controller comes to lead by beat n, by a call that was sent at b or later, and stays up to e
pub record IsFollowed (doc : Doc) (b n e : ℕ) (q : Identity) : Type 0 where
  pub c : Identity
  pub other : c.process ≡ q.process → ⊥
  pub j : ℕ
  pub to : j ≤ n
  pub success : HasSuccess doc c b j
  pub stays : Stays doc c j e

-- the ways from a leader's silence to another's lead, beside the looks and the wait of a rival: an answer may show an older record until one way after
-- the silence, and in that beat too where leaders renew without a Get
abbrev pub ways_after : Bool → ℕ → ℕ
ways_after quick far = cond quick (6 * far - 1) (6 * far - 2)

abbrev pub last_ways : Doc → ℕ → ℕ
last_ways doc far = ways_after doc.settings.fast_renew far

-- where a leader in a calm falls silent at beat b, another one leads by the time that the looks of a rival take at most, its longest wait, and these ways;
-- and it stays
abbrev pub SuccessorsLead : Type 0
SuccessorsLead =
    (doc : Doc) (near far b e : ℕ) (q : Identity) → LeadsUntil doc near far b e q → Bears doc near far b e q → IsQuiet doc b e q.process → RepliesCome doc far b q.process → OthersRenew doc near far b e q
    → (p slow fast wait needed : ℕ) → IsRival doc b e q p slow fast → IsEnough slow (longest_wait doc p) wait → IsNeeded fast (shortest_wait doc p) needed
    → (enough most : ℕ) → IsEnough slow (blocked_for doc p q.process) enough → IsGreatest (needed + 2 * near) (wait + 2 * far) enough most
    → b + most + wait + last_ways doc far ≤ e → IsFollowed doc b (b + most + wait + last_ways doc far) e q

-- the same bound in whole beats, as a program finds it: each quotient is rounded up, but for the number of looks
abbrev pub succession_beats : (near far wait needed enough rest : ℕ) → ℕ
succession_beats near far wait needed enough rest = most_beats (needed + 2 * near) (wait + 2 * far) enough + wait + rest

abbrev pub succession_bound : Doc → (near far p slow fast time : ℕ) → ℕ
succession_bound doc near far p slow fast time = succession_beats near far (div_ceil (longest_wait doc p) slow) (div_ceil (shortest_wait doc p) fast) (div_ceil time slow) (last_ways doc far)

abbrev pub Succeeds : Doc → Type 0
Succeeds doc =
    (near far b e : ℕ) (q : Identity) → LeadsUntil doc near far b e q → Bears doc near far b e q → IsQuiet doc b e q.process → RepliesCome doc far b q.process → OthersRenew doc near far b e q
    → (p slow fast : ℕ) → IsRival doc b e q p slow fast → 1 ≤ slow → 1 ≤ fast
    → b + succession_bound doc near far p slow fast (blocked_for doc p q.process) ≤ e → IsFollowed doc b (b + succession_bound doc near far p slow fast (blocked_for doc p q.process)) e q

abbrev pub SuccessorsAreTold : Type 0
SuccessorsAreTold = (doc : Doc) → Succeeds doc

-- from beat b to beat e a process isn't paused, and a reply to it that isn't lost takes no longer than far beats
pub record Hears (doc : Doc) (far b e p : ℕ) : Type 0 where
  pub replies : (k : ℕ) → b ≤ k → k ≤ e → reply_delay p (with_events doc k) ≤ far
  pub awake : (k : ℕ) → b ≤ k → k ≤ e → is_paused doc p k ≡ false

-- a leader whose requests are lost from beat b on acts on for so long at most: its last success comes less than two ways later, and lasting is
-- enough beats for its retry period and its renew deadline. It needn't renew in time
abbrev pub ActsOn : Doc → Type 0
ActsOn doc =
    (near far b e : ℕ) (q : Identity) → IsSound doc → ReleasesByStop doc → 1 ≤ near → near ≤ far → e ≤ end_beat doc → 1 ≤ retry_period doc q.process
    → LeadsUntil doc near far b e q → IsQuiet doc b e q.process → Hears doc far b e q.process
    → (slow lasting : ℕ) → RunsAtLeast doc q.process b e slow → IsEnough slow (retry_period doc q.process + renew_deadline doc q.process) lasting
    → (k : ℕ) → k ≤ e → Acts doc q k → k + 2 ≤ b + 2 * far + lasting

abbrev pub LeadersActOn : Type 0
LeadersActOn = (doc : Doc) → ActsOn doc
