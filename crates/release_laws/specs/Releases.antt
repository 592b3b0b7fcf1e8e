-- By when somebody else leads after a leader in a calm was stopped, and the release that it sent was accepted.
-- Source: client-go, package `leaderelection`; profile.
use Rattle.std.specs.Int.{div_ceil}
use Rattle.std.specs.Prelude.{◌≡◌, ◌≤◌, ℕ, suc, ◌+◌, ◌-◌, ◌*◌, true}
use Rattle.kube_objects.specs.Document.{Doc, is_controller}
use Rattle.kube_objects.specs.Entry.{Identity}
use Rattle.span_laws.specs.Spans.{IsEnough}
use Rattle.takeover_laws.specs.Waits.{longest_wait}
use Rattle.stay_laws.specs.Stays.{RenewsInTime}
use Rattle.silence_laws.specs.Silence.{LeadsUntil, Bears, OthersRenewBefore, IsStopped, IsReleased}
use Rattle.succession_laws.specs.Successions.{RepliesCome, IsRival, IsFollowed}

-- each other controller renews in time where it leads, before beat b and after it
pub record OthersRenewAround (doc : Doc) (near far b e : ℕ) (q : Identity) : Type 0 where
  pub before : OthersRenewBefore doc near far b q
  pub after : (c : Identity) → is_controller doc c.process ≡ true → (c.process ≡ q.process → ⊥) → RenewsInTime doc near far (suc b) e c

-- where a leader in a calm is stopped at beat b and its release is accepted, another one leads by the time that a rival waits for its next attempt at most,
-- and six ways: two until its Get can show the released Lease, two for that Get, and two for its update; and it stays
abbrev pub ReleaseIsFollowed : Doc → Type 0
ReleaseIsFollowed doc =
    (near far b e : ℕ) (q : Identity) → LeadsUntil doc near far b e q → Bears doc near far b e q → IsStopped doc b e q → IsReleased doc near far b e q → RepliesCome doc far (suc b) q.process
    → OthersRenewAround doc near far b e q → (p slow fast wait : ℕ) → IsRival doc b e q p slow fast → IsEnough slow (longest_wait doc p) wait
    → b + wait + (6 * far - 1) ≤ e → IsFollowed doc b (b + wait + (6 * far - 1)) e q

abbrev pub ReleasesAreFollowed : Type 0
ReleasesAreFollowed = (doc : Doc) → ReleaseIsFollowed doc

-- the same bound in whole beats, as a program finds it: the quotient is rounded up
abbrev pub release_beats : (far wait : ℕ) → ℕ
release_beats far wait = wait + (6 * far - 1)

abbrev pub release_bound : Doc → (far p slow : ℕ) → ℕ
release_bound doc far p slow = release_beats far (div_ceil (longest_wait doc p) slow)

abbrev pub ReleaseIsTold : Doc → Type 0
ReleaseIsTold doc =
    (near far b e : ℕ) (q : Identity) → LeadsUntil doc near far b e q → Bears doc near far b e q → IsStopped doc b e q → IsReleased doc near far b e q → RepliesCome doc far (suc b) q.process
    → OthersRenewAround doc near far b e q → (p slow fast : ℕ) → IsRival doc b e q p slow fast → 1 ≤ slow
    → b + release_bound doc far p slow ≤ e → IsFollowed doc b (b + release_bound doc far p slow) e q

abbrev pub ReleasesAreTold : Type 0
ReleasesAreTold = (doc : Doc) → ReleaseIsTold doc
