-- How long nobody leads at most and at least: what is claimed of the history of a document.
use Rattle.std.specs.Prelude.{ℕ}
use Rattle.kube_objects.specs.Document.{Doc}
use Rattle.kube_objects.specs.Entry.{Identity}
use Rattle.kube_objects.specs.Own.{ReleasesByStop}
use Rattle.history.specs.Safe.{Acts, IsActing}
use Rattle.history.specs.Sound.{IsSound}
use Rattle.calm_laws.specs.Bounds.{TakesOver}
use Rattle.gap_laws.specs.Gaps.{GapLasts, OtherWaits}
use Rattle.release_laws.specs.Releases.{ReleaseIsTold}
use Rattle.settle_laws.specs.Settles.{Settles}
use Rattle.silence_laws.specs.Least.{ReleaseLasts, SilenceIsTold}
use Rattle.stay_laws.specs.Stays.{LeaderStays}
use Rattle.succession_laws.specs.Successions.{ActsOn, Succeeds}

-- who acts as its turn begins acts at its tick, and the reverse
abbrev pub ActsAlike : Doc → Type 0
ActsAlike doc = (q : Identity) (k : ℕ) → (Acts doc q k → IsActing doc q k) × (IsActing doc q k → Acts doc q k)

-- whatever its clocks, delays, losses and crashes
pub record IsTimely (doc : Doc) : Type 0 where
  -- it is as every document that is read, which the claims below go by
  pub sound : IsSound doc
  -- those who act by the claims below are those of the claims on the lease
  pub acting : ReleasesByStop doc → ActsAlike doc
  -- in a calm span somebody acts by a beat that one candidate's settings and clock tell
  pub takes_over : TakesOver doc
  -- whoever had a success by a call of a calm span acts at each beat from then on, and nobody else writes the election Lease
  pub stays : LeaderStays doc
  -- so one does from a beat on that one candidate, and the longest term and lease of any, tell
  pub settles : Settles doc
  -- a lead over another's record comes no sooner after its write than what the one who leads waits for it and three messages take
  pub gap : GapLasts doc
  -- and where the lease premise holds, so much later than another has acted
  pub waits : OtherWaits doc
  -- after a leader in a calm falls silent nobody else leads for so many beats at least
  pub silence : SilenceIsTold doc
  -- and after an accepted release for four messages
  pub release : ReleaseLasts doc
  -- by so many at most another does then, and stays
  pub release_followed : ReleaseIsTold doc
  -- and by so many at most another does, and stays
  pub succeeds : Succeeds doc
  -- and the leader acts on for no longer than its retry period and renew deadline after its last success
  pub acts_on : ActsOn doc
