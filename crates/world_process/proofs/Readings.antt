-- A controller's clock reads what the definitions say.
use Rattle.std.proofs.Common.{◌≡◌, ℕ, zero, suc, ◌+◌, ◌*◌, ◌/◌, refl, ap, ◌∙◌}
use Rattle.kube_objects.specs.Clocks.{local, wall, moved}
use Rattle.kube_objects.specs.Document.{Doc, beat_micros, offset_millis, retry_period}
use Rattle.kube_objects.specs.Pauses.{can_at}
use Rattle.leader_elector.specs.declared.timing.Timing.{Timing}
use Rattle.leader_elector.specs.Stands.{IsTimingOf}
use Rattle.skew_clock.specs.Clocking.{Clocking, rate_at, reading, wall_when}
use Rattle.pause_times.specs.Clocked.{IsClockOf}
use Rattle.world_process.specs.Clocked.{ClockStands}

pub reading-local : (doc : Doc) (p k : ℕ) (c : Clocking) → ClockStands doc p c → reading c k ≡ local doc p k
unfolding reading
reading-local doc p zero c s = refl
reading-local doc p (suc k) c s =
    ap (λ n. n + c.beat_micros * rate_at c.sets k) (reading-local doc p k c s)
    ∙ ap (λ n. local doc p k + n * rate_at c.sets k) s.micros
    ∙ ap (λ n. local doc p k + beat_micros doc * n) (s.rates k)

pub wall-when : (doc : Doc) (p k shown : ℕ) (c : Clocking) → ClockStands doc p c → shown ≡ local doc p k → wall_when c shown ≡ wall doc p k
wall-when doc p k shown c s is =
    s.offset (c.epoch + shown / 1000000)
    ∙ ap (λ n. moved (offset_millis doc p) (n + shown / 1000000)) s.epoch
    ∙ ap (λ n. moved (offset_millis doc p) (doc.settings.epoch.0 + n / 1000000)) is

-- the reading and the time of day that a process's clock shows at a beat
pub record AreReadings (doc : Doc) (p k read shown : ℕ) : Type 0 where
  pub now : read ≡ local doc p k
  pub wall : shown ≡ wall doc p k

pub readings-are : (doc : Doc) (p k beat now shown : ℕ) (c : Clocking) → ClockStands doc p c → beat ≡ k → now ≡ reading c beat → shown ≡ wall_when c now → AreReadings doc p k now shown
readings-are doc p k beat now shown c s at reads shows =
    let now_is : now ≡ local doc p k = reads ∙ reading-local doc p beat c s ∙ ap (local doc p) at in
    record { now = now_is; wall = shows ∙ wall-when doc p k now c s now_is }

-- ---- pauses

pub clock-is : (doc : Doc) (p : ℕ) (c : Clocking) → ClockStands doc p c → IsClockOf doc p c
clock-is doc p c s = record { end = s.end; local = λ k within. reading-local doc p k c s }

-- the reading at which the next attempt can begin
pub next-at : (doc : Doc) (p k now next : ℕ) (t : Timing) → IsTimingOf doc p t → now ≡ local doc p k → next ≡ can_at doc p (now + t.retry) → next ≡ can_at doc p (local doc p k + retry_period doc p)
next-at doc p k now next t s at can = can ∙ ap (can_at doc p) (ap (λ n. n + t.retry) at ∙ ap (λ n. local doc p k + n) s.retry)
