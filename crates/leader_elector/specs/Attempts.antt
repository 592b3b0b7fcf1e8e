-- How an elector's attempts went, as it keeps it, and when the one after a failure starts.
-- Source: client-go 1.20, `leaderelection.go`: `acquire` waits by `wait.JitterUntil`; `renew` tries again by `wait.PollImmediateUntil`;
-- the ticks are those of client-go 0.36.
use Rattle.std.specs.Prelude.{ℕ, ◌+◌, ◌*◌, ◌/◌, nat_lt, Bool, true, false, cond, List, length, slice_get, Option, Some, None, option_map}
use Rattle.kube_objects.specs.declared.rules.RetryRule.{RetryRule}
use Rattle.kube_objects.specs.declared.rules.RetryRule.TheVariants.{After, Grid, Ticks}
use Rattle.kube_objects.specs.Newest.{or_else}
use Rattle.kube_objects.specs.Retries.{next_point, next_tick}
use Rattle.leader_elector.specs.declared.attempts.Attempts.{Attempts}
use Rattle.leader_elector.specs.declared.reading.Reading.{Reading}
use Rattle.leader_elector.specs.declared.timing.Timing.{Timing}

-- which of its waits a candidate's next failure takes; when the attempt began that is under way; and where the last one failed, the
-- reading from which a leader counts its retry periods
pub record AttemptState : Type 0 where
  pub place : ℕ
  pub began : Option ℕ
  pub origin : Option ℕ

abbrev pub at_reading : Option Reading → Option ℕ
at_reading = option_map (λ r. r.at.0)

abbrev pub attempts_of : Attempts → AttemptState
attempts_of a = record { place = a.place; began = at_reading a.began; origin = at_reading a.origin }

abbrev pub none_yet : AttemptState
none_yet = record { place = 0; began = None; origin = None }

-- an attempt begins, or goes on
abbrev pub with_begin : ℕ → AttemptState → AttemptState
with_begin now a = record a { began = Some (or_else now a.began) }

-- it has succeeded
abbrev pub with_success : AttemptState → AttemptState
with_success a = record a { began = None; origin = None }

-- ---- a failure

-- the waits come in turn
abbrev pub next_place : (place count : ℕ) → ℕ
next_place place count = cond (nat_lt (place + 1) count) (place + 1) 0

abbrev pub wait_at : (waits : List ℕ) → (place : ℕ) → ℕ
wait_at waits place = or_else 1000 (slice_get waits place)

abbrev pub candidate_waits : (period : ℕ) → (waits : List ℕ) → (place : ℕ) → ℕ
candidate_waits period waits place = period * wait_at waits place / 1000

-- the grid begins with the first failure, the ticks with the first attempt
abbrev pub begins_with : RetryRule → (now : ℕ) → AttemptState → ℕ
begins_with After now a = now
begins_with Grid now a = now
begins_with Ticks now a = or_else now a.began

-- the reading from which a leader counts
abbrev pub counts_from : RetryRule → (now : ℕ) → AttemptState → ℕ
counts_from rule now a = or_else (begins_with rule now a) a.origin

abbrev pub leader_waits : RetryRule → (period now : ℕ) → AttemptState → ℕ
leader_waits After period now a = now + period
leader_waits Grid period now a = next_point (counts_from Grid now a) period now
leader_waits Ticks period now a = next_tick (counts_from Ticks now a) period (or_else now a.began) now

-- the reading until which an elector waits
abbrev pub waits_until : Timing → (waits : List ℕ) → (led : Bool) → (now : ℕ) → AttemptState → ℕ
waits_until t waits true now a = leader_waits t.retries t.retry now a
waits_until t waits false now a = now + candidate_waits t.retry waits a.place

abbrev pub after_failure : RetryRule → (waits : List ℕ) → (led : Bool) → (now : ℕ) → AttemptState → AttemptState
after_failure rule waits led now a = record {
  place = cond led a.place (next_place a.place (length waits));
  began = None;
  origin = Some (counts_from rule now a);
}
