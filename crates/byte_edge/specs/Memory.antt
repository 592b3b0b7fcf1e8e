-- What the sources and sinks over memory hold, and how each of their calls is planned.
use Rattle.std.specs.Prelude.{ℕ, ◌+◌, ◌-◌, ◌^◌, ◌==◌, min, List, drop, Bool, Result, Ok, Err, if◌then◌else◌, ◌||◌}
use Rattle.std.specs.List.{list_any}
use Rattle.byte_edge.specs.declared.outside.Failed.{Failed}
use Rattle.byte_edge.specs.declared.mem_source.MemSource.{MemSource}
use Rattle.byte_edge.specs.declared.mem_sink.MemSink.{MemSink}

-- at most so many bytes a call, and the numbers of the calls that fail
pub record SourcePlan : Type 0 where
  pub chunk : ℕ
  pub fails : List ℕ

-- at most so many bytes in all, at most so many a call, and the numbers of the calls that fail
pub record SinkPlan : Type 0 where
  pub room : ℕ
  pub chunk : ℕ
  pub fails : List ℕ

abbrev pub left_of : MemSource → List ℕ
left_of s = drop s.position s.bytes.items

abbrev pub source_plan : MemSource → SourcePlan
source_plan s = record { chunk = s.chunk; fails = s.fails.items }

abbrev pub calls_of_source : MemSource → ℕ
calls_of_source s = s.calls

abbrev pub faults_of_source : MemSource → ℕ
faults_of_source s = s.faults

abbrev pub held_by : MemSink → List ℕ
held_by s = s.bytes.items

abbrev pub sink_plan : MemSink → SinkPlan
sink_plan s = record { room = s.room; chunk = s.chunk; fails = s.fails.items }

abbrev pub calls_of_sink : MemSink → ℕ
calls_of_sink s = s.calls

abbrev pub faults_of_sink : MemSink → ℕ
faults_of_sink s = s.faults

-- a count of 64 bits that stays at its last value
abbrev pub one_more : ℕ → ℕ
one_more n = min (n + 1) (2 ^ 64 - 1)

abbrev pub fails_at : ℕ → List ℕ → Bool
fails_at call fails = list_any (λ n. n == call) fails

-- the answer to a call for `asked` bytes where `left` are left
abbrev pub taken_by : SourcePlan → ℕ → ℕ → ℕ → Result ℕ Failed
taken_by plan call left asked = if fails_at call plan.fails then Err (record {}) else Ok (min (min plan.chunk asked) left)

-- the answer to a call with `offered` bytes where `held` are held
abbrev pub given_to : SinkPlan → ℕ → ℕ → ℕ → Result ℕ Failed
given_to plan call held offered =
    if plan.room - held == 0 || fails_at call plan.fails then Err (record {})
    else Ok (min (min plan.chunk offered) (plan.room - held))
