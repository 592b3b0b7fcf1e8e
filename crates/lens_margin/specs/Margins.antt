-- What a controller's lease has to outlast, and what is left: the numbers of the lease premise. Source: profile.
use Rattle.std.specs.Prelude.{ℕ, ◌+◌, ◌-◌, ◌*◌, ◌/◌, nat_lt, Bool, length, Option, Some, None, if◌then◌else◌}
use Rattle.std.specs.Int.{div_ceil}
use Rattle.kube_objects.specs.Document.{Doc, end_beat}
use Rattle.history.specs.Premise.{least_rate, greatest_below, calls_late, span_by, stall_by, answers_come}
use Rattle.script_reader.specs.Leases.{beside_by, waited_seconds}
use Rattle.lens_margin.specs.declared.margin.Margin.{Margin}

-- the greatest rate of any controller's clock
abbrev pub fastest : Doc → ℕ
fastest doc = greatest_below doc (length doc.controllers)

-- the least rate of a controller's own clock
abbrev pub slowest : Doc → ℕ → ℕ
slowest doc p = least_rate doc p (end_beat doc)

-- ---- the numbers

-- the whole seconds above what is demanded, where they are at most a day
abbrev pub least_within : ℕ → ℕ → Option ℕ
least_within needed milli = if nat_lt (needed / (milli * 1000)) 86400 then Some (needed / (milli * 1000) + 1) else None

-- the beats that fit beside the acting, of which a pause counts one more than it has, in milliseconds
abbrev pub stall_within : ℕ → ℕ → ℕ → ℕ → ℕ → Option ℕ
stall_within lease needed acts beat millis = if nat_lt needed lease then Some (((lease - acts - 1) / beat - 1) * millis) else None

-- no lease is enough where answers don't come in time
abbrev pub least_where : Bool → ℕ → ℕ → Option ℕ
least_where come needed milli = if come then least_within needed milli else None

-- by whether answers come in time, the seconds of a lease, what its leader's acting counts, the beats that its pauses may add, those of them that a
-- further pause would be added to, the milliseconds of a beat, the slowest rate, and the fastest of any
abbrev pub numbers : Bool → ℕ → ℕ → ℕ → ℕ → ℕ → ℕ → ℕ → Margin
numbers come seconds acts pauses beside millis slow fast =
    let beat = millis * 1000 * fast * slow in
    let needed = pauses * beat + acts in
    let milli = slow * 1000000000 in
    record {
      lease = seconds * 1000;
      must_exceed = div_ceil needed milli;
      least_seconds = least_where come needed milli;
      longest_stall = stall_within (seconds * 1000 * milli) needed (beside * beat + acts) beat millis;
    }

-- what a controller's leader may act on after its last sent success, in units of 10^-12 s times parts per million
abbrev pub acting : Doc → ℕ → ℕ
acting doc p = span_by (calls_late doc) doc p * fastest doc

-- the numbers of a controller of a document
abbrev pub margin_of : Doc → ℕ → Margin
margin_of doc p =
    numbers (answers_come doc.settings.rules.in_release doc) (waited_seconds doc.settings.rules.respect doc p) (acting doc p) (stall_by (calls_late doc) doc p)
    (beside_by (calls_late doc) doc p) doc.settings.beat_millis (slowest doc p) (fastest doc)
