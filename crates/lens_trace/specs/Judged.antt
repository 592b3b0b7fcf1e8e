-- What `audit` says of a text's form: its code 40. Its other codes say nothing of that.
use Rattle.std.specs.Prelude.{ℕ, ◌==◌, Result, Ok, Err, if◌then◌else◌}
use Rattle.trace_audit.specs.declared.audit_of.Report.{Report}
use Rattle.trace_audit.specs.Verdict.{Fault}
use Rattle.lens_trace.specs.declared.judging.Judged.{Judged}
use Rattle.lens_trace.specs.declared.judging.Judged.TheVariants.{Wrong, IsTrace}

abbrev pub by_code : ℕ → ℕ → Judged
by_code code line = if code == 40 then Wrong line else IsTrace

abbrev pub judged_by : Result Report Fault → Judged
judged_by (Ok report) = IsTrace
judged_by (Err fault) = by_code fault.code fault.line
