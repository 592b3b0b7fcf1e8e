-- What `summary --document --json` answers: the object of `summary --json`, whose evictions also tell how late they were.
use Rattle.std.specs.Prelude.{ℕ, ◌-◌, ◌==◌, ◌++◌, nat_le, pos, neg_ℤ, List, [], ◌∷◌, set, codes, filter_map, Option, Some, if◌then◌else◌}
use Rattle.std.specs.Option.{option_map}
use Rattle.serde_json.specs.Data.{Data, null, number, unsigned, negative}
use Rattle.kube_base.specs.declared.numbers.Wall.{Wall}
use Rattle.kube_base.specs.Times.{time_of}
use Rattle.kube_objects.specs.Clocks.{store_wall}
use Rattle.run_edge.specs.Outcome.{Reply, refusal}
use Rattle.run_edge.specs.declared.status.Verdict.TheVariants.{Done}
use Rattle.lens_json.specs.Members.{Named}
use Rattle.lens_json.specs.Parts.{list_of}
use Rattle.lens_summary.specs.FigureLines.{pod_members}
use Rattle.lens_summary.specs.Figures.{members_on}
use Rattle.lens_summary.specs.Pods.{eviction_in}
use Rattle.lens_trace.specs.Objects.{object_reply}
use Rattle.script_reader.specs.declared.document.Document.{Document}
use Rattle.script_reader.specs.Documents.{doc_of}
use Rattle.trace_lines.specs.declared.header.Header.{Header}
use Rattle.trace_lines.specs.declared.line.Line.{Line}
use Rattle.lens_lateness.specs.Clocks.{own_time}

-- ---- an eviction

-- by how much one time is after another, all in microseconds; below 0 where it is the earlier one
abbrev pub micros_after : ℕ → ℕ → Data
micros_after now due = if nat_le due now then number (unsigned (now - due)) else number (negative (neg_ℤ (pos (due - now))))

abbrev pub late_number : Option ℕ → Option Wall → Data
late_number (Some now) (Some due) = micros_after now due.0
late_number _ _ = null

-- the members that `summary --json` has, and how late that was by the clock of who did it and in true time
abbrev pub late_members : Line (List ℕ) → List ℕ × List ℕ → Data → Data → List Named
late_members l e by_clock in_true_time =
    pod_members l e ++ (codes "lateByItsClockMicros", by_clock) ∷ (codes "lateInTrueTimeMicros", in_true_time) ∷ []

abbrev pub late_by : Document → Line (List ℕ) → Option (List Named)
late_by d l =
    option_map (λ e. late_members l e (late_number (own_time d l.actor l.beat) (time_of e.1)) (late_number (Some (store_wall (doc_of d) l.beat)) (time_of e.1)))
    (eviction_in l.says)

abbrev pub late_objects : Document → List (Line (List ℕ)) → List (List Named)
late_objects d ls = filter_map (late_by d) ls

-- ---- the answer

-- the members of `summary --json`, of which these evictions take the place of the sixth, which are its own
abbrev pub late_figures : Document → Header → List (Line (List ℕ)) → List Named
late_figures d header ls = set (members_on header ls) 5 (codes "evictions", list_of (late_objects d ls))

abbrev pub told : Document → Header → List (Line (List ℕ)) → Reply
told d header ls = object_reply Done (late_figures d header ls)

-- what is told of a trace beside its document; a trace with beats of another length isn't one of this document
abbrev pub figures : Document → Header → List (Line (List ℕ)) → Reply
figures d header ls = if header.beat_millis == d.settings.beat_millis then told d header ls else refusal 44 (codes "/1")
