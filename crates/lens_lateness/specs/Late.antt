-- How late pods were evicted: for each accepted `evict` line the time of day at its beat less the due, by the clock of the controller that
-- evicted it and by the store's, which runs at the true rate.
use Rattle.std.specs.Prelude.{ℕ, ◌-◌, ◌/◌, ◌%◌, ◌++◌, nat_le, List, [], ◌∷◌, codes, decimal, filter_map, Option, Some, if◌then◌else◌}
use Rattle.std.specs.Option.{option_map}
use Rattle.kube_base.specs.declared.numbers.Wall.{Wall}
use Rattle.kube_base.specs.Times.{time_of}
use Rattle.kube_objects.specs.Clocks.{store_wall}
use Rattle.script_reader.specs.declared.document.Document.{Document}
use Rattle.script_reader.specs.Documents.{doc_of}
use Rattle.trace_lines.specs.declared.line.Line.{Line}
use Rattle.lens_summary.specs.Cells.{beat_text}
use Rattle.lens_summary.specs.Tables.{Texts}
use Rattle.lens_summary.specs.Pods.{eviction_in}
use Rattle.lens_lateness.specs.Clocks.{own_time}

-- microseconds in seconds and whole tenths
unfoldable pub seconds_text : ℕ → List ℕ
seconds_text micros = decimal (micros / 1_000_000) ++ codes "." ++ decimal (micros / 100_000 % 10) ++ codes "s"

-- by how much one time is after another, both in microseconds; `-` stands before it where it is the earlier one
unfoldable pub lateness_text : ℕ → ℕ → List ℕ
lateness_text now due = if nat_le due now then seconds_text (now - due) else codes "-" ++ seconds_text (due - now)

abbrev pub late_text : Option ℕ → Option Wall → List ℕ
late_text (Some now) (Some due) = lateness_text now due.0
late_text _ _ = codes "-"

abbrev pub late_by : Document → Line (List ℕ) → Option Texts
late_by d l =
    option_map (λ e. e.0 ∷ e.1 ∷ beat_text l.beat d.settings.beat_millis ∷ l.actor
    ∷ late_text (own_time d l.actor l.beat) (time_of e.1) ∷ late_text (Some (store_wall (doc_of d) l.beat)) (time_of e.1) ∷ [])
    (eviction_in l.says)

abbrev pub late : Document → List (Line (List ℕ)) → List Texts
late d ls = filter_map (late_by d) ls

abbrev pub heading : Texts
heading = codes "POD" ∷ codes "DUE" ∷ codes "EVICTED" ∷ codes "BY" ∷ codes "LATE-BY-ITS-CLOCK" ∷ codes "LATE-IN-TRUE-TIME" ∷ []

abbrev pub late_rows : Document → List (Line (List ℕ)) → List Texts
late_rows d ls = heading ∷ late d ls
