-- What an eviction shows that was found.
use Rattle.std.specs.Prelude.{ℕ, [], ◌∷◌}
use Rattle.lens_summary.specs.Cells.{beat_text}
use Rattle.lens_summary.specs.Tables.{Texts}
use Rattle.lens_lateness.specs.declared.late.Late.{Late}

abbrev pub texts_of : ℕ → Late → Texts
texts_of millis e = e.pod.now ∷ e.due.now ∷ beat_text e.beat millis ∷ e.actor.now ∷ e.by_clock.items ∷ e.in_true_time.items ∷ []
