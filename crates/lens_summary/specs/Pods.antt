-- The pods that were evicted: each accepted `evict` line, with when the pod was due and when it was done.
use Rattle.std.specs.Prelude.{ℕ, List, [], ◌∷◌, Option, Some, None}
use Rattle.std.specs.Option.{option_map}
use Rattle.trace_lines.specs.declared.line.Answer.TheVariants as answer
use Rattle.trace_lines.specs.declared.line.Line.{Line}
use Rattle.trace_lines.specs.declared.line.Says.{Says}
use Rattle.trace_lines.specs.declared.line.Says.TheVariants as says
use Rattle.lens_summary.specs.Cells.{beat_text}
use Rattle.lens_summary.specs.Tables.{Texts}

-- the pod that is evicted, and when it was due
abbrev pub eviction_in : Says (List ℕ) → Option (List ℕ × List ℕ)
eviction_in (says.Evict pod due (answer.Done version)) = Some (pod, due)
eviction_in _ = None

abbrev pub evicted_by : ℕ → Line (List ℕ) → Option Texts
evicted_by millis l = option_map (λ e. e.0 ∷ e.1 ∷ beat_text l.beat millis ∷ l.actor ∷ []) (eviction_in l.says)
