-- The states of zones: each `zone` line, with the rate of its taints in 1,000 s.
use Rattle.std.specs.Prelude.{ℕ, List, [], ◌∷◌, decimal, Option, Some, None}
use Rattle.std.specs.Option.{option_map}
use Rattle.trace_lines.specs.declared.line.Line.{Line}
use Rattle.trace_lines.specs.declared.line.Says.{Says}
use Rattle.trace_lines.specs.declared.line.Says.TheVariants as says
use Rattle.lens_summary.specs.Cells.{beat_text}
use Rattle.lens_summary.specs.Tables.{Texts}

-- the zone, its state and its rate
abbrev pub zone_in : Says (List ℕ) → Option (List ℕ × List ℕ × ℕ)
zone_in (says.Zone zone state rate) = Some (zone, state, rate)
zone_in _ = None

abbrev pub found_by : ℕ → Line (List ℕ) → Option Texts
found_by millis l = option_map (λ z. z.0 ∷ beat_text l.beat millis ∷ z.1 ∷ decimal z.2 ∷ l.actor ∷ []) (zone_in l.says)
